use Rattle.writing.proofs.Renewed.{anew_counters, anew_last}
use Rattle.changes.proofs.signed_anew.Goals as goal

pub returns : goal.returns
returns c = λ t rest h. anew_last _ c.last.ensures (anew_counters _ (rw (c.signed.ensures, c.counters.ensures) at c.counters-2.ensures) h)
