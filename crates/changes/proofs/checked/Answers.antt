use Rattle.writing.proofs.Renewed.{anew_counters}
use Rattle.changes.proofs.checked.Goals as goal

pub returns : goal.returns
returns c = λ rest h. anew_counters _ (rw (c.checked.ensures, c.counters.ensures) at c.counters-2.ensures) h
