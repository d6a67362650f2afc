use Rattle.writing.proofs.Renewed.{anew_counters}
use Rattle.changes.proofs.validated.Goals as goal

pub returns : goal.returns
returns c = λ rest h. anew_counters _ (rw (c.validated.ensures, c.counters.ensures) at c.counters-2.ensures) h
