use Rattle.writing.proofs.Renewed.{anew_counters}
use Rattle.changes.proofs.stored.Goals as goal

pub returns : goal.returns
returns c = λ rest h.
    anew_counters _ (rw (c.stored_counters.ensures, c.counters.ensures) at c.counters-2.ensures)
    (c.stored_protected.ensures _ rest (c.stored_user.ensures _ rest h))
