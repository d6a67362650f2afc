use Rattle.writing.proofs.Renewed.{anew_flags}
use Rattle.changes.proofs.activated.Goals as goal

pub returns : goal.returns
returns c = λ rest h. c.reset_pin1.ensures _ rest (anew_flags _ (rw (c.activate.ensures, c.flags.ensures) at c.flags-2.ensures) h)
