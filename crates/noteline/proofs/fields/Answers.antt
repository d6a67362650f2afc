use Rattle.std.proofs.Common.{◌∙◌}
use Rattle.noteline.specs.NoteLine.{valued, fields_of}
use Rattle.noteline.proofs.fields.Goals as goal

pub returns-in_err-number_of : goal.returns-in_err-number_of
unfolding fields_of valued
returns-in_err-number_of c = c.from_residual.ensures ∙ rw (← c.head_to.ensures, ← c.in_err-number_of.ensures)

pub returns-in_err-number_of-2 : goal.returns-in_err-number_of-2
unfolding fields_of valued
returns-in_err-number_of-2 c =
    c.from_residual-in_err-number_of-2.ensures
    ∙ rw (← c.head_to.ensures, ← c.in_ok-number_of.ensures, ← c.tail_after-second.ensures, ← c.head_to-2.ensures, ← c.in_err-number_of-2.ensures)

pub returns-in_err-number_of-3 : goal.returns-in_err-number_of-3
unfolding fields_of valued
returns-in_err-number_of-3 c =
    c.from_residual-in_err-number_of-3.ensures
    ∙ rw (← c.head_to.ensures, ← c.in_ok-number_of.ensures, ← c.tail_after-second.ensures, ← c.head_to-2.ensures, ← c.in_ok-number_of-2.ensures, ← c.tail_after-third.ensures, ← c.head_to-3.ensures, ← c.in_err-number_of-3.ensures)

pub returns : goal.returns
unfolding fields_of valued
returns c =
    c.held.ensures
    ∙ rw (← c.head_to.ensures, ← c.in_ok-number_of.ensures, ← c.tail_after-second.ensures, ← c.head_to-2.ensures, ← c.in_ok-number_of-2.ensures, ← c.tail_after-third.ensures, ← c.head_to-3.ensures, ← c.in_ok-number_of-3.ensures, ← c.tail_after.ensures)
