use native.Mathlib.Omega.{arith}
use mathlib.Core.Path.{sym, ◌∙◌}
use Rattle.fields.proofs.Laws.{past, step_cut, step_short, step_long_cut, step_long}
use Rattle.fields.proofs.step_at.Goals as goal

pub returns-then-s-at : goal.returns-then-s-at
returns-then-s-at c = sym (past _ _ c.if-s-at.true)

pub returns-in-len2-up : goal.returns-in-len2-up
returns-in-len2-up c = c.field_at.ensures ∙ sym (step_short _ _ c.in-len2-up.len_at_least (omega arith))

pub returns-in-len4-up : goal.returns-in-len4-up
returns-in-len4-up c =
    c.field_at-in-len4-up.ensures ∙ sym (step_long _ _ c.in-len4-up.len_at_least (omega arith))

pub returns-in_default : goal.returns-in_default
returns-in_default c = sym (step_cut _ _ c.if-s-at.false c.in_default.len_below)

pub returns-in_default-2 : goal.returns-in_default-2
returns-in_default-2 c = sym (step_long_cut _ _ c.in-len2-up.len_at_least c.in_default.len_below (omega arith))
