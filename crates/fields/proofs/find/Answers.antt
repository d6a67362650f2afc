use Rattle.fields.proofs.Laws.{bounds_of, hit, miss, over}
use native.Mathlib.Omega.{arith}
use mathlib.Core.Path.{◌∙◌, sym}
use Rattle.fields.proofs.find.Goals as goal

pub returns-then-t-tag : goal.returns-then-t-tag
returns-then-t-tag c = sym (c.loop-t.invariant ∙ hit _ _ _ (sym c.step_at.ensures ∙ c.in-Field.is) c.if-t-tag.true)

pub loop-t-smaller : goal.loop-t-smaller
loop-t-smaller c = omega (arith, bounds_of _ _ (sym c.step_at.ensures ∙ c.in-Field.is))

pub loop-t-preserved : goal.loop-t-preserved
loop-t-preserved c = c.loop-t.invariant ∙ miss _ _ _ (sym c.step_at.ensures ∙ c.in-Field.is) c.if-t-tag.false

pub returns : goal.returns
returns c = sym (c.loop-t.invariant ∙ over _ _ _ (sym c.step_at.ensures) c.in_default.not-Field)
