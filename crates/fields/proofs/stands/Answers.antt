use Rattle.fields.proofs.Laws.{bounds_of}
use Rattle.fields.proofs.Often.{meets, none_more}
use native.Mathlib.Omega.{arith}
use mathlib.Core.Path.{sym, ◌∙◌}
use Rattle.fields.proofs.stands.Goals as goal

pub loop-t-smaller : goal.loop-t-smaller
loop-t-smaller c = omega (arith, bounds_of _ _ (sym c.step_at.ensures ∙ c.in-Field.is))

pub loop-t-preserved : goal.loop-t-preserved
loop-t-preserved c = meets c.loop-t.invariant (sym c.step_at.ensures ∙ c.in-Field.is) c.meet-n.ensures

pub returns : goal.returns
returns c = none_more c.loop-t.invariant (sym c.step_at.ensures) c.in_default.not-Field c.told.ensures
