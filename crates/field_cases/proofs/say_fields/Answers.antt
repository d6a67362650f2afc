-- A field ends past where it started and within the payload (`bounds_of`).
use Rattle.std.proofs.Common.{arith, sym, ◌∙◌}
use Rattle.fields.proofs.Laws.{bounds_of}
use Rattle.field_cases.proofs.say_fields.Goals as goal

pub loop-tag-smaller : goal.loop-tag-smaller
loop-tag-smaller g c = omega (arith, bounds_of _ _ (sym c.step_at.ensures ∙ c.in-Field.is))
