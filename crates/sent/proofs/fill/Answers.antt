use native.Mathlib.Omega.{arith}
use mathlib.Core.Path.{refl, sym, ◌∙◌}
use Rattle.fields.specs.Fields.{ended, broken}
use Rattle.fields.proofs.Laws.{after, bounds_of}
use Rattle.sent.proofs.Laws.{begun, walk_on, walk_ends}
use Rattle.sent.proofs.fill.Goals as goal

pub loop-tag-init : goal.loop-tag-init
loop-tag-init c = begun _ _

pub loop-tag-smaller : goal.loop-tag-smaller
loop-tag-smaller c = omega (arith, bounds_of _ _ (sym c.step.ensures ∙ c.in-Field.is))

pub loop-tag-preserved : goal.loop-tag-preserved
loop-tag-preserved c = walk_on c.loop-tag.invariant
    (sym c.step.ensures ∙ c.in-Field.is) c.note.ensures

pub returns-in-Bad : goal.returns-in-Bad
returns-in-Bad c = walk_ends broken c.loop-tag.invariant (after _ _ (sym c.step.ensures ∙ c.in-Bad.is)) refl refl

pub returns-in-End : goal.returns-in-End
returns-in-End c = walk_ends ended c.loop-tag.invariant (after _ _ (sym c.step.ensures ∙ c.in-End.is)) refl refl
