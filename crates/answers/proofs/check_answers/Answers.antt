use Rattle.std.proofs.Common.{refl, sym, ◌∙◌}
use Rattle.answers.proofs.Laws.{none, more, exactly_shaped}
use Rattle.answers.proofs.check_answers.Goals as goal

pub returns-then-has : goal.returns-then-has
returns-then-has c = λ f d. rw (sym c.has.ensures ∙ c.if-has.true) (c.are_signatures.ensures ∙ exactly_shaped (more refl (more refl none)) _)

pub returns-else-has : goal.returns-else-has
returns-else-has c = λ f d. rw (sym c.has.ensures ∙ c.if-has.false) (c.are_signatures-else-has.ensures ∙ exactly_shaped (more refl none) _)
