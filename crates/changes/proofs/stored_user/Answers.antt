use mathlib.Core.Path.{sym, ◌∙◌}
use Rattle.writing.proofs.Renewed.{anew_user}
use Rattle.changes.proofs.stored_user.Goals as goal

pub returns-then-has : goal.returns-then-has
returns-then-has c = λ t rest h. rw (sym c.has.ensures ∙ c.if-has.true) (anew_user _ (rw c.value.ensures at c.user.ensures) h)

pub returns-else-has : goal.returns-else-has
returns-else-has c = λ t rest h. rw (sym c.has.ensures ∙ c.if-has.false) h
