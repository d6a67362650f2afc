use mathlib.Core.Path.{sym, ◌∙◌}
use Rattle.writing.proofs.Renewed.{anew_protected}
use Rattle.changes.proofs.stored_protected.Goals as goal

pub returns-then-has : goal.returns-then-has
returns-then-has c = λ t rest h. rw (sym c.has.ensures ∙ c.if-has.true) (anew_protected _ (rw c.value.ensures at c.protected.ensures) h)

pub returns-else-has : goal.returns-else-has
returns-else-has c = λ t rest h. rw (sym c.has.ensures ∙ c.if-has.false) h
