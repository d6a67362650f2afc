use mathlib.Core.Path.{sym, ◌∙◌}
use Rattle.changes.proofs.Laws.{anew_pin1}
use Rattle.changes.proofs.reset_pin1.Goals as goal

pub returns-then-resets : goal.returns-then-resets
returns-then-resets c = λ f rest h. rw (sym c.resets.ensures ∙ c.if-resets.true) (anew_pin1 (rw c.pin2.ensures at c.codes.ensures) h)

pub returns-else-resets : goal.returns-else-resets
returns-else-resets c = λ f rest h. rw (sym c.resets.ensures ∙ c.if-resets.false) h
