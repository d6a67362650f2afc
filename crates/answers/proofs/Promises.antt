-- NO TWO OUTCOMES MEET A PROMISE of answers: a theorem about each public function's own contract. Assumes nothing.
use mathlib.Core.Path.{refl, sym, ◌∙◌}
use mathlib.Core.List.{[]}
use Rattle.wire.specs.OneOutcome.{OneOutcome, plain}
use Rattle.wire.proofs.Unique.{one_equal}
use Rattle.answers.specs.contracts.have_shape as have_shape
use Rattle.answers.specs.contracts.is_confirmed as is_confirmed

pub have_shape_one : OneOutcome have_shape.ended (λ M 𝓤. have_shape.clauses {𝓤 = 𝓤})
have_shape_one M 𝓤 𝓛 m r κs a g z z' ws ws' = plain 𝓤 (λ p q. (p [] ∙ sym (q []), refl))

pub is_confirmed_one : OneOutcome is_confirmed.ended (λ M 𝓤. is_confirmed.clauses {𝓤 = 𝓤})
is_confirmed_one M 𝓤 𝓛 m r κs a g z z' ws ws' = plain 𝓤 (λ p q. one_equal p q)
