-- NO TWO OUTCOMES MEET A PROMISE of personalise: a theorem about each public function's own contract. Assumes nothing.
use mathlib.Core.Path.{sym, ◌∙◌}
use Rattle.wire.specs.OneOutcome.{OneOutcome, plain}
use Rattle.wire.proofs.Unique.{one_equal}
use Rattle.personalise.specs.contracts.personalise as personalise
use Rattle.personalise.specs.contracts.card_of as card_of

pub personalise_one : OneOutcome personalise.ended (λ M 𝓤. personalise.clauses {𝓤 = 𝓤})
personalise_one M 𝓤 𝓛 m r κs a g z z' ws ws' = plain 𝓤 (λ p q. (p.0 ∙ sym q.0, λ i. (tt, ((p.1 ∙ sym q.1) i, tt))))

pub card_of_one : OneOutcome card_of.ended (λ M 𝓤. card_of.clauses {𝓤 = 𝓤})
card_of_one M 𝓤 𝓛 m r κs a g z z' ws ws' = plain 𝓤 (λ p q. one_equal p q)
