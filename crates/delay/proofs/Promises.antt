-- NO TWO OUTCOMES MEET A PROMISE of delay: a theorem about each public function's own contract. Assumes nothing.
use Rattle.wire.specs.OneOutcome.{OneOutcome, plain}
use Rattle.wire.proofs.Unique.{one_equal}
use Rattle.delay.specs.contracts.pace as pace
use Rattle.delay.specs.contracts.refused as refused

pub pace_one : OneOutcome pace.ended (λ M 𝓤. pace.clauses {𝓤 = 𝓤})
pace_one M 𝓤 𝓛 m r κs a g z z' ws ws' = plain 𝓤 (λ p q. one_equal p q)

pub refused_one : OneOutcome refused.ended (λ M 𝓤. refused.clauses {𝓤 = 𝓤})
refused_one M 𝓤 𝓛 m r κs a g z z' ws ws' = plain 𝓤 (λ p q. one_equal p q)
