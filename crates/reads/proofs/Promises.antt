-- NO TWO OUTCOMES MEET A PROMISE of reads: a theorem about its public function's own contract. Assumes nothing.
use Rattle.wire.specs.OneOutcome.{OneOutcome, plain}
use Rattle.wire.proofs.Unique.{one_equal}
use Rattle.reads.specs.contracts.once as once

pub once_one : OneOutcome once.ended (λ M 𝓤. once.clauses {𝓤 = 𝓤})
once_one M 𝓤 𝓛 m r κs a g z z' ws ws' = plain 𝓤 (λ p q. one_equal p q)
