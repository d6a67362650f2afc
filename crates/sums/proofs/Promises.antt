-- NO TWO OUTCOMES MEET A PROMISE of sums: a theorem about each public function's own contract. Assumes nothing.
use Rattle.wire.specs.OneOutcome.{OneOutcome, plain}
use Rattle.wire.proofs.Unique.{one_equal}
use Rattle.sums.specs.contracts.none as none
use Rattle.sums.specs.contracts.count as count
use Rattle.sums.specs.contracts.live_signs as live_signs

pub none_one : OneOutcome none.ended (λ M 𝓤. none.clauses {𝓤 = 𝓤})
none_one M 𝓤 𝓛 m r κs a g z z' ws ws' = plain 𝓤 (λ p q. one_equal p q)

pub count_one : OneOutcome count.ended (λ M 𝓤. count.clauses {𝓤 = 𝓤})
count_one M 𝓤 𝓛 m r κs a g z z' ws ws' = plain 𝓤 (λ p q. one_equal p q)

pub live_signs_one : OneOutcome live_signs.ended (λ M 𝓤. live_signs.clauses {𝓤 = 𝓤})
live_signs_one M 𝓤 𝓛 m r κs a g z z' ws ws' = plain 𝓤 (λ p q. one_equal p q)
