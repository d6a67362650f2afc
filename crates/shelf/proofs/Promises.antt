-- NO TWO OUTCOMES MEET A PROMISE of shelf: a theorem about each public function's own contract. Assumes nothing.
use Rattle.wire.specs.OneOutcome.{OneOutcome, plain}
use Rattle.wire.proofs.Unique.{one_equal}
use Rattle.shelf.specs.contracts.first_bad as first_bad

pub first_bad_one : OneOutcome first_bad.ended (λ M 𝓤. first_bad.clauses {𝓤 = 𝓤})
first_bad_one M 𝓤 𝓛 m r κs a g z z' ws ws' = plain 𝓤 (λ p q. one_equal p q)
