-- NO TWO OUTCOMES MEET A PROMISE of gate: a theorem about each public function's own contract. Assumes nothing.
use Rattle.wire.specs.OneOutcome.{OneOutcome, plain}
use Rattle.wire.proofs.Unique.{one_equal}
use Rattle.gate.specs.contracts.header as header
use Rattle.gate.specs.contracts.judge as judge

pub header_one : OneOutcome header.ended (λ M 𝓤. header.clauses {𝓤 = 𝓤})
header_one M 𝓤 𝓛 m r κs a g z z' ws ws' = plain 𝓤 (λ p q. one_equal p q)

pub judge_one : OneOutcome judge.ended (λ M 𝓤. judge.clauses {𝓤 = 𝓤})
judge_one M 𝓤 𝓛 m r κs a g z z' ws ws' = plain 𝓤 (λ p q. one_equal p q)
