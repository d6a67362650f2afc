-- NO TWO OUTCOMES MEET A PROMISE of firstanswer: a theorem about each public function's own contract. Assumes nothing.
use Rattle.wire.specs.OneOutcome.{OneOutcome, plain}
use Rattle.wire.proofs.Unique.{one_page}
use Rattle.firstanswer.specs.contracts.answer as answer

pub answer_one : OneOutcome answer.ended (λ M 𝓤. answer.clauses {𝓤 = 𝓤})
answer_one M 𝓤 𝓛 m r κs a g z z' ws ws' = plain 𝓤 (λ p q. let e = one_page p q in (e.1, λ i. (tt, (e.0 i, tt))))
