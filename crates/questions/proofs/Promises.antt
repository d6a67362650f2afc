-- NO TWO OUTCOMES MEET A PROMISE of questions: a theorem about each public function's own contract. Assumes nothing.
use Rattle.wire.specs.OneOutcome.{OneOutcome, plain}
use Rattle.wire.proofs.Unique.{one_page}
use Rattle.questions.specs.contracts.pose as pose

pub pose_one : OneOutcome pose.ended (λ M 𝓤. pose.clauses {𝓤 = 𝓤})
pose_one M 𝓤 𝓛 m r κs a g z z' ws ws' = plain 𝓤 (λ p q. let e = one_page p q in (e.1, λ i. (tt, (tt, (tt, (tt, (e.0 i, tt)))))))
