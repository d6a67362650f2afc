-- NO TWO OUTCOMES MEET A PROMISE of noteline: a theorem about each public function's own contract. Assumes nothing.
use Rattle.wire.specs.OneOutcome.{OneOutcome, plain}
use Rattle.wire.proofs.Unique.{one_equal, one_page}
use Rattle.noteline.specs.contracts.note_at as note_at
use Rattle.noteline.specs.contracts.put_line as put_line

pub note_at_one : OneOutcome note_at.ended (λ M 𝓤. note_at.clauses {𝓤 = 𝓤})
note_at_one M 𝓤 𝓛 m r κs a g z z' ws ws' = plain 𝓤 (λ p q. one_equal p q)

pub put_line_one : OneOutcome put_line.ended (λ M 𝓤. put_line.clauses {𝓤 = 𝓤})
put_line_one M 𝓤 𝓛 m r κs a g z z' ws ws' = plain 𝓤 (λ p q. let e = one_page p.0 q.0 in (e.1, λ i. (e.0 i, (tt, (tt, tt)))))
