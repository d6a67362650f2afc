-- NO TWO OUTCOMES MEET A PROMISE of changes: a theorem about each public function's own contract. Assumes nothing.
use Rattle.wire.specs.OneOutcome.{OneOutcome, plain}
use Rattle.wire.proofs.Unique.{one_write}
use Rattle.changes.specs.contracts.keep as keep
use Rattle.changes.specs.contracts.change as change

pub keep_one : OneOutcome keep.ended (λ M 𝓤. keep.clauses {𝓤 = 𝓤})
keep_one M 𝓤 𝓛 m r κs a g z z' ws ws' = plain 𝓤 (λ p q. let e = one_write p q in (e.1, λ i. (tt, (e.0 i, tt))))

pub change_one : OneOutcome change.ended (λ M 𝓤. change.clauses {𝓤 = 𝓤})
change_one M 𝓤 𝓛 m r κs a g z z' ws ws' = plain 𝓤 (λ p q. let e = one_write p q in (e.1, λ i. (tt, (tt, (tt, (tt, (e.0 i, tt)))))))
