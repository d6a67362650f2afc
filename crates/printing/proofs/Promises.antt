-- NO TWO OUTCOMES MEET A PROMISE of printing: a theorem about each public function's own contract. Assumes nothing.
use Rattle.wire.specs.OneOutcome.{OneOutcome, plain}
use Rattle.wire.proofs.Unique.{one_equal, one_write, one_page}
use Rattle.printing.specs.contracts.put_sums as put_sums
use Rattle.printing.specs.contracts.put_tap as put_tap
use Rattle.printing.specs.contracts.put_told as put_told
use Rattle.printing.specs.contracts.put_bad as put_bad
use Rattle.printing.specs.contracts.is_same as is_same

pub put_sums_one : OneOutcome put_sums.ended (λ M 𝓤. put_sums.clauses {𝓤 = 𝓤})
put_sums_one M 𝓤 𝓛 m r κs a g z z' ws ws' = plain 𝓤 (λ p q. let e = one_page p.0 q.0 in (e.1, λ i. (e.0 i, (tt, (tt, (tt, (tt, tt)))))))

pub put_tap_one : OneOutcome put_tap.ended (λ M 𝓤. put_tap.clauses {𝓤 = 𝓤})
put_tap_one M 𝓤 𝓛 m r κs a g z z' ws ws' = plain 𝓤 (λ p q. let e = one_page p.0 q.0 in (e.1, λ i. (e.0 i, (tt, (tt, (tt, tt))))))

pub put_told_one : OneOutcome put_told.ended (λ M 𝓤. put_told.clauses {𝓤 = 𝓤})
put_told_one M 𝓤 𝓛 m r κs a g z z' ws ws' = plain 𝓤 (λ p q. let e = one_write p.0 q.0 in (e.1, λ i. (e.0 i, (tt, (tt, tt)))))

pub put_bad_one : OneOutcome put_bad.ended (λ M 𝓤. put_bad.clauses {𝓤 = 𝓤})
put_bad_one M 𝓤 𝓛 m r κs a g z z' ws ws' = plain 𝓤 (λ p q. let e = one_page p.0 q.0 in (e.1, λ i. (e.0 i, (tt, tt))))

pub is_same_one : OneOutcome is_same.ended (λ M 𝓤. is_same.clauses {𝓤 = 𝓤})
is_same_one M 𝓤 𝓛 m r κs a g z z' ws ws' = plain 𝓤 (λ p q. one_equal p q)
