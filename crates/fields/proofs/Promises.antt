-- NO TWO OUTCOMES MEET A PROMISE of fields: a theorem about each public function's own contract. Assumes nothing.
use Rattle.wire.specs.OneOutcome.{OneOutcome, plain}
use Rattle.wire.proofs.Unique.{one_equal, one_write}
use Rattle.fields.specs.contracts.put_field as put_field
use Rattle.fields.specs.contracts.put_byte as put_byte
use Rattle.fields.specs.contracts.put_short as put_short
use Rattle.fields.specs.contracts.put_number as put_number
use Rattle.fields.specs.contracts.step_at as step_at
use Rattle.fields.specs.contracts.find as find
use Rattle.fields.specs.contracts.stands as stands

pub put_field_one : OneOutcome put_field.ended (λ M 𝓤. put_field.clauses {𝓤 = 𝓤})
put_field_one M 𝓤 𝓛 m r κs a g z z' ws ws' = plain 𝓤 (λ p q. let e = one_write p q in (e.1, λ i. (e.0 i, (tt, (tt, (tt, tt))))))

pub put_byte_one : OneOutcome put_byte.ended (λ M 𝓤. put_byte.clauses {𝓤 = 𝓤})
put_byte_one M 𝓤 𝓛 m r κs a g z z' ws ws' = plain 𝓤 (λ p q. let e = one_write p q in (e.1, λ i. (e.0 i, (tt, (tt, (tt, tt))))))

pub put_short_one : OneOutcome put_short.ended (λ M 𝓤. put_short.clauses {𝓤 = 𝓤})
put_short_one M 𝓤 𝓛 m r κs a g z z' ws ws' = plain 𝓤 (λ p q. let e = one_write p q in (e.1, λ i. (e.0 i, (tt, (tt, (tt, tt))))))

pub put_number_one : OneOutcome put_number.ended (λ M 𝓤. put_number.clauses {𝓤 = 𝓤})
put_number_one M 𝓤 𝓛 m r κs a g z z' ws ws' = plain 𝓤 (λ p q. let e = one_write p q in (e.1, λ i. (e.0 i, (tt, (tt, (tt, tt))))))

pub step_at_one : OneOutcome step_at.ended (λ M 𝓤. step_at.clauses {𝓤 = 𝓤})
step_at_one M 𝓤 𝓛 m r κs a g z z' ws ws' = plain 𝓤 (λ p q. one_equal p q)

pub find_one : OneOutcome find.ended (λ M 𝓤. find.clauses {𝓤 = 𝓤})
find_one M 𝓤 𝓛 m r κs a g z z' ws ws' = plain 𝓤 (λ p q. one_equal p q)

pub stands_one : OneOutcome stands.ended (λ M 𝓤. stands.clauses {𝓤 = 𝓤})
stands_one M 𝓤 𝓛 m r κs a g z z' ws ws' = plain 𝓤 (λ p q. one_equal p q)
