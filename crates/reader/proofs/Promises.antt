-- NO TWO OUTCOMES MEET A PROMISE of reader: a theorem about each public function's own contract. Assumes nothing.
use Prim.Native.Nat.{ℕ}
use mathlib.Core.Path.{refl, sym, ◌∙◌}
use mathlib.Core.List.{List}
use Rattle.wire.specs.OneOutcome.{OneOutcome, OneSeen, plain}
use Rattle.wire.proofs.Unique.{one_equal}
use Rattle.reader.specs.contracts.Reader.new as reader_new
use Rattle.reader.specs.contracts.Reader.next as reader_next
use Rattle.reader.specs.contracts.step as step
use Rattle.reader.specs.contracts.Reader.value as reader_value

pub reader_new_one : OneOutcome reader_new.ended (λ M 𝓤. reader_new.clauses {𝓤 = 𝓤})
reader_new_one M 𝓤 𝓛 m r κs a g z z' ws ws' = plain 𝓤 (λ p q. (λ i. record { src = (p.0 ∙ sym q.0) i; at = (p.1 ∙ sym q.1) i }, refl))

pub reader_next_one : OneOutcome reader_next.ended (λ M 𝓤. reader_next.clauses {𝓤 = 𝓤})
reader_next_one M 𝓤 𝓛 m r κs a g z z' ws ws' = plain 𝓤 (λ p q. one_equal p q)

pub step_one : OneOutcome step.ended (λ M 𝓤. step.clauses {𝓤 = 𝓤})
step_one M 𝓤 𝓛 m r κs a g z z' ws ws' = plain 𝓤 (λ p q. one_equal p q)

pub reader_value_one : OneSeen reader_value.ended (λ M 𝓤. reader_value.clauses {𝓤 = 𝓤}) (List ℕ) (λ κs z. z.now)
reader_value_one M 𝓤 𝓛 m r κs a g z z' ws ws' = plain 𝓤 (λ p q. one_equal p q)
