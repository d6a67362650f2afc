-- NO TWO OUTCOMES MEET A PROMISE of text: a theorem about each public function's own contract. Assumes nothing.
use Prim.Native.Nat.{ℕ}
use mathlib.Core.List.{List}
use Rattle.wire.specs.OneOutcome.{OneOutcome, OneSeen, plain}
use Rattle.wire.proofs.Unique.{one_equal, one_write, one_page}
use Rattle.text.specs.contracts.put_hex as put_hex
use Rattle.text.specs.contracts.put_decimal as put_decimal
use Rattle.text.specs.contracts.put_decimal_then as put_decimal_then
use Rattle.text.specs.contracts.unhex as unhex
use Rattle.text.specs.contracts.is_hex as is_hex
use Rattle.text.specs.contracts.is_digits as is_digits
use Rattle.text.specs.contracts.number_of as number_of
use Rattle.text.specs.contracts.lines.length_to as lines_length_to
use Rattle.text.specs.contracts.lines.next_line as lines_next_line
use Rattle.text.specs.contracts.lines.start_of as lines_start_of
use Rattle.text.specs.contracts.lines.is_ended as lines_is_ended
use Rattle.text.specs.contracts.lines.head_to as lines_head_to
use Rattle.text.specs.contracts.lines.tail_after as lines_tail_after
use Rattle.text.specs.contracts.lines.line_of as lines_line_of

pub put_hex_one : OneOutcome put_hex.ended (λ M 𝓤. put_hex.clauses {𝓤 = 𝓤})
put_hex_one M 𝓤 𝓛 m r κs a g z z' ws ws' = plain 𝓤 (λ p q. let e = one_write p q in (e.1, λ i. (e.0 i, (tt, (tt, tt)))))

pub put_decimal_one : OneOutcome put_decimal.ended (λ M 𝓤. put_decimal.clauses {𝓤 = 𝓤})
put_decimal_one M 𝓤 𝓛 m r κs a g z z' ws ws' = plain 𝓤 (λ p q. let e = one_write p q in (e.1, λ i. (e.0 i, (tt, (tt, tt)))))

pub put_decimal_then_one : OneOutcome put_decimal_then.ended (λ M 𝓤. put_decimal_then.clauses {𝓤 = 𝓤})
put_decimal_then_one M 𝓤 𝓛 m r κs a g z z' ws ws' = plain 𝓤 (λ p q. let e = one_page p.0 q.0 in (e.1, λ i. (e.0 i, (tt, (tt, (tt, tt))))))

pub unhex_one : OneOutcome unhex.ended (λ M 𝓤. unhex.clauses {𝓤 = 𝓤})
unhex_one M 𝓤 𝓛 m r κs a g z z' ws ws' = plain 𝓤 (λ p q. let e = one_write p q in (e.1, λ i. (tt, (e.0 i, (tt, tt)))))

pub is_hex_one : OneOutcome is_hex.ended (λ M 𝓤. is_hex.clauses {𝓤 = 𝓤})
is_hex_one M 𝓤 𝓛 m r κs a g z z' ws ws' = plain 𝓤 (λ p q. one_equal p q)

pub is_digits_one : OneOutcome is_digits.ended (λ M 𝓤. is_digits.clauses {𝓤 = 𝓤})
is_digits_one M 𝓤 𝓛 m r κs a g z z' ws ws' = plain 𝓤 (λ p q. one_equal p q)

pub number_of_one : OneOutcome number_of.ended (λ M 𝓤. number_of.clauses {𝓤 = 𝓤})
number_of_one M 𝓤 𝓛 m r κs a g z z' ws ws' = plain 𝓤 (λ p q. one_equal p q)

pub lines_length_to_one : OneOutcome lines_length_to.ended (λ M 𝓤. lines_length_to.clauses {𝓤 = 𝓤})
lines_length_to_one M 𝓤 𝓛 m r κs a g z z' ws ws' = plain 𝓤 (λ p q. one_equal p q)

pub lines_next_line_one : OneOutcome lines_next_line.ended (λ M 𝓤. lines_next_line.clauses {𝓤 = 𝓤})
lines_next_line_one M 𝓤 𝓛 m r κs a g z z' ws ws' = plain 𝓤 (λ p q. one_equal p q)

pub lines_start_of_one : OneOutcome lines_start_of.ended (λ M 𝓤. lines_start_of.clauses {𝓤 = 𝓤})
lines_start_of_one M 𝓤 𝓛 m r κs a g z z' ws ws' = plain 𝓤 (λ p q. one_equal p q)

pub lines_is_ended_one : OneOutcome lines_is_ended.ended (λ M 𝓤. lines_is_ended.clauses {𝓤 = 𝓤})
lines_is_ended_one M 𝓤 𝓛 m r κs a g z z' ws ws' = plain 𝓤 (λ p q. one_equal p q)

pub lines_head_to_one : OneSeen lines_head_to.ended (λ M 𝓤. lines_head_to.clauses {𝓤 = 𝓤}) (List ℕ) (λ κs z. z.now)
lines_head_to_one M 𝓤 𝓛 m r κs a g z z' ws ws' = plain 𝓤 (λ p q. one_equal p q)

pub lines_tail_after_one : OneSeen lines_tail_after.ended (λ M 𝓤. lines_tail_after.clauses {𝓤 = 𝓤}) (List ℕ) (λ κs z. z.now)
lines_tail_after_one M 𝓤 𝓛 m r κs a g z z' ws ws' = plain 𝓤 (λ p q. one_equal p q)

pub lines_line_of_one : OneSeen lines_line_of.ended (λ M 𝓤. lines_line_of.clauses {𝓤 = 𝓤}) (List ℕ) (λ κs z. z.now)
lines_line_of_one M 𝓤 𝓛 m r κs a g z z' ws ws' = plain 𝓤 (λ p q. one_equal p q)
