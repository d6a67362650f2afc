-- NO TWO OUTCOMES MEET A PROMISE of tapline: a theorem about each public function's own contract. Assumes nothing.
use Prim.Native.Nat.{ℕ}
use mathlib.Core.List.{List}
use Rattle.wire.specs.OneOutcome.{OneOutcome, OneSeen, plain}
use Rattle.wire.proofs.Unique.{one_equal}
use Rattle.tapline.specs.contracts.is_tap_line as is_tap_line
use Rattle.tapline.specs.contracts.request as request
use Rattle.tapline.specs.contracts.draw as draw
use Rattle.tapline.specs.contracts.answers as answers
use Rattle.tapline.specs.contracts.expected as expected

pub is_tap_line_one : OneOutcome is_tap_line.ended (λ M 𝓤. is_tap_line.clauses {𝓤 = 𝓤})
is_tap_line_one M 𝓤 𝓛 m r κs a g z z' ws ws' = plain 𝓤 (λ p q. one_equal p q)

pub request_one : OneSeen request.ended (λ M 𝓤. request.clauses {𝓤 = 𝓤}) (List ℕ) (λ κs z. z.now)
request_one M 𝓤 𝓛 m r κs a g z z' ws ws' = plain 𝓤 (λ p q. one_equal p q)

pub draw_one : OneSeen draw.ended (λ M 𝓤. draw.clauses {𝓤 = 𝓤}) (List ℕ) (λ κs z. z.now)
draw_one M 𝓤 𝓛 m r κs a g z z' ws ws' = plain 𝓤 (λ p q. one_equal p q)

pub answers_one : OneSeen answers.ended (λ M 𝓤. answers.clauses {𝓤 = 𝓤}) (List ℕ) (λ κs z. z.now)
answers_one M 𝓤 𝓛 m r κs a g z z' ws ws' = plain 𝓤 (λ p q. one_equal p q)

pub expected_one : OneSeen expected.ended (λ M 𝓤. expected.clauses {𝓤 = 𝓤}) (List ℕ) (λ κs z. z.now)
expected_one M 𝓤 𝓛 m r κs a g z z' ws ws' = plain 𝓤 (λ p q. one_equal p q)
