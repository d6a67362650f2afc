-- NO TWO OUTCOMES MEET A PROMISE of request: a theorem about each public function's own contract. Assumes nothing.
use Prim.Native.Nat.{ℕ}
use mathlib.Core.List.{List}
use Rattle.wire.specs.OneOutcome.{OneOutcome, OneSeen, plain}
use Rattle.wire.proofs.Unique.{one_equal}
use Rattle.request.specs.contracts.lc_of as lc_of
use Rattle.request.specs.contracts.command as command
use Rattle.request.specs.contracts.signing as signing
use Rattle.request.specs.contracts.resets as resets
use Rattle.request.specs.contracts.sent_counter as sent_counter
use Rattle.request.specs.contracts.payload as payload
use Rattle.request.specs.contracts.body as body

pub lc_of_one : OneOutcome lc_of.ended (λ M 𝓤. lc_of.clauses {𝓤 = 𝓤})
lc_of_one M 𝓤 𝓛 m r κs a g z z' ws ws' = plain 𝓤 (λ p q. one_equal p q)

pub command_one : OneOutcome command.ended (λ M 𝓤. command.clauses {𝓤 = 𝓤})
command_one M 𝓤 𝓛 m r κs a g z z' ws ws' = plain 𝓤 (λ p q. one_equal p q)

pub signing_one : OneOutcome signing.ended (λ M 𝓤. signing.clauses {𝓤 = 𝓤})
signing_one M 𝓤 𝓛 m r κs a g z z' ws ws' = plain 𝓤 (λ p q. one_equal p q)

pub resets_one : OneOutcome resets.ended (λ M 𝓤. resets.clauses {𝓤 = 𝓤})
resets_one M 𝓤 𝓛 m r κs a g z z' ws ws' = plain 𝓤 (λ p q. one_equal p q)

pub sent_counter_one : OneOutcome sent_counter.ended (λ M 𝓤. sent_counter.clauses {𝓤 = 𝓤})
sent_counter_one M 𝓤 𝓛 m r κs a g z z' ws ws' = plain 𝓤 (λ p q. one_equal p q)

pub payload_one : OneSeen payload.ended (λ M 𝓤. payload.clauses {𝓤 = 𝓤}) (List ℕ) (λ κs z. z.now)
payload_one M 𝓤 𝓛 m r κs a g z z' ws ws' = plain 𝓤 (λ p q. one_equal p q)

pub body_one : OneSeen body.ended (λ M 𝓤. body.clauses {𝓤 = 𝓤}) (List ℕ) (λ κs z. z.now)
body_one M 𝓤 𝓛 m r κs a g z z' ws ws' = plain 𝓤 (λ p q. one_equal p q)
