-- NO TWO OUTCOMES MEET A PROMISE of card: a theorem about each public function's own contract. Assumes nothing.
use Rattle.wire.specs.OneOutcome.{OneOutcome, plain}
use Rattle.wire.proofs.Unique.{one_equal}
use Rattle.card.specs.contracts.Flags.activate as flags_activate
use Rattle.card.specs.contracts.Wallet.create as wallet_create
use Rattle.card.specs.contracts.Wallet.sign as wallet_sign
use Rattle.card.specs.contracts.Wallet.purge as wallet_purge
use Rattle.card.specs.contracts.Counters.signed as counters_signed
use Rattle.card.specs.contracts.Counters.checked as counters_checked
use Rattle.card.specs.contracts.Counters.validated as counters_validated
use Rattle.card.specs.contracts.Wait.none as wait_none
use Rattle.card.specs.contracts.Wait.dropped as wait_dropped
use Rattle.card.specs.contracts.Wait.counted as wait_counted
use Rattle.card.specs.contracts.Wait.holding as wait_holding
use Rattle.card.specs.contracts.Card.fresh as card_fresh

pub flags_activate_one : OneOutcome flags_activate.ended (λ M 𝓤. flags_activate.clauses {𝓤 = 𝓤})
flags_activate_one M 𝓤 𝓛 m r κs a g z z' ws ws' = plain 𝓤 (λ p q. one_equal p q)

pub wallet_create_one : OneOutcome wallet_create.ended (λ M 𝓤. wallet_create.clauses {𝓤 = 𝓤})
wallet_create_one M 𝓤 𝓛 m r κs a g z z' ws ws' = plain 𝓤 (λ p q. one_equal p q)

pub wallet_sign_one : OneOutcome wallet_sign.ended (λ M 𝓤. wallet_sign.clauses {𝓤 = 𝓤})
wallet_sign_one M 𝓤 𝓛 m r κs a g z z' ws ws' = plain 𝓤 (λ p q. one_equal p q)

pub wallet_purge_one : OneOutcome wallet_purge.ended (λ M 𝓤. wallet_purge.clauses {𝓤 = 𝓤})
wallet_purge_one M 𝓤 𝓛 m r κs a g z z' ws ws' = plain 𝓤 (λ p q. one_equal p q)

pub counters_signed_one : OneOutcome counters_signed.ended (λ M 𝓤. counters_signed.clauses {𝓤 = 𝓤})
counters_signed_one M 𝓤 𝓛 m r κs a g z z' ws ws' = plain 𝓤 (λ p q. one_equal p q)

pub counters_checked_one : OneOutcome counters_checked.ended (λ M 𝓤. counters_checked.clauses {𝓤 = 𝓤})
counters_checked_one M 𝓤 𝓛 m r κs a g z z' ws ws' = plain 𝓤 (λ p q. one_equal p q)

pub counters_validated_one : OneOutcome counters_validated.ended (λ M 𝓤. counters_validated.clauses {𝓤 = 𝓤})
counters_validated_one M 𝓤 𝓛 m r κs a g z z' ws ws' = plain 𝓤 (λ p q. one_equal p q)

pub wait_none_one : OneOutcome wait_none.ended (λ M 𝓤. wait_none.clauses {𝓤 = 𝓤})
wait_none_one M 𝓤 𝓛 m r κs a g z z' ws ws' = plain 𝓤 (λ p q. one_equal p q)

pub wait_dropped_one : OneOutcome wait_dropped.ended (λ M 𝓤. wait_dropped.clauses {𝓤 = 𝓤})
wait_dropped_one M 𝓤 𝓛 m r κs a g z z' ws ws' = plain 𝓤 (λ p q. one_equal p q)

pub wait_counted_one : OneOutcome wait_counted.ended (λ M 𝓤. wait_counted.clauses {𝓤 = 𝓤})
wait_counted_one M 𝓤 𝓛 m r κs a g z z' ws ws' = plain 𝓤 (λ p q. one_equal p q)

pub wait_holding_one : OneOutcome wait_holding.ended (λ M 𝓤. wait_holding.clauses {𝓤 = 𝓤})
wait_holding_one M 𝓤 𝓛 m r κs a g z z' ws ws' = plain 𝓤 (λ p q. one_equal p q)

pub card_fresh_one : OneOutcome card_fresh.ended (λ M 𝓤. card_fresh.clauses {𝓤 = 𝓤})
card_fresh_one M 𝓤 𝓛 m r κs a g z z' ws ws' = plain 𝓤 (λ p q. one_equal p q)
