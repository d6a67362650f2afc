-- NO TWO OUTCOMES MEET A PROMISE of image: a theorem about each public function's own contract. Assumes nothing.
use Prim.Native.Nat.{ℕ}
use mathlib.Core.List.{List}
use Rattle.wire.specs.OneOutcome.{OneOutcome, OneSeen, plain}
use Rattle.wire.proofs.Unique.{one_equal}
use Rattle.image.specs.contracts.curve as curve
use Rattle.image.specs.contracts.max as max
use Rattle.image.specs.contracts.pause as pause
use Rattle.image.specs.contracts.flags as flags
use Rattle.image.specs.contracts.wallet as wallet
use Rattle.image.specs.contracts.counters as counters
use Rattle.image.specs.contracts.note_counter as note_counter
use Rattle.image.specs.contracts.wait as wait
use Rattle.image.specs.contracts.last_count as last_count
use Rattle.image.specs.contracts.is_card as is_card
use Rattle.image.specs.contracts.pin1 as pin1
use Rattle.image.specs.contracts.pin2 as pin2
use Rattle.image.specs.contracts.cid as cid
use Rattle.image.specs.contracts.cvc as cvc
use Rattle.image.specs.contracts.seed as seed
use Rattle.image.specs.contracts.key as key
use Rattle.image.specs.contracts.user as user
use Rattle.image.specs.contracts.protected as protected
use Rattle.image.specs.contracts.note as note
use Rattle.image.specs.contracts.note_signature as note_signature
use Rattle.image.specs.contracts.held as held
use Rattle.image.specs.contracts.last as last

pub curve_one : OneOutcome curve.ended (λ M 𝓤. curve.clauses {𝓤 = 𝓤})
curve_one M 𝓤 𝓛 m r κs a g z z' ws ws' = plain 𝓤 (λ p q. one_equal p q)

pub max_one : OneOutcome max.ended (λ M 𝓤. max.clauses {𝓤 = 𝓤})
max_one M 𝓤 𝓛 m r κs a g z z' ws ws' = plain 𝓤 (λ p q. one_equal p q)

pub pause_one : OneOutcome pause.ended (λ M 𝓤. pause.clauses {𝓤 = 𝓤})
pause_one M 𝓤 𝓛 m r κs a g z z' ws ws' = plain 𝓤 (λ p q. one_equal p q)

pub flags_one : OneOutcome flags.ended (λ M 𝓤. flags.clauses {𝓤 = 𝓤})
flags_one M 𝓤 𝓛 m r κs a g z z' ws ws' = plain 𝓤 (λ p q. one_equal p q)

pub wallet_one : OneOutcome wallet.ended (λ M 𝓤. wallet.clauses {𝓤 = 𝓤})
wallet_one M 𝓤 𝓛 m r κs a g z z' ws ws' = plain 𝓤 (λ p q. one_equal p q)

pub counters_one : OneOutcome counters.ended (λ M 𝓤. counters.clauses {𝓤 = 𝓤})
counters_one M 𝓤 𝓛 m r κs a g z z' ws ws' = plain 𝓤 (λ p q. one_equal p q)

pub note_counter_one : OneOutcome note_counter.ended (λ M 𝓤. note_counter.clauses {𝓤 = 𝓤})
note_counter_one M 𝓤 𝓛 m r κs a g z z' ws ws' = plain 𝓤 (λ p q. one_equal p q)

pub wait_one : OneOutcome wait.ended (λ M 𝓤. wait.clauses {𝓤 = 𝓤})
wait_one M 𝓤 𝓛 m r κs a g z z' ws ws' = plain 𝓤 (λ p q. one_equal p q)

pub last_count_one : OneOutcome last_count.ended (λ M 𝓤. last_count.clauses {𝓤 = 𝓤})
last_count_one M 𝓤 𝓛 m r κs a g z z' ws ws' = plain 𝓤 (λ p q. one_equal p q)

pub is_card_one : OneOutcome is_card.ended (λ M 𝓤. is_card.clauses {𝓤 = 𝓤})
is_card_one M 𝓤 𝓛 m r κs a g z z' ws ws' = plain 𝓤 (λ p q. one_equal p q)

pub pin1_one : OneSeen pin1.ended (λ M 𝓤. pin1.clauses {𝓤 = 𝓤}) (List ℕ) (λ κs z. z.now)
pin1_one M 𝓤 𝓛 m r κs a g z z' ws ws' = plain 𝓤 (λ p q. one_equal p q)

pub pin2_one : OneSeen pin2.ended (λ M 𝓤. pin2.clauses {𝓤 = 𝓤}) (List ℕ) (λ κs z. z.now)
pin2_one M 𝓤 𝓛 m r κs a g z z' ws ws' = plain 𝓤 (λ p q. one_equal p q)

pub cid_one : OneSeen cid.ended (λ M 𝓤. cid.clauses {𝓤 = 𝓤}) (List ℕ) (λ κs z. z.now)
cid_one M 𝓤 𝓛 m r κs a g z z' ws ws' = plain 𝓤 (λ p q. one_equal p q)

pub cvc_one : OneSeen cvc.ended (λ M 𝓤. cvc.clauses {𝓤 = 𝓤}) (List ℕ) (λ κs z. z.now)
cvc_one M 𝓤 𝓛 m r κs a g z z' ws ws' = plain 𝓤 (λ p q. one_equal p q)

pub seed_one : OneSeen seed.ended (λ M 𝓤. seed.clauses {𝓤 = 𝓤}) (List ℕ) (λ κs z. z.now)
seed_one M 𝓤 𝓛 m r κs a g z z' ws ws' = plain 𝓤 (λ p q. one_equal p q)

pub key_one : OneSeen key.ended (λ M 𝓤. key.clauses {𝓤 = 𝓤}) (List ℕ) (λ κs z. z.now)
key_one M 𝓤 𝓛 m r κs a g z z' ws ws' = plain 𝓤 (λ p q. one_equal p q)

pub user_one : OneSeen user.ended (λ M 𝓤. user.clauses {𝓤 = 𝓤}) (List ℕ) (λ κs z. z.now)
user_one M 𝓤 𝓛 m r κs a g z z' ws ws' = plain 𝓤 (λ p q. one_equal p q)

pub protected_one : OneSeen protected.ended (λ M 𝓤. protected.clauses {𝓤 = 𝓤}) (List ℕ) (λ κs z. z.now)
protected_one M 𝓤 𝓛 m r κs a g z z' ws ws' = plain 𝓤 (λ p q. one_equal p q)

pub note_one : OneSeen note.ended (λ M 𝓤. note.clauses {𝓤 = 𝓤}) (List ℕ) (λ κs z. z.now)
note_one M 𝓤 𝓛 m r κs a g z z' ws ws' = plain 𝓤 (λ p q. one_equal p q)

pub note_signature_one : OneSeen note_signature.ended (λ M 𝓤. note_signature.clauses {𝓤 = 𝓤}) (List ℕ) (λ κs z. z.now)
note_signature_one M 𝓤 𝓛 m r κs a g z z' ws ws' = plain 𝓤 (λ p q. one_equal p q)

pub held_one : OneSeen held.ended (λ M 𝓤. held.clauses {𝓤 = 𝓤}) (List ℕ) (λ κs z. z.now)
held_one M 𝓤 𝓛 m r κs a g z z' ws ws' = plain 𝓤 (λ p q. one_equal p q)

pub last_one : OneSeen last.ended (λ M 𝓤. last.clauses {𝓤 = 𝓤}) (List ℕ) (λ κs z. z.now)
last_one M 𝓤 𝓛 m r κs a g z z' ws ws' = plain 𝓤 (λ p q. one_equal p q)
