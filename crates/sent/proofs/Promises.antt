-- NO TWO OUTCOMES MEET A PROMISE of sent: a theorem about each public function's own contract. Assumes nothing.
use Prim.Native.Nat.{ℕ}
use mathlib.Core.Path.{refl}
use mathlib.Core.List.{List}
use Rattle.wire.specs.OneOutcome.{OneOutcome, OneSeen, plain}
use Rattle.wire.proofs.Unique.{one_equal}
use Rattle.sent.proofs.Unique.{one_filling, one_walk}
use Rattle.sent.specs.contracts.fill as fill
use Rattle.sent.specs.contracts.none as none
use Rattle.sent.specs.contracts.Sent.new as sent_new
use Rattle.sent.specs.contracts.Sent.walk as sent_walk
use Rattle.sent.specs.contracts.Sent.has as sent_has
use Rattle.sent.specs.contracts.Sent.times as sent_times
use Rattle.sent.specs.contracts.Sent.none_twice as sent_none_twice
use Rattle.sent.specs.contracts.Sent.holds as sent_holds
use Rattle.sent.specs.contracts.Sent.value as sent_value

pub none_one : OneOutcome none.ended (λ M 𝓤. none.clauses {𝓤 = 𝓤})
none_one M 𝓤 𝓛 m r κs a g z z' ws ws' = plain 𝓤 (λ p q. one_equal p q)

pub fill_one : OneOutcome fill.ended (λ M 𝓤. fill.clauses {𝓤 = 𝓤})
fill_one M 𝓤 𝓛 m r κs a g z z' ws ws' = plain 𝓤 (λ p q. let e = one_filling p q in (e.0, λ i. (tt, (e.1 i, tt))))

pub sent_new_one : OneOutcome sent_new.ended (λ M 𝓤. sent_new.clauses {𝓤 = 𝓤})
sent_new_one M 𝓤 𝓛 m r κs a g z z' ws ws' = plain 𝓤 (λ p q. one_equal p q)

pub sent_walk_one : OneOutcome sent_walk.ended (λ M 𝓤. sent_walk.clauses {𝓤 = 𝓤})
sent_walk_one M 𝓤 𝓛 m r κs a g z z' ws ws' = plain 𝓤 (λ p q. (refl, λ i. (one_walk p q i, tt)))

pub sent_has_one : OneOutcome sent_has.ended (λ M 𝓤. sent_has.clauses {𝓤 = 𝓤})
sent_has_one M 𝓤 𝓛 m r κs a g z z' ws ws' = plain 𝓤 (λ p q. one_equal p q)

pub sent_times_one : OneOutcome sent_times.ended (λ M 𝓤. sent_times.clauses {𝓤 = 𝓤})
sent_times_one M 𝓤 𝓛 m r κs a g z z' ws ws' = plain 𝓤 (λ p q. one_equal p q)

pub sent_none_twice_one : OneOutcome sent_none_twice.ended (λ M 𝓤. sent_none_twice.clauses {𝓤 = 𝓤})
sent_none_twice_one M 𝓤 𝓛 m r κs a g z z' ws ws' = plain 𝓤 (λ p q. one_equal p q)

pub sent_value_one : OneSeen sent_value.ended (λ M 𝓤. sent_value.clauses {𝓤 = 𝓤}) (List ℕ) (λ κs z. z.now)
sent_value_one M 𝓤 𝓛 m r κs a g z z' ws ws' = plain 𝓤 (λ p q. one_equal p q)

pub sent_holds_one : OneOutcome sent_holds.ended (λ M 𝓤. sent_holds.clauses {𝓤 = 𝓤})
sent_holds_one M 𝓤 𝓛 m r κs a g z z' ws ws' = plain 𝓤 (λ p q. one_equal p q)
