-- NO TWO OUTCOMES MEET A PROMISE of wire: a theorem about each public function's own contract. Assumes nothing.
use Prim.Native.Nat.{ℕ}
use mathlib.Core.List.{List}
use denote.RattleType.{RattleType}
use Rattle.wire.specs.OneOutcome.{OneOutcome, OneSeen, plain}
use Rattle.wire.proofs.Unique.{one_equal, one_write}
use Rattle.wire.specs.contracts.give as give
use Rattle.wire.specs.contracts.padded as padded
use Rattle.wire.specs.contracts.put_padded as put_padded
use Rattle.wire.specs.contracts.put_bytes as put_bytes
use Rattle.wire.specs.contracts.be2 as be2
use Rattle.wire.specs.contracts.be4 as be4
use Rattle.wire.specs.contracts.put8 as put8
use Rattle.wire.specs.contracts.put16 as put16
use Rattle.wire.specs.contracts.put32 as put32
use Rattle.wire.specs.contracts.get8 as get8
use Rattle.wire.specs.contracts.get16 as get16
use Rattle.wire.specs.contracts.get32 as get32
use Rattle.wire.specs.contracts.has_room as has_room
use Rattle.wire.specs.contracts.equal as equal
use Rattle.wire.specs.contracts.zero_from as zero_from
use Rattle.wire.specs.contracts.part as part
use Rattle.wire.specs.contracts.rest as rest

pub give_one : (N : RattleType) → OneOutcome (give.ended N) (λ M 𝓤. give.clauses N {𝓤 = 𝓤})
give_one N M 𝓤 𝓛 m r κs a g z z' ws ws' = plain 𝓤 (λ p q. let e = one_write p.0 q.0 in (e.1, λ i. (e.0 i, (tt, (tt, tt)))))

pub padded_one : (N : RattleType) → OneOutcome (padded.ended N) (λ M 𝓤. padded.clauses N {𝓤 = 𝓤})
padded_one N M 𝓤 𝓛 m r κs a g z z' ws ws' = plain 𝓤 (λ p q. one_equal p.0 q.0)

pub put_padded_one : OneOutcome put_padded.ended (λ M 𝓤. put_padded.clauses {𝓤 = 𝓤})
put_padded_one M 𝓤 𝓛 m r κs a g z z' ws ws' = plain 𝓤 (λ p q. let e = one_write p q in (e.1, λ i. (e.0 i, (tt, (tt, (tt, tt))))))

pub put_bytes_one : OneOutcome put_bytes.ended (λ M 𝓤. put_bytes.clauses {𝓤 = 𝓤})
put_bytes_one M 𝓤 𝓛 m r κs a g z z' ws ws' = plain 𝓤 (λ p q. let e = one_write p q in (e.1, λ i. (e.0 i, (tt, (tt, tt)))))

pub be2_one : OneOutcome be2.ended (λ M 𝓤. be2.clauses {𝓤 = 𝓤})
be2_one M 𝓤 𝓛 m r κs a g z z' ws ws' = plain 𝓤 (λ p q. one_equal p q)

pub be4_one : OneOutcome be4.ended (λ M 𝓤. be4.clauses {𝓤 = 𝓤})
be4_one M 𝓤 𝓛 m r κs a g z z' ws ws' = plain 𝓤 (λ p q. one_equal p q)

pub put8_one : OneOutcome put8.ended (λ M 𝓤. put8.clauses {𝓤 = 𝓤})
put8_one M 𝓤 𝓛 m r κs a g z z' ws ws' = plain 𝓤 (λ p q. let e = one_write p q in (e.1, λ i. (e.0 i, (tt, (tt, tt)))))

pub put16_one : OneOutcome put16.ended (λ M 𝓤. put16.clauses {𝓤 = 𝓤})
put16_one M 𝓤 𝓛 m r κs a g z z' ws ws' = plain 𝓤 (λ p q. let e = one_write p q in (e.1, λ i. (e.0 i, (tt, (tt, tt)))))

pub put32_one : OneOutcome put32.ended (λ M 𝓤. put32.clauses {𝓤 = 𝓤})
put32_one M 𝓤 𝓛 m r κs a g z z' ws ws' = plain 𝓤 (λ p q. let e = one_write p q in (e.1, λ i. (e.0 i, (tt, (tt, tt)))))

pub get8_one : OneOutcome get8.ended (λ M 𝓤. get8.clauses {𝓤 = 𝓤})
get8_one M 𝓤 𝓛 m r κs a g z z' ws ws' = plain 𝓤 (λ p q. one_equal p q)

pub get16_one : OneOutcome get16.ended (λ M 𝓤. get16.clauses {𝓤 = 𝓤})
get16_one M 𝓤 𝓛 m r κs a g z z' ws ws' = plain 𝓤 (λ p q. one_equal p q)

pub get32_one : OneOutcome get32.ended (λ M 𝓤. get32.clauses {𝓤 = 𝓤})
get32_one M 𝓤 𝓛 m r κs a g z z' ws ws' = plain 𝓤 (λ p q. one_equal p q)

pub has_room_one : OneOutcome has_room.ended (λ M 𝓤. has_room.clauses {𝓤 = 𝓤})
has_room_one M 𝓤 𝓛 m r κs a g z z' ws ws' = plain 𝓤 (λ p q. one_equal p q)

pub equal_one : OneOutcome equal.ended (λ M 𝓤. equal.clauses {𝓤 = 𝓤})
equal_one M 𝓤 𝓛 m r κs a g z z' ws ws' = plain 𝓤 (λ p q. one_equal p q)

pub zero_from_one : OneOutcome zero_from.ended (λ M 𝓤. zero_from.clauses {𝓤 = 𝓤})
zero_from_one M 𝓤 𝓛 m r κs a g z z' ws ws' = plain 𝓤 (λ p q. one_equal p q)

pub part_one : OneSeen part.ended (λ M 𝓤. part.clauses {𝓤 = 𝓤}) (List ℕ) (λ κs z. z.now)
part_one M 𝓤 𝓛 m r κs a g z z' ws ws' = plain 𝓤 (λ p q. one_equal p q)

pub rest_one : OneSeen rest.ended (λ M 𝓤. rest.clauses {𝓤 = 𝓤}) (List ℕ) (λ κs z. z.now)
rest_one M 𝓤 𝓛 m r κs a g z z' ws ws' = plain 𝓤 (λ p q. one_equal p q)
