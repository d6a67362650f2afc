-- A run of writes that the code tested for room first, by the length of all of it. Assumes nothing.
use mathlib.Core.Path.{◌≡◌, sym}
use mathlib.Core.Bool.{true, false}
use mathlib.Core.List.{List}
use Prim.Native.Nat.{ℕ}
use native.Mathlib.Omega.{arith}
use lib.ListN.{length}
use Rattle.wire.specs.Wire.{room, Wrote, Runs}
use Rattle.wire.proofs.Laws.{room_true, room_false, tested, refused}

pub guarded : {d v d' : List ℕ} {at r n : ℕ} → length v ≡ n → true ≡ room (length d) at n → Runs d at v d' r → Wrote d at v d' r
guarded {d} {at = at} {n = n} l e f = let h = room_true (length d) at n (sym e) in tested (omega arith) f

pub barred : {d v : List ℕ} {at n : ℕ} → length v ≡ n → false ≡ room (length d) at n → Wrote d at v d at
barred {d} {at = at} {n} l e = let h = room_false (length d) at n (sym e) in refused (omega arith)
