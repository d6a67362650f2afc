use Prim.Native.Nat.{◌-◌, ◌≤◌}
use lib.ListN.{length, drop, length-drop, drop_of_length-le}
use lib.Seq.{take_all}
use mathlib.Core.Path.{sym}
use native.Mathlib.Nat.{le_of_lt}
use native.Mathlib.Omega.{arith}
use Rattle.wire.proofs.rest.Goals as goal

pub returns-then-at-s : goal.returns-then-at-s
returns-then-at-s c = let x = c.args in let h : length (drop x.at x.s.now) ≤ length x.s.now - x.at = simp length-drop (omega arith) in
    take_all (length x.s.now - x.at) (drop x.at x.s.now) h

pub returns-else-at-s : goal.returns-else-at-s
returns-else-at-s c = sym (drop_of_length-le _ (le_of_lt c.if-at-s.false))
