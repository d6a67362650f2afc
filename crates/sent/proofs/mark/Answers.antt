use Prim.Native.Nat.{◌%◌}
use native.Mathlib.Nat.{mod-lt}
use native.Mathlib.Omega.{arith}
use Rattle.sent.specs.Sent.{with_mark}
use Rattle.sent.proofs.Marks.{shifted}
use Rattle.sent.proofs.mark.Goals as goal

pub returns : goal.returns
unfolding with_mark
returns c = let x = c.args in rw (shifted (x.t % 32) (mod-lt x.t (omega arith)))
