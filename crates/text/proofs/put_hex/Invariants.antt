use Prim.Native.Nat.{◌*◌}
use lib.Seq.{paste}
use mathlib.Core.Path.{◌≡◌}
use Rattle.text.specs.Text.{hex_of}
use Rattle.text.proofs.put_hex.Given as goal

abbrev pub invariant-loop-i : goal.invariant-loop-i
invariant-loop-i l = l.out ≡ paste l.initial.out l.at (hex_of l.v) (2 * l.i)
