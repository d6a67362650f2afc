use Prim.Native.Nat.{◌+◌}
use lib.ListN.{drop}
use mathlib.Core.Path.{◌≡◌}
use Rattle.text.specs.Lines.{length_to}
use Rattle.text.proofs.lines.length_to.Given as goal

abbrev pub invariant-loop-i : goal.invariant-loop-i
invariant-loop-i l = length_to l.b l.s ≡ l.i + length_to l.b (drop l.i l.s)
