use Prim.Native.Nat.{◌≤◌}
use lib.ListN.{drop}
use mathlib.Core.Path.{◌≡◌}
use Rattle.text.specs.Text.{decimal_from, decimal}
use Rattle.text.proofs.sum.Given as goal

abbrev pub invariant-loop-b : goal.invariant-loop-b
invariant-loop-b l = (l.n ≤ 4294967295) × (decimal l.s ≡ decimal_from l.n (drop l.b-index l.s))
