use mathlib.Core.Path.{◌≡◌}
use lib.Dec.{eqb}
use Rattle.wire.proofs.Laws.{quarters}
use Rattle.wire.proofs.quarters.Given as goal

abbrev pub invariant-loop-i : goal.invariant-loop-i
invariant-loop-i l = eqb l.any 0 ≡ quarters l.s l.at l.n l.i
