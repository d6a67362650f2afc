use Rattle.std.proofs.Common.{◌≡◌, ◌&&◌, drop}
use lib.Dec.{eqb}
use Rattle.wire.specs.Wire.{all_zero}
use Rattle.wire.proofs.zero_from.Given as goal

abbrev pub invariant-loop-b : goal.invariant-loop-b
invariant-loop-b l = all_zero (drop l.at l.s) ≡ (eqb l.any 0 && all_zero (drop l.b-index l.b-items))
