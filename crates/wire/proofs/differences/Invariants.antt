use mathlib.Core.Path.{◌≡◌}
use mathlib.Core.Bool.{◌&&◌}
use lib.ListN.{length, drop}
use lib.Dec.{eqb}
use Rattle.wire.specs.Wire.{alike}
use Rattle.wire.proofs.Comparing.{laid}
use Rattle.wire.proofs.differences.Given as goal

abbrev pub invariant-loop-i : goal.invariant-loop-i
invariant-loop-i l = alike (laid l.sent (length l.code)) l.code ≡ (eqb l.any 0 && alike (drop l.i (laid l.sent (length l.code))) (drop l.i l.code))
