use Rattle.std.proofs.Common.{◌≡◌}
use lib.Seq.{paste}
use Rattle.wire.proofs.copy_each.Given as goal

abbrev pub invariant-loop-i : goal.invariant-loop-i
invariant-loop-i l = l.out ≡ paste l.initial.out l.at l.v l.i
