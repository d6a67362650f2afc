use Prim.Native.Nat.{◌-◌}
use lib.ListN.{length}
use Rattle.sent.proofs.Laws.{Midway}
use Rattle.sent.proofs.fill.Given as goal

abbrev pub invariant-loop-tag : goal.invariant-loop-tag
invariant-loop-tag l = Midway l.p l.initial.at l.at l.here

abbrev pub decreases-loop-tag : goal.decreases-loop-tag
decreases-loop-tag l = length l.p - l.here
