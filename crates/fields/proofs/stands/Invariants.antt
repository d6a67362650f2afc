use Rattle.fields.proofs.Often.{Met}
use lib.ListN.{length}
use Prim.Native.Nat.{◌-◌}
use Rattle.fields.proofs.stands.Given as goal

abbrev pub invariant-loop-t : goal.invariant-loop-t
invariant-loop-t l = Met l.tag l.s l.at l.n

abbrev pub decreases-loop-t : goal.decreases-loop-t
decreases-loop-t l = length l.s - l.at
