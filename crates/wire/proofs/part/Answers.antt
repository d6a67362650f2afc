use Rattle.wire.specs.Wire.{part}
use native.Mathlib.Nat.{add-sub_cancel_left}
use borrow.Author.Tests.{le-leb, lt-leb}
use Rattle.wire.proofs.part.Goals as goal
use Rattle.wire.proofs.part.Goals.{else-start-s-via-then-start-s+else-len-s, else-start-s-via-else-start-s}

pub returns-then-len-s : goal.returns-then-len-s
unfolding part
returns-then-len-s c = simp (le-leb _ _ c.if-start-s.true, le-leb _ _ c.if-len-s.true, add-sub_cancel_left)

pub returns-else-start-s : goal.returns-else-start-s
unfolding part
returns-else-start-s c = elim c.else-start-s.branch [
  | else-start-s-via-then-start-s+else-len-s w ↦ simp (le-leb _ _ w.if-start-s.true, lt-leb _ _ w.if-len-s.false)
  | else-start-s-via-else-start-s w ↦ simp (lt-leb _ _ w.if-start-s.false)
]
