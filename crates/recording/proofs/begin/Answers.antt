use native.Mathlib.Omega.{arith}
use lib.ListN.{length}
use borrow.Author.Tests.{eq-eqb, le-leb}
use Rattle.recording.specs.Step.{line_room, leaves, room_for}
use Rattle.recording.proofs.begin.Goals as goal

pub returns : goal.returns
unfolding leaves room_for
returns c = let k = c.in-Some.ensures.cases in
    rw (eq-eqb _ _ k.long, le-leb line_room (length c.args.out.now) (omega arith)) (rw k.same at c.fresh_card.ensures)
