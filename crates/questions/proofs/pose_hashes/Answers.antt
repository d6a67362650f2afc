use Rattle.std.proofs.Common.{◌*◌}
use native.Mathlib.Nat.{add-sub_cancel_left}
use Rattle.card.specs.Image.{decode}
use Rattle.manual.specs.Words.{hash_size}
use Rattle.questions.proofs.Laws.{hash_more, asked_all}
use Rattle.questions.proofs.pose_hashes.Goals as goal

pub loop-i-preserved : goal.loop-i-preserved
loop-i-preserved c = hash_more (decode c.args.img.now).face _ _ c.loop-i-test.true c.loop-i.invariant
    (rw (add-sub_cancel_left (c.loop-i.i * hash_size) hash_size) at c.put_question-at.ensures)

pub returns : goal.returns
returns c = asked_all (decode c.args.img.now).face _ _ c.loop-i-test.false c.loop-i.invariant
