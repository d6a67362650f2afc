use Rattle.card.specs.Image.{decode}
use Rattle.questions.proofs.Laws.{Unasked}
use Rattle.questions.proofs.pose_hashes.Given as goal

abbrev pub invariant-loop-i : goal.invariant-loop-i
invariant-loop-i l = Unasked (decode l.img).face l.hashes l.i l.initial.out l.out l.at
