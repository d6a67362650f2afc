use Rattle.questions.proofs.Laws.{Counted}
use Rattle.questions.proofs.size_of.Given as goal

abbrev pub invariant-loop-part : goal.invariant-loop-part
invariant-loop-part l = Counted l.parts l.part-index l.size
