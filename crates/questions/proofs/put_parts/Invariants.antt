use Rattle.questions.proofs.Laws.{Left}
use Rattle.questions.proofs.put_parts.Given as goal

abbrev pub invariant-loop-part : goal.invariant-loop-part
invariant-loop-part l = Left l.parts l.part-index l.initial.out l.initial.at l.out l.at
