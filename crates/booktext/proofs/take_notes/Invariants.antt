use Rattle.std.proofs.Common.{length}
use Rattle.booktext.proofs.Laws.{Taken}
use Rattle.booktext.proofs.take_notes.Given as goal

abbrev pub invariant-loop-rest : goal.invariant-loop-rest
invariant-loop-rest l = Taken l.text l.n l.notes l.last l.rest

abbrev pub decreases-loop-rest : goal.decreases-loop-rest
decreases-loop-rest l = length l.rest
