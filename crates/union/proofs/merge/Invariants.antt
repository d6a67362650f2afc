use Rattle.union.proofs.Laws.{Laid}
use Rattle.union.proofs.merge.Given as goal

abbrev pub invariant-loop-i : goal.invariant-loop-i
invariant-loop-i l = (goal.iterator-loop-i).can_next l.i-iterator × (goal.iterator-loop-i).is_finite l.i-iterator
    × Laid l.first l.second l.fn.joined l.i-iterator.count l.i-iterator.iter l.joined
