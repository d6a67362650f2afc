use Rattle.std.proofs.Common.{arith}
use Rattle.questions.proofs.Laws.{count_more, counted_all}
use Rattle.questions.proofs.size_of.Goals as goal

pub loop-part-preserved : goal.loop-part-preserved
loop-part-preserved c = count_more _ _ _ _ c.loop-part-test.true c.loop-part.invariant

pub returns : goal.returns
returns c = counted_all _ _ _ c.loop-part-test.false (omega (arith, c.loop-part.auto.size-fits)) c.loop-part.invariant
