use Rattle.questions.proofs.Laws.{write_more, written_all}
use Rattle.questions.proofs.put_parts.Goals as goal

pub loop-part-preserved : goal.loop-part-preserved
loop-part-preserved c = write_more _ _ _ c.loop-part-test.true c.loop-part.invariant c.put_bytes-at.ensures

pub returns : goal.returns
returns c = written_all _ _ c.loop-part-test.false c.loop-part.invariant
