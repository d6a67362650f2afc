use Rattle.std.proofs.Common.{arith}
use Rattle.booktext.proofs.Laws.{lined_none, lined_more, lined_all}
use Rattle.booktext.proofs.put_lines.Goals as goal

pub loop-note-init : goal.loop-note-init
loop-note-init c = lined_none _ _

pub loop-note-preserved : goal.loop-note-preserved
loop-note-preserved c = lined_more c.loop-note.invariant c.loop-note-test.true c.put_line-at.ensures.0 c.put_line-at.ensures.1

pub returns : goal.returns
returns c = lined_all c.loop-note.invariant (omega arith) (omega arith)
