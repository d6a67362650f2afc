use Rattle.std.proofs.Common.{arith}
use Rattle.wire.proofs.Laws.{wrote_append, wrote_one, wrote_more}
use Rattle.noteline.proofs.Laws.{line_short}
use Rattle.noteline.proofs.put_line.Goals as goal

pub returns : goal.returns
returns c = (
  rw (← c.part.ensures)
      (wrote_append c.put_decimal_then-a.ensures.0
      (wrote_append c.put_decimal_then-b.ensures.0
      (wrote_append c.put_decimal_then-c.ensures.0
      (wrote_more c.put_bytes-d.ensures (wrote_one c.put8.ensures))))),
  λ e. line_short c.args.note.now e (omega arith) (omega arith),
)
