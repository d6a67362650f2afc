use Rattle.printing.proofs.Laws.{bad_short}
use Rattle.wire.proofs.Laws.{wrote_more}
use Rattle.printing.proofs.put_bad.Goals as goal

pub returns : goal.returns
returns c = (
  wrote_more c.put_bytes-a.ensures (wrote_more c.put8-b.ensures c.put_decimal_then.ensures.0),
  bad_short c.args.line c.put_decimal_then.ensures.1,
)
