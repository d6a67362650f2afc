use Rattle.wire.proofs.Laws.{wrote_more, wrote_append}
use Rattle.handed.proofs.put_told.Goals as goal

pub returns : goal.returns
returns c = wrote_more c.put_bytes-c.ensures (wrote_more c.put8-d.ensures (wrote_append c.put_decimal_then-e.ensures.0 c.put_decimal_then.ensures.0))
