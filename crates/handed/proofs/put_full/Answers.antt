use Rattle.wire.proofs.Laws.{wrote_more, wrote_one}
use Rattle.handed.proofs.put_full.Goals as goal

pub returns : goal.returns
returns c = wrote_more c.put_bytes-a.ensures (wrote_one c.put8.ensures)
