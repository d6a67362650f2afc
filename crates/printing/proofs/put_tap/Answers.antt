use Rattle.printing.proofs.Laws.{tap_short}
use Rattle.wire.proofs.Laws.{wrote_one, wrote_more, wrote_append}
use Rattle.printing.proofs.put_tap.Goals as goal

pub returns : goal.returns
returns c = let x = c.args in (
  wrote_append c.put_decimal_then-b.ensures.0
      (wrote_more c.put_sameness-c.ensures (wrote_more c.put8-d.ensures (wrote_more c.put_bytes-e.ensures (wrote_one c.put8.ensures)))),
  tap_short x.n x.same x.told.now c.put_decimal_then-b.ensures.1,
)
