use Rattle.std.proofs.Common.{arith}
use Rattle.text.proofs.Laws.{ten_digits}
use Rattle.wire.proofs.Laws.{wrote_one, wrote_more}
use Rattle.text.proofs.put_decimal_then.Goals as goal

pub returns : goal.returns
returns c = (wrote_more c.put_decimal-a.ensures (wrote_one c.put8.ensures), ten_digits c.args.n (omega (arith, c.ranges.n)))
