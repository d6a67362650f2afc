use Rattle.printing.proofs.Laws.{sums_short}
use Rattle.wire.proofs.Laws.{wrote_append}
use Rattle.printing.proofs.put_sums.Goals as goal

pub returns : goal.returns
returns c = let x = c.args in (
  wrote_append c.put_decimal_then-a.ensures.0
      (wrote_append c.put_decimal_then-b.ensures.0 (wrote_append c.put_decimal_then-c.ensures.0 c.put_decimal_then.ensures.0)),
  sums_short x.remaining x.signed x.made x.hashes c.put_decimal_then-a.ensures.1 c.put_decimal_then-b.ensures.1 c.put_decimal_then-c.ensures.1
      c.put_decimal_then.ensures.1,
)
