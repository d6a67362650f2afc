use Rattle.wire.proofs.Laws.{runs, then}
use Rattle.card.specs.Image.{enc_pending}
use Rattle.writing.proofs.whole.write_pending.Goals as goal

pub returns : goal.returns
unfolding enc_pending
returns c = then c.write_wait-at.ensures (runs c.give.ensures.0)
