use Rattle.wire.proofs.Laws.{runs, then}
use Rattle.card.specs.Image.{enc_block}
use Rattle.writing.proofs.whole.write_block.Goals as goal

pub returns : goal.returns
unfolding enc_block
returns c = then (runs c.put16-at.ensures) (runs c.give.ensures.0)
