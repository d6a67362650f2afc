use Rattle.wire.proofs.Laws.{then}
use Rattle.card.specs.Image.{enc_held}
use Rattle.writing.proofs.whole.write_held.Goals as goal

pub returns : goal.returns
unfolding enc_held
returns c = then (then c.write_block-at.ensures c.write_block-at-2.ensures) c.write_issuer.ensures
