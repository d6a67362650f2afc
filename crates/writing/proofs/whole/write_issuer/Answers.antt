use Rattle.wire.proofs.Laws.{runs, then}
use Rattle.card.specs.Image.{enc_issuer}
use Rattle.writing.proofs.whole.write_issuer.Goals as goal

pub returns : goal.returns
unfolding enc_issuer
returns c = then (then c.write_block-at.ensures (runs c.give-at.ensures.0)) (runs c.put32.ensures)
