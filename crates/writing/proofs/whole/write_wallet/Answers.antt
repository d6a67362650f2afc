use Rattle.wire.proofs.Laws.{runs, then}
use Rattle.card.specs.Image.{enc_wallet}
use Rattle.writing.proofs.whole.write_wallet.Goals as goal

pub returns : goal.returns
unfolding enc_wallet
returns c = then (then (then (runs c.put8-at.ensures) (runs c.put16-at.ensures)) (runs c.put32-at.ensures)) (runs c.put32.ensures)
