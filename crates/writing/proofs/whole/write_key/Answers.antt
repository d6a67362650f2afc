use Rattle.wire.proofs.Laws.{runs, then}
use Rattle.card.specs.Image.{enc_key}
use Rattle.writing.proofs.whole.write_key.Goals as goal

pub returns : goal.returns
unfolding enc_key
returns c = then (runs c.put8-at.ensures) (runs c.give.ensures.0)
