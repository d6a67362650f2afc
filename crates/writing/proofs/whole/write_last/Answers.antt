use Rattle.wire.proofs.Laws.{runs, then}
use Rattle.card.specs.Image.{enc_last}
use Rattle.writing.proofs.whole.write_last.Goals as goal

pub returns : goal.returns
unfolding enc_last
returns c = then (runs c.put8-at.ensures) (runs c.give.ensures.0)
