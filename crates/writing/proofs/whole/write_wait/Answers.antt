use Rattle.wire.proofs.Laws.{runs, then}
use Rattle.card.specs.Image.{enc_wait}
use Rattle.writing.proofs.whole.write_wait.Goals as goal

pub returns : goal.returns
unfolding enc_wait
returns c = then (then (runs c.put8-at.ensures) (runs c.put8-at-2.ensures)) (runs c.put16.ensures)
