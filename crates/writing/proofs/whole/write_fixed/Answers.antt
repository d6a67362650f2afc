use Rattle.wire.proofs.Laws.{runs, then}
use Rattle.card.specs.Image.{enc_fixed}
use Rattle.writing.proofs.whole.write_fixed.Goals as goal

pub returns : goal.returns
unfolding enc_fixed
returns c = then (then (then (then (then (runs c.give-at.ensures.0) (runs c.give-at-2.ensures.0)) (runs c.put8-at.ensures)) (runs c.put32-at.ensures)) (runs c.give-at-3.ensures.0)) (runs c.put8.ensures)
