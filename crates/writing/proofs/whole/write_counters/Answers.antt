use Rattle.wire.proofs.Laws.{runs, then}
use Rattle.card.specs.Image.{enc_counters}
use Rattle.writing.proofs.whole.write_counters.Goals as goal

pub returns : goal.returns
unfolding enc_counters
returns c = then (then (then (runs c.put32-at.ensures) (runs c.put16-at.ensures)) (runs c.put32-at-2.ensures)) (runs c.put32.ensures)
