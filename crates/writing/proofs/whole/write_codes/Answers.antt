use Rattle.wire.proofs.Laws.{runs, then}
use Rattle.card.specs.Image.{enc_codes}
use Rattle.writing.proofs.whole.write_codes.Goals as goal

pub returns : goal.returns
unfolding enc_codes
returns c = then (runs c.give-at.ensures.0) (runs c.give.ensures.0)
