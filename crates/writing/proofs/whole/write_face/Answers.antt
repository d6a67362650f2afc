use Rattle.wire.proofs.Laws.{then}
use Rattle.card.specs.Image.{enc_face}
use Rattle.writing.proofs.whole.write_face.Goals as goal

pub returns : goal.returns
unfolding enc_face
returns c = then (then (then c.write_front-at.ensures c.write_held-at.ensures) c.write_pending-at.ensures) c.write_last.ensures
