use Rattle.wire.proofs.Laws.{runs, then}
use Rattle.writing.proofs.anew.put_sized.Goals as goal

pub returns : goal.returns
returns c = then (runs c.put8-at.ensures) (runs c.put_padded.ensures)
