use Rattle.wire.proofs.Laws.{or_zero}
use Rattle.sent.proofs.Sent.none_twice.Goals as goal

pub returns : goal.returns
returns c = simp or_zero
