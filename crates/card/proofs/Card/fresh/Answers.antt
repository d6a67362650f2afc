use Rattle.card.specs.Values.{fresh}
use Rattle.card.proofs.Card.fresh.Goals as goal

pub returns : goal.returns
unfolding fresh
returns c = cc
