use Rattle.card.specs.Image.{enc_last}
use Rattle.cards.proofs.Shape.{held_last_wide}
use Rattle.writing.proofs.Laws.{guarded, barred}
use Rattle.writing.proofs.anew.last.Goals as goal

pub returns-then-not-has_room : goal.returns-then-not-has_room
returns-then-not-has_room c = barred (held_last_wide c.args.signatures.now) c.if-not-has_room.ensures

pub returns : goal.returns
unfolding enc_last
returns c = guarded (held_last_wide c.args.signatures.now) c.if-not-has_room.ensures c.put_sized.ensures
