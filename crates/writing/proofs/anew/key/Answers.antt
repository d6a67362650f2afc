use Rattle.card.specs.Image.{enc_key}
use Rattle.cards.proofs.Shape.{held_key_wide}
use Rattle.writing.proofs.Laws.{guarded, barred}
use Rattle.writing.proofs.anew.key.Goals as goal

pub returns-then-not-has_room : goal.returns-then-not-has_room
returns-then-not-has_room c = barred (held_key_wide c.args.key.now) c.if-not-has_room.ensures

pub returns : goal.returns
unfolding enc_key
returns c = guarded (held_key_wide c.args.key.now) c.if-not-has_room.ensures c.put_sized.ensures
