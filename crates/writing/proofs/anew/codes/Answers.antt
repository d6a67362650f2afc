use Rattle.wire.proofs.Laws.{runs, then}
use Rattle.card.specs.Image.{enc_codes}
use Rattle.cards.proofs.Shape.{held_codes_wide}
use Rattle.writing.proofs.Laws.{guarded, barred}
use Rattle.writing.proofs.anew.codes.Goals as goal

pub returns-then-not-has_room : goal.returns-then-not-has_room
returns-then-not-has_room c = barred (held_codes_wide c.args.pin1.now c.args.pin2.now) c.if-not-has_room.ensures

pub returns : goal.returns
unfolding enc_codes
returns c = guarded (held_codes_wide c.args.pin1.now c.args.pin2.now) c.if-not-has_room.ensures (then (runs c.put_padded-at.ensures) (runs c.put_padded.ensures))
