use Rattle.wire.proofs.Laws.{runs, then}
use Rattle.card.specs.Image.{enc_issuer}
use Rattle.cards.proofs.Shape.{held_issuer_wide}
use Rattle.writing.proofs.Laws.{guarded, barred}
use Rattle.writing.proofs.anew.issuer.Goals as goal

pub returns-then-not-has_room : goal.returns-then-not-has_room
returns-then-not-has_room c = barred (held_issuer_wide c.args.held.now c.args.signature.now c.args.counter) c.if-not-has_room.ensures

pub returns : goal.returns
unfolding enc_issuer
returns c = guarded (held_issuer_wide c.args.held.now c.args.signature.now c.args.counter) c.if-not-has_room.ensures (then (then (runs c.block-at.ensures) (runs c.put_padded-at.ensures)) (runs c.put32.ensures))
