use Rattle.wire.proofs.Laws.{runs, then}
use Rattle.card.specs.Image.{enc_pending}
use Rattle.cards.proofs.Shape.{held_request_wide}
use Rattle.writing.proofs.Laws.{guarded, barred}
use Rattle.writing.proofs.anew.pending.Goals as goal

pub returns-then-not-has_room : goal.returns-then-not-has_room
returns-then-not-has_room c = barred (held_request_wide c.args.x c.args.held.now) c.if-not-has_room.ensures

pub returns : goal.returns
unfolding enc_pending
returns c = guarded (held_request_wide c.args.x c.args.held.now) c.if-not-has_room.ensures (then c.write_wait-at.ensures (runs c.put_padded.ensures))
