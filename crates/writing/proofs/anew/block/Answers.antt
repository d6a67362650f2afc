use Rattle.wire.proofs.Laws.{runs, then}
use Rattle.card.specs.Image.{enc_block}
use Rattle.cards.proofs.Shape.{held_block_wide}
use Rattle.writing.proofs.Laws.{guarded, barred}
use Rattle.writing.proofs.anew.block.Goals as goal

pub returns-then-not-has_room : goal.returns-then-not-has_room
returns-then-not-has_room c = barred (held_block_wide c.args.held.now) c.if-not-has_room.ensures

pub returns : goal.returns
unfolding enc_block
returns c = guarded (held_block_wide c.args.held.now) c.if-not-has_room.ensures (then (runs c.put16-at.ensures) (runs c.put_padded.ensures))
