use Rattle.std.proofs.Common.{rules}
use Rattle.wire.proofs.Laws.{then}
use Rattle.card.specs.Image.{encode}
use Rattle.card.specs.Shape.{Shape}
use Rattle.cards.proofs.Shape.{length_encode}
use Rattle.writing.proofs.Laws.{guarded, barred}
use Rattle.writing.proofs.write.Goals as goal

pub returns-then-not-has_room : goal.returns-then-not-has_room
returns-then-not-has_room c = let s : Shape c.args.card = search rules in let l = length_encode c.args.card s in
    (barred l c.if-not-has_room.ensures, l)

pub returns : goal.returns
unfolding encode
returns c = let s : Shape c.args.card = search rules in let l = length_encode c.args.card s in
    (guarded l c.if-not-has_room.ensures (then c.write_codes-at.ensures c.write_face.ensures), l)
