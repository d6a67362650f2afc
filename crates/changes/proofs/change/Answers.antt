use Rattle.std.proofs.Common.{◌+◌, ◌≤◌, ◌<◌, ◌≡◌, ◌++◌, length, drop, sym, ap₂, ◌∙◌, arith, eq-eqb, ne_eqb}
use Rattle.wire.proofs.Laws.{runs, front, refused, room_true, room_false}
use Rattle.fields.proofs.Laws.{empty_wrote}
use Rattle.sent.specs.Sent.{view}
use Rattle.card.specs.Layout.{image_size}
use Rattle.card.specs.Image.{encode, decode}
use Rattle.cards.proofs.Shape.{length_encode}
use Rattle.cards.proofs.Round.{encode_decode, shape_decode}
use Rattle.changes.specs.Carried.{carried_card, carried_image}
use Rattle.changes.proofs.Laws.{fronted, carried_shape}
use Rattle.changes.proofs.change.Goals as goal
use Rattle.changes.proofs.change.Goals.{then-img-ne-IMAGE_SIZE-via-then-img-ne-IMAGE_SIZE, then-img-ne-IMAGE_SIZE-via-else-img-ne-IMAGE_SIZE+then-not-has_room}

pub returns-then-img-ne-IMAGE_SIZE : goal.returns-then-img-ne-IMAGE_SIZE
unfolding carried_image
returns-then-img-ne-IMAGE_SIZE c =
    elim c.then-img-ne-IMAGE_SIZE.branch [
      | then-img-ne-IMAGE_SIZE-via-then-img-ne-IMAGE_SIZE w ↦ empty_wrote (rw (ne_eqb _ _ w.if-img-ne-IMAGE_SIZE.true))
      | then-img-ne-IMAGE_SIZE-via-else-img-ne-IMAGE_SIZE+then-not-has_room w ↦
          let x = c.args in
          let m = x.img.now in
          let l : length m ≡ image_size = w.if-img-ne-IMAGE_SIZE.false in
          let h = room_false (length x.next.now) 0 image_size (sym w.has_room.ensures ∙ w.if-not-has_room.true) in
          let t = carried_card x.cmd (decode m) (view x.sent.now) x.answers.now in
          let n = length_encode t (carried_shape x.cmd m l (view x.sent.now) x.answers.now) in
          let y : length x.next.now < 0 + length (encode t) = omega arith in
          rw (eq-eqb _ _ l) (refused y)
    ]

pub returns : goal.returns
unfolding carried_image
returns c = let m = c.args.img.now in
    let d = c.args.next.now in
    let l : length m ≡ image_size = c.if-img-ne-IMAGE_SIZE.false in
    let h = room_true (length d) 0 image_size (sym c.has_room.ensures ∙ c.if-not-has_room.false) in
    let k : length m ≤ length d = omega arith in
    let b = encode_decode m l (λ j. omega (arith, c.type_inv.img j)) in
    let e = (front (runs c.put_bytes.ensures) k).0 ∙ ap₂ (λ v j. v ++ drop j d) (sym b) l in
    let t = c.alter.ensures (drop image_size d) (record { shape = shape_decode m l; bytes = e }) in
    rw (eq-eqb _ _ l) (fronted d _ image_size (length_encode _ t.shape) (omega arith) t.bytes)
