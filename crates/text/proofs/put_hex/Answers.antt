use Rattle.std.proofs.Common.{◌≡◌, ◌+◌, ◌*◌, arith, ◌∙◌, sym}
use Rattle.text.specs.Text.{hex_of}
use Rattle.text.proofs.Laws.{length_hex_of, get_d_high, get_d_low, paste_two}
use Rattle.wire.proofs.Laws.{room_true, room_false, tested, refused, pasted}
use Rattle.text.proofs.put_hex.Goals as goal

pub returns-then-not-has_room : goal.returns-then-not-has_room
returns-then-not-has_room c = let x = c.args in
    refused (omega (arith, length_hex_of x.v.now, room_false _ _ _ (sym c.has_room.ensures ∙ c.if-not-has_room.true)))

pub loop-i-preserved : goal.loop-i-preserved
loop-i-preserved c = let x = c.args in
    let v = x.v.now in
    let n = length_hex_of v in
    let h = room_true _ _ _ (sym c.has_room.ensures ∙ c.if-not-has_room.false) in
    let i = c.loop-i.i in
    let e : 2 * (i + 1) ≡ 2 * i + 2 = omega arith in
    rw (c.loop-i.invariant, c.hex_digit-in-loop-i.ensures, c.hex_digit.ensures, ← get_d_high v i (omega arith), ← get_d_low v i (omega arith), e)
    (paste_two x.out.now x.at (hex_of v) (2 * i) (omega arith) (omega arith))

pub returns : goal.returns
returns c = let x = c.args in
    let n = length_hex_of x.v.now in
    let h = room_true _ _ _ (sym c.has_room.ensures ∙ c.if-not-has_room.false) in
    tested (omega arith) (λ _. record { bytes = c.loop-i.invariant ∙ pasted _ _ _ _ (omega arith); next = omega arith })
