use Rattle.std.proofs.Common.{arith, add-one, ◌∙◌, sym}
use lib.Seq.{paste-suc}
use Rattle.text.specs.Text.{unhex}
use Rattle.text.proofs.Laws.{length_unhex, get_d_unhex}
use Rattle.wire.proofs.Laws.{room_true, room_false, tested, refused, pasted}
use Rattle.text.proofs.unhex.Goals as goal

pub returns-then-not-has_room : goal.returns-then-not-has_room
returns-then-not-has_room c = let x = c.args in
    refused (omega (arith, length_unhex x.s.now, room_false _ _ _ (sym c.has_room.ensures ∙ c.if-not-has_room.true)))

pub loop-i-preserved : goal.loop-i-preserved
loop-i-preserved c = let x = c.args in
    let s = x.s.now in
    let n = length_unhex s in
    let h = room_true _ _ _ (sym c.has_room.ensures ∙ c.if-not-has_room.false) in
    let i = c.loop-i.i in
    rw (c.loop-i.invariant, c.pair_value.ensures, ← get_d_unhex s i (omega arith), add-one)
    (paste-suc x.out.now x.at (unhex s) i 0 (omega arith) (omega arith))

pub returns : goal.returns
returns c = let x = c.args in
    let n = length_unhex x.s.now in
    let h = room_true _ _ _ (sym c.has_room.ensures ∙ c.if-not-has_room.false) in
    tested (omega arith) (λ _. record { bytes = c.loop-i.invariant ∙ pasted _ _ _ _ (omega arith); next = omega arith })
