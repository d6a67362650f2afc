use mathlib.Core.Path.{sym, ◌∙◌}
use Rattle.wire.proofs.Parts.{length_pad}
use borrow.Author.Tests.{leb-true}
use Rattle.wire.specs.Wire.{room, fit, placed}
use Rattle.wire.proofs.put_padded.Goals as goal

pub fill-requires : goal.fill-requires
unfolding room
fill-requires c = leb-true _ _ (sym c.has_room.ensures ∙ c.if-has_room.true)

pub returns-then-has_room : goal.returns-then-has_room
unfolding fit placed
returns-then-has_room c = let x = c.args in
    let l = length_pad x.n x.v.now in
    let e = sym c.has_room.ensures ∙ c.if-has_room.true in
    record { bytes = rw (l, e) c.fill.ensures.0; next = rw (l, e) c.fill.ensures.1 }

pub returns : goal.returns
unfolding fit placed
returns c = let x = c.args in
    let l = length_pad x.n x.v.now in
    let e = sym c.has_room.ensures ∙ c.if-has_room.false in
    record { bytes = sym (rw (l, e)); next = sym (rw (l, e)) }
