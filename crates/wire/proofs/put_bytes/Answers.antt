use mathlib.Core.Path.{sym, ◌∙◌}
use borrow.Author.Tests.{leb-true}
use Rattle.wire.specs.Wire.{room, fit, placed}
use Rattle.wire.proofs.put_bytes.Goals as goal

pub copy-requires : goal.copy-requires
unfolding room
copy-requires c = leb-true _ _ (sym c.has_room.ensures ∙ c.if-has_room.true)

pub returns-then-has_room : goal.returns-then-has_room
unfolding fit placed
returns-then-has_room c = let e = sym c.has_room.ensures ∙ c.if-has_room.true in
    record { bytes = rw e c.copy.ensures.0; next = rw e c.copy.ensures.1 }

pub returns : goal.returns
unfolding fit placed
returns c = let e = sym c.has_room.ensures ∙ c.if-has_room.false in
    record { bytes = sym (rw e); next = sym (rw e) }
