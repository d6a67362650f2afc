use Rattle.std.proofs.Common.{refl, sym, arith, lt-ltb, le-ltb}
use Rattle.shelf.specs.Outcome.{after_of}
use Rattle.booktext.specs.BookText.{written_as, write_of}
use Rattle.booktext.proofs.Laws.{laid, end_fits}
use Rattle.booktext.proofs.write.Goals as goal

pub returns-then-text-lt-TEXT_ROOM : goal.returns-then-text-lt-TEXT_ROOM
unfolding write_of after_of
returns-then-text-lt-TEXT_ROOM c = (rw (lt-ltb _ _ c.if-text-lt-TEXT_ROOM.true), refl)

pub returns-in-Some : goal.returns-in-Some
unfolding write_of written_as after_of
returns-in-Some c = (rw (le-ltb _ _ c.if-text-lt-TEXT_ROOM.false, ← c.in-Some.ensures), refl)

pub overflow_cast-result : goal.overflow_cast-result
overflow_cast-result c = let e = end_fits _ c.if-text-lt-TEXT_ROOM.false (sym c.in_default.ensures) c.put_lines.ensures in omega arith

pub returns : goal.returns
unfolding write_of written_as after_of
returns c =
    let e = laid _ c.if-text-lt-TEXT_ROOM.false (sym c.in_default.ensures) c.put_lines.ensures in
    (rw (le-ltb _ _ c.if-text-lt-TEXT_ROOM.false, ← c.in_default.ensures, e.1), e.0)
