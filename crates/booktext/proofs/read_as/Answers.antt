use Rattle.std.proofs.Common.{◌≡◌, refl, sym, arith, length, take, lt-ltb, le-ltb}
use lib.Seq.{length-take-le}
use Rattle.std.proofs.lemmas.Result.{err_from_is_err_and}
use Rattle.shelf.specs.Outcome.{after_of}
use Rattle.booktext.specs.BookText.{notes_of, read_outcome, read_as_of}
use Rattle.booktext.proofs.read_as.Goals as goal

pub returns-then-book-lt-MOST : goal.returns-then-book-lt-MOST
unfolding read_as_of after_of
returns-then-book-lt-MOST c = (rw (lt-ltb _ _ c.if-book-lt-MOST.true), refl, tt)

pub returns-in_err-n : goal.returns-in_err-n
unfolding read_as_of after_of
returns-in_err-n c = let p = err_from_is_err_and c.from_residual.result c.from_residual.ensures.1 in rw (p.1, p.2, le-ltb _ _ c.if-book-lt-MOST.false) (sym c.in_err-n.ensures, refl, tt)

pub returns : goal.returns
unfolding read_as_of read_outcome notes_of after_of
returns c =
    let h = c.in_ok-n.ensures in
    let l : length (take c.in_ok-n.n c.take_notes.new.notes) ≡ c.in_ok-n.n = length-take-le _ _ (omega arith) in
    (rw (le-ltb _ _ c.if-book-lt-MOST.false, h.1, l), rw (c.copy_from_slice.ensures.after, h.1, l), h.0)
