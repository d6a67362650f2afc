-- THE SAME OVER WHAT IS LENT, Ask 8: a join leaves the same list in either order; a book that is written and read again is that book. Assumes nothing.
use Prim.Native.Nat.{ℕ, ◌≤◌}
use mathlib.Core.Path.{◌≡◌, refl, ap, ◌∙◌}
use mathlib.Core.Bool.{true}
use mathlib.Core.List.{List, ◌++◌}
use lib.ListN.{length, take, drop}
use lib.Seq.{take-append_seam}
use borrow.Author.Tests.{le-ltb}
use Rattle.notes.specs.declared.Note.{Note}
use Rattle.shelf.specs.Outcome.{Outcome}
use Rattle.std.proofs.Common.{Ok, Err}
use Rattle.shelf.specs.Shelf.{is_book}
use Rattle.shelf.specs.Outcome.{after_of}
use Rattle.union.specs.Union.{merged, join_of}
use Rattle.booktext.specs.BookText.{notes_of, read_outcome, read_as_of, read_of, text_of, text_room, written_as, write_of}
use Rattle.book.specs.Book.{read_into, written_into, joined_into}
use Rattle.shelf.proofs.Laws.{book_none}
use Rattle.agreed.proofs.Theorems.{either_order, either_notes}
use Rattle.spelled.specs.Spelled.{Each}
use Rattle.spelled.proofs.Book.{text_back}

-- what is laid counts only where it is laid
same_after : (o : Outcome) (l r p : List Note) → ((n : ℕ) → o ≡ Ok n → l ≡ r) → after_of o l p ≡ after_of o r p
unfolding after_of
same_after (Ok n) l r p h = ap (λ (m : List Note). m ++ drop (length m) p) (h n refl)
same_after (Err e) l r p h = refl

-- EITHER ORDER leaves the same list, done or refused
pub either_lent : (f s p : List Note) → is_book f ≡ true → is_book s ≡ true → joined_into f s p ≡ joined_into s f p
unfolding joined_into
either_lent f s p a b =
    same_after (join_of (length p) f s) (merged f s) (merged s f) p (either_notes (length p) f s)
    ∙ ap (λ (o : Outcome). after_of o (merged s f) p) (either_order (length p) f s a b)

-- WRITTEN AND READ AGAIN, where there is room for both
module _ (l : List Note) (b : is_book l ≡ true) (e : Each l) where
  pub written_is : (d : List ℕ) → text_room ≤ length d → (write_of (length d) l ≡ Ok (length (text_of l))) × (take (length (text_of l)) (written_into l d) ≡ text_of l)
  unfolding written_into write_of written_as after_of
  written_is d h = rw (le-ltb (length d) text_room h, book_none l b) (refl, take-append_seam (text_of l) _)

  pub read_again : (p : List Note) → 256 ≤ length p → (read_of (length p) (text_of l) ≡ Ok (length l)) × (read_into (text_of l) p ≡ l ++ drop (length l) p)
  unfolding read_into read_of read_as_of read_outcome notes_of after_of
  read_again p h = rw (le-ltb (length p) 256 h, text_back l b e) (refl, refl)
