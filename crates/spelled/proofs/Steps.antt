-- THE MEANING of a text, a line at a time: all that the other files know of `notes_from`, and of the text of notes. Assumes nothing.
use native.Mathlib.Omega.{arith}
use Prim.Native.Nat.{ℕ, suc, ◌+◌}
use mathlib.Core.Path.{◌≡◌, refl, sym, ap, ◌∙◌}
use mathlib.Core.List.{List, [], ◌∷◌, ◌++◌}
use mathlib.Core.Bool.{Bool, true, false, cond}
use Rattle.std.proofs.Common.{Option, Some, None}
use Rattle.wire.specs.Wire.{joined}
use Rattle.wire.proofs.Laws.{joined_append}
use Rattle.text.specs.Lines.{tail_after}
use Rattle.notes.specs.declared.Note.{Note}
use Rattle.notes.specs.Notes.{follows}
use Rattle.noteline.specs.NoteLine.{line_parts, line_of, note_at}
use Rattle.booktext.proofs.Laws.{none_left, no_room, first_line_lem}
use Rattle.booktext.specs.BookText.{Book, BadAt, also, standing, or_bad, notes_from, book_parts, text_of}

-- no line; a line without room; a line with room: the laws of `booktext`, by the first byte
pub notes_none : (n k : ℕ) (y : Note) → notes_from n k y [] ≡ Book []
notes_none n k y = none_left k y n

pub notes_full : (k : ℕ) (y : Note) (b : ℕ) (s : List ℕ) → notes_from 0 k y (b ∷ s) ≡ BadAt k
notes_full k y b s = no_room k y (b ∷ s) (omega arith)

module _ (n k : ℕ) (y : Note) (b : ℕ) (s : List ℕ) where
  pub notes_bad : standing y (note_at (b ∷ s)) ≡ None → notes_from (suc n) k y (b ∷ s) ≡ BadAt k
  unfolding or_bad
  notes_bad e = first_line_lem k y n (b ∷ s) (omega arith) ∙ rw e

  pub notes_on : {x : Note} → standing y (note_at (b ∷ s)) ≡ Some x → notes_from (suc n) k y (b ∷ s) ≡ also x (notes_from n (k + 1) x (tail_after 10 (b ∷ s)))
  unfolding or_bad
  notes_on e = first_line_lem k y n (b ∷ s) (omega arith) ∙ rw e

-- a note that may stand there is one that follows
pub stands : (y : Note) {x : Note} {m : Option Note} → m ≡ Some x → follows y x ≡ true → standing y m ≡ Some x
unfolding standing
stands y e f = rw (e, f)

pub stands_means : (y x : Note) (m : Option Note) → standing y m ≡ Some x → (m ≡ Some x) × (follows y x ≡ true)
unfolding standing
stands_means y x None e = cc
stands_means y x (Some z) e = go (follows y z) refl e
  where
    go : (t : Bool) → follows y z ≡ t → cond t (Some z) None ≡ Some x → (Some z ≡ Some x) × (follows y x ≡ true)
    go false f d = cc
    go true f d = let k : z ≡ x = cc in (d, ap (follows y) (sym k) ∙ f)

-- THE TEXT of notes, line by line
pub text_none : text_of [] ≡ []
unfolding text_of book_parts joined
text_none = refl

pub text_more : (x : Note) (l : List Note) → text_of (x ∷ l) ≡ line_of x ++ text_of l
unfolding text_of book_parts line_of
text_more x l = joined_append (line_parts x) (book_parts l)
