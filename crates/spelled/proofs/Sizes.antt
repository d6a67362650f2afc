-- SIZES: the longest line, the longest text of a book, and how many notes a book has. Assumes nothing.
use Prim.Native.Nat.{ℕ, zero, suc, ◌+◌, ◌*◌, ◌≤◌}
use native.Mathlib.Omega.{arith}
use mathlib.Core.Path.{◌≡◌, refl}
use mathlib.Core.List.{List, [], ◌∷◌}
use mathlib.Core.Bool.{Bool, true, false, cond}
use lib.ListN.{length, length-append}
use Rattle.std.proofs.Common.{Some, None}
use Rattle.notes.specs.declared.Note.{Note}
use Rattle.notes.specs.Notes.{blank, good_of, follows}
use Rattle.shelf.specs.Shelf.{bad_from, first_bad, is_book}
use Rattle.noteline.specs.NoteLine.{line_of}
use Rattle.noteline.proofs.Laws.{line_short}
use Rattle.booktext.specs.BookText.{text_of}
use Rattle.shelf.proofs.Laws.{book_fits, book_none}
use Rattle.spelled.specs.Spelled.{Ranges, Each}
use Rattle.notes.proofs.Laws.{follows_good}
use Rattle.spelled.proofs.Steps.{text_none, text_more}

-- 3 + 5 + 6 digits, 60 bytes of text, three tabs and a line feed
pub longest_line : (x : Note) → good_of x ≡ true → Ranges x → length (line_of x) ≤ 78
longest_line x e g = line_short x e g.tablet g.number

-- notes that may stand there, room for n: no more than n of the longest lines
abbrev Small : ℕ → List Note → Type 0
Small n l = Each l → length (text_of l) ≤ 78 * n

small : (n k : ℕ) (y : Note) (l : List Note) → bad_from n k y l ≡ None → Small n l
unfolding bad_from Each
small n k y [] e = λ g. rw text_none (omega arith)
small zero k y (x ∷ l) e = cc
small (suc n) k y (x ∷ l) e = go (follows y x) refl e (small n (k + 1) x l)
  where
    go : (b : Bool) → follows y x ≡ b → cond b (bad_from n (k + 1) x l) (Some k) ≡ None → (bad_from n (k + 1) x l ≡ None → Small n l) → Small (suc n) (x ∷ l)
    go false p q f = cc
    go true p q f = λ g.
        let a = longest_line x (follows_good y x p) g.0 in
        let b = f q g.1 in
        rw (text_more x l) (omega (arith, length-append (line_of x) (text_of l)))

module _ (l : List Note) (e : is_book l ≡ true) where
  -- "at most 256 notes"
  pub most_notes : length l ≤ 256
  most_notes = book_fits l (book_none l e)

  pub longest_book : Each l → length (text_of l) ≤ 19968
  unfolding first_bad
  longest_book g = small 256 1 blank l (book_none l e) g
