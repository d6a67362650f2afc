-- THE TEXT OF A BOOK means that book; whatever means a book is the text of it, and that book is one. Assumes nothing.
use Prim.Native.Nat.{ℕ, zero, suc, ◌+◌}
use native.Mathlib.Omega.{arith}
use mathlib.Core.Path.{◌≡◌, refl, sym, ap, ◌∙◌}
use mathlib.Core.List.{List, [], ◌∷◌, ◌++◌}
use mathlib.Core.Bool.{Bool, true, false, cond}
use Rattle.std.proofs.Common.{Option, Some, None}
use Rattle.shelf.proofs.Laws.{book_none, none_book}
use Rattle.text.specs.Lines.{tail_after}
use Rattle.notes.specs.declared.Note.{Note}
use Rattle.notes.specs.Notes.{blank, follows}
use Rattle.shelf.specs.Shelf.{bad_from, first_bad, is_book}
use Rattle.noteline.specs.NoteLine.{line_of, note_at}
use Rattle.booktext.specs.BookText.{Meaning, Book, BadAt, also, standing, notes_from, meaning, text_of}
use Rattle.spelled.specs.Spelled.{Ranges, Each, TwoFaces}
use Rattle.spelled.proofs.Line.{note_back, tail_back}
use Rattle.spelled.proofs.Spelling.{line_spelled, line_ranges, no_line}
use Rattle.notes.proofs.Laws.{follows_good}
use Rattle.spelled.proofs.Steps.{notes_none, notes_full, notes_bad, notes_on, stands, stands_means, text_none, text_more}

-- A LINE IN FRONT of a text: it is a text that begins with a byte, so that the first line is taken
pub line_first : (n k : ℕ) (y x : Note) (r : List ℕ) → follows y x ≡ true → Ranges x → notes_from (suc n) k y (line_of x ++ r) ≡ also x (notes_from n (k + 1) x r)
line_first n k y x r e g = go (line_of x ++ r) (note_back x (follows_good y x e) g r) (tail_back x (follows_good y x e) g r)
  where
    go : (s : List ℕ) → note_at s ≡ Some x → tail_after 10 s ≡ r → notes_from (suc n) k y s ≡ also x (notes_from n (k + 1) x r)
    go [] p q = let z : ◌≡◌ {A = Option Note} None (Some x) = sym no_line ∙ p in cc
    go (b ∷ s) p q = notes_on n k y b s (stands y p e) ∙ ap (λ (t : List ℕ). also x (notes_from n (k + 1) x t)) q

-- THE TEXT OF NOTES that may stand there means these notes
back_from : (n k : ℕ) (y : Note) (l : List Note) → bad_from n k y l ≡ None → Each l → notes_from n k y (text_of l) ≡ Book l
unfolding bad_from Each also
back_from n k y [] e g = rw text_none (notes_none n k y)
back_from zero k y (x ∷ l) e g = cc
back_from (suc n) k y (x ∷ l) e g = go (follows y x) refl e (λ z. back_from n (k + 1) x l z g.1)
  where
    go : (b : Bool) → follows y x ≡ b → cond b (bad_from n (k + 1) x l) (Some k) ≡ None → (bad_from n (k + 1) x l ≡ None → notes_from n (k + 1) x (text_of l) ≡ Book l)
        → notes_from (suc n) k y (text_of (x ∷ l)) ≡ Book (x ∷ l)
    go false p q f = cc
    go true p q f = rw (text_more x l) (line_first n k y x (text_of l) p g.0) ∙ ap (also x) (f q)

pub text_back : (l : List Note) → is_book l ≡ true → Each l → meaning (text_of l) ≡ Book l
unfolding first_bad meaning
text_back l e g = back_from 256 1 blank l (book_none l e) g

-- a bad line is no book, and one book is not another
pub no_book : {k : ℕ} {l : List Note} → BadAt k ≡ Book l → ⊥
no_book e = let z : ◌≡◌ {A = ℕ} 0 1 = cc in omega arith

pub same_book : {l m : List Note} → Book l ≡ Book m → l ≡ m
same_book e = cc

-- WHAT MEANS NOTES, where y stands before them and room for n is left, is their text
record Face (n k : ℕ) (y : Note) (s : List ℕ) (l : List Note) : Type 0 where
  text : s ≡ text_of l
  good : bad_from n k y l ≡ None
  ranges : Each l

face_none : (n k : ℕ) (y : Note) (l : List Note) → notes_from n k y [] ≡ Book l → Face n k y [] l
unfolding bad_from Each
face_none n k y l e =
    let z : l ≡ [] = same_book (sym e ∙ notes_none n k y) in
    rw z (record { text = sym text_none; good = refl; ranges = tt })

module _ (n k : ℕ) (y x : Note) (s t : List ℕ) (l : List Note) (p : follows y x ≡ true) (e : s ≡ line_of x ++ t) (g : Ranges x) where
  face_more : (m : Meaning) → also x m ≡ Book l → ((l' : List Note) → m ≡ Book l' → Face n (k + 1) x t l') → Face (suc n) k y s l
  unfolding also bad_from Each
  face_more (BadAt j) q f = absurd (no_book q)
  face_more (Book l') q f =
      let z : l ≡ x ∷ l' = same_book (sym q) in
      let h = f l' refl in
      rw z
      (record {
        text = e ∙ ap (λ (r : List ℕ). line_of x ++ r) h.text ∙ sym (text_more x l');
        good = rw p h.good;
        ranges = (g, h.ranges);
      })

face : (n k : ℕ) (y : Note) (s : List ℕ) (l : List Note) → notes_from n k y s ≡ Book l → Face n k y s l
face zero k y [] l e = face_none 0 k y l e
face zero k y (b ∷ s) l e = absurd (no_book (sym (notes_full k y b s) ∙ e))
face (suc n) k y [] l e = face_none (suc n) k y l e
face (suc n) k y (b ∷ s) l e = go (standing y (note_at (b ∷ s))) refl (λ x. face n (k + 1) x (tail_after 10 (b ∷ s)))
  where
    go : (m : Option Note) → standing y (note_at (b ∷ s)) ≡ m
        → ((x : Note) (l' : List Note) → notes_from n (k + 1) x (tail_after 10 (b ∷ s)) ≡ Book l' → Face n (k + 1) x (tail_after 10 (b ∷ s)) l')
        → Face (suc n) k y (b ∷ s) l
    go None p f = absurd (no_book (sym (notes_bad n k y b s p) ∙ e))
    go (Some x) p f =
        let t = tail_after 10 (b ∷ s) in
        let q = stands_means y x (note_at (b ∷ s)) p in
        let h = follows_good y x q.1 in
        face_more n k y x (b ∷ s) t l q.1 (line_spelled (b ∷ s) x q.0 h) (line_ranges (b ∷ s) x q.0 h) (notes_from n (k + 1) x t) (sym (notes_on n k y b s p) ∙ e) (f x)

module _ (s : List ℕ) (l : List Note) (e : meaning s ≡ Book l) where
  whole : Face 256 1 blank s l
  unfolding meaning
  whole = face 256 1 blank s l e

  -- ONE SPELLING of a book
  pub text_spelled : s ≡ text_of l
  text_spelled = whole.text

  -- it is a book, so at most 256 notes, strictly rising
  pub means_a_book : is_book l ≡ true
  unfolding first_bad
  means_a_book = none_book l whole.good

  -- and each of its notes fits its places
  pub means_ranges : Each l
  means_ranges = whole.ranges

pub two_faces : TwoFaces
two_faces = record { back = text_back; spelled = text_spelled; book = means_a_book; ranges = means_ranges }

-- two books with the same text are the same book
pub same_text_lem : (l m : List Note) → is_book l ≡ true → Each l → is_book m ≡ true → Each m → text_of l ≡ text_of m → l ≡ m
same_text_lem l m e g f h z = same_book (sym (text_back l e g) ∙ ap meaning z ∙ text_back m f h)
