-- What the callers of `booktext` cite, and its own proofs: a text read a line at a time, and how long the text of a book can be. Assumes nothing.
use Rattle.std.proofs.Common.{◌≡◌, refl, sym, ap, ◌∙◌, subst, ℕ, zero, suc, ◌+◌, ◌-◌, ◌*◌, ◌≤◌, ◌<◌, arith, add-one, Bool, true, false, eqb, ◌&&◌, cond, List, [], ◌∷◌, ◌++◌, length, get_or, take, drop, set, append_assoc, take-suc, Some, None}
use mathlib.Core.List.{append-nil}
use Rattle.std.proofs.lemmas.Bool.Decides.{nat_tests}
use lib.ListN.{length-append, length-drop, length-set}
use lib.Seq.{take_all, take-suc-set}
use Rattle.std.proofs.lemmas.List.{nil_from_length}
use Rattle.wire.specs.Wire.{Wrotes, joined}
use Rattle.wire.proofs.Laws.{both_true, wrote_none, wrote_append, joined_append, all_run, front}
use Rattle.text.specs.Lines.{length_to, tail_after}
use Rattle.notes.specs.declared.Note.{Note}
use Rattle.notes.specs.Notes.{blank, good_of, follows}
use Rattle.notes.proofs.Laws.{follows_good}
use Rattle.shelf.specs.Shelf.{bad_from, first_bad}
use Rattle.shelf.proofs.Laws.{past, book_fits}
use Rattle.noteline.specs.NoteLine.{line_parts, line_of, note_at}
use Rattle.booktext.specs.BookText.{Meaning, Book, BadAt, also, standing, or_bad, notes_from, meaning, book_parts, text_of}

-- READ. What the first line of a text does, where there is one
module _ (k : ℕ) (y : Note) where
  pub none_left : (n : ℕ) → notes_from n k y [] ≡ Book []
  unfolding notes_from
  none_left zero = refl
  none_left (suc n) = refl

  pub no_room : (l : List ℕ) → 0 < length l → notes_from zero k y l ≡ BadAt k
  unfolding notes_from
  no_room [] h = absurd (omega arith)
  no_room (b ∷ s) h = refl

  pub first_line_lem : (n : ℕ) (l : List ℕ) → 0 < length l
      → notes_from (suc n) k y l ≡ or_bad k (standing y (note_at l)) (λ x. also x (notes_from n (k + 1) x (tail_after 10 l)))
  unfolding notes_from
  first_line_lem n [] h = absurd (omega arith)
  first_line_lem n (b ∷ s) h = refl

-- a text that is not at its end
pub some_left : (l : List ℕ) → false ≡ eqb (length l) 0 → 0 < length l
some_left l e = grind (arith, nat_tests)

pub tail_less : (l : List ℕ) → 0 < length l → length (tail_after 10 l) < length l
unfolding tail_after
tail_less l h = omega (arith, length-drop (length_to 10 l + 1) l)

-- notes in front of what the lines after them mean
pub prepend : List Note → Meaning → Meaning
prepend [] m = m
prepend (x ∷ l) m = also x (prepend l m)

prepend_last : (l : List Note) (x : Note) (m : Meaning) → prepend (l ++ (x ∷ [])) m ≡ prepend l (also x m)
unfolding prepend
prepend_last [] x m = refl
prepend_last (y ∷ l) x m = ap (also y) (prepend_last l x m)

prepend_bad : (l : List Note) (k : ℕ) → prepend l (BadAt k) ≡ BadAt k
unfolding prepend also
prepend_bad [] k = refl
prepend_bad (y ∷ l) k = ap (also y) (prepend_bad l k)

prepend_none : (l : List Note) → prepend l (Book []) ≡ Book l
unfolding prepend also
prepend_none [] = refl
prepend_none (y ∷ l) = ap (also y) (prepend_none l)

-- n notes are taken, the last of which is y: what the text means is said by them and by what is left of it
pub record Taken (s : List ℕ) (n : ℕ) (l : List Note) (y : Note) (r : List ℕ) : Type 0 where
  pub few : n ≤ 256
  pub room : length l ≡ 256
  pub means : meaning s ≡ prepend (take n l) (notes_from (256 - n) (n + 1) y r)

pub taken_none : (s : List ℕ) (l : List Note) → length l ≡ 256 → Taken s 0 l blank s
unfolding meaning prepend
taken_none s l e = record { few = omega arith; room = e; means = refl }

module _ {s : List ℕ} {n : ℕ} {l : List Note} {y : Note} {r : List ℕ} (t : Taken s n l y r) where
  pub taken_full : n ≡ 256 → 0 < length r → meaning s ≡ BadAt (n + 1)
  taken_full e h =
      let k : 256 - n ≡ 0 = omega arith in
      t.means ∙ ap (prepend (take n l)) (ap (λ (m : ℕ). notes_from m (n + 1) y r) k ∙ no_room (n + 1) y r h) ∙ prepend_bad (take n l) (n + 1)

  next : n < 256 → 0 < length r → notes_from (256 - n) (n + 1) y r ≡ or_bad (n + 1) (standing y (note_at r)) (λ x. also x (notes_from (256 - (n + 1)) (n + 1 + 1) x (tail_after 10 r)))
  next h g =
      let k : 256 - n ≡ suc (256 - (n + 1)) = omega arith in
      ap (λ (m : ℕ). notes_from m (n + 1) y r) k ∙ first_line_lem (n + 1) y (256 - (n + 1)) r g

  pub taken_bad : n < 256 → 0 < length r → standing y (note_at r) ≡ None → meaning s ≡ BadAt (n + 1)
  unfolding or_bad
  taken_bad h g e = t.means ∙ ap (prepend (take n l)) (next h g ∙ rw e) ∙ prepend_bad (take n l) (n + 1)

  pub taken_more : {x : Note} → n < 256 → 0 < length r → standing y (note_at r) ≡ Some x → Taken s (n + 1) (set l n x) x (tail_after 10 r)
  unfolding or_bad
  taken_more {x} h g e =
      let i = t.room in
      let k : n < length l = omega arith in
      let rest = notes_from (256 - (n + 1)) (n + 1 + 1) x (tail_after 10 r) in
      let front : take (n + 1) (set l n x) ≡ take n l ++ (x ∷ []) = ap (λ (m : ℕ). take m (set l n x)) (add-one n) ∙ take-suc-set l n x k in
      record {
        few = omega arith;
        room = length-set l n x ∙ i;
        means = t.means ∙ ap (prepend (take n l)) (next h g ∙ rw e) ∙ sym (ap (λ (m : List Note). prepend m rest) front ∙ prepend_last (take n l) x rest);
      }

  pub taken_all : length r ≡ 0 → meaning s ≡ Book (take n l)
  taken_all e =
      t.means ∙ ap (prepend (take n l)) (ap (notes_from (256 - n) (n + 1) y) (nil_from_length r e) ∙ none_left (n + 1) y (256 - n)) ∙ prepend_none (take n l)

-- WRITTEN. Every note of a list is good
unfoldable pub all_good : List Note → Bool
all_good [] = true
all_good (x ∷ xs) = good_of x && all_good xs

none_bad : (n k : ℕ) (y : Note) (l : List Note) → bad_from n k y l ≡ None → all_good l ≡ true
unfolding bad_from all_good
none_bad n k y [] e = refl
none_bad zero k y (x ∷ xs) e = cc
none_bad (suc n) k y (x ∷ xs) e = go (follows y x) refl e (none_bad n (k + 1) x xs)
  where
    go : (t : Bool) → follows y x ≡ t → cond t (bad_from n (k + 1) x xs) (Some k) ≡ None → (bad_from n (k + 1) x xs ≡ None → all_good xs ≡ true) → (good_of x && all_good xs) ≡ true
    go true f q r = rw (follows_good y x f) (r q)
    go false f q r = cc

pub book_good : (l : List Note) → first_bad l ≡ None → all_good l ≡ true
unfolding first_bad
book_good l e = none_bad 256 1 blank l e

-- one note more at the end
good_last : (l : List Note) (x : Note) → all_good (l ++ (x ∷ [])) ≡ true → (all_good l ≡ true) × (good_of x ≡ true)
unfolding all_good
good_last [] x e = (refl, (both_true (good_of x) true e).0)
good_last (z ∷ l) x e =
    let p = both_true (good_of z) (all_good (l ++ (x ∷ []))) e in
    let q = good_last l x p.1 in
    (rw p.0 q.0, q.1)

parts_last : (l : List Note) (x : Note) → book_parts (l ++ (x ∷ [])) ≡ book_parts l ++ line_parts x
unfolding book_parts
parts_last [] x = append-nil (line_parts x)
parts_last (z ∷ l) x = ap (λ (p : List (List ℕ)). line_parts z ++ p) (parts_last l x) ∙ sym (append_assoc (line_parts z) (book_parts l) (line_parts x))

text_last : (l : List Note) (x : Note) → length (text_of (l ++ (x ∷ []))) ≡ length (text_of l) + length (line_of x)
unfolding text_of line_of
text_last l x =
    ap (λ (p : List (List ℕ)). length (joined p)) (parts_last l x) ∙ ap length (joined_append (book_parts l) (line_parts x))
    ∙ length-append (joined (book_parts l)) (joined (line_parts x))

-- the lines of the first i notes of a list, written from the front of d
pub record Lined (d : List ℕ) (l : List Note) (i : ℕ) (d' : List ℕ) (at : ℕ) : Type 0 where
  pub lines : Wrotes d 0 (book_parts (take i l)) d' at
  pub short : all_good (take i l) ≡ true → length (text_of (take i l)) ≤ 78 * i

pub lined_none : (d : List ℕ) (l : List Note) → Lined d l 0 d 0
unfolding book_parts text_of joined
lined_none d l = record { lines = wrote_none; short = λ e. omega arith }

module _ {d : List ℕ} {l : List Note} {i : ℕ} {d' : List ℕ} {at : ℕ} (w : Lined d l i d' at) where
  pub lined_more : {d'' : List ℕ} {r : ℕ} → i < length l → Wrotes d' at (line_parts (get_or l i past)) d'' r → (good_of (get_or l i past) ≡ true → length (line_of (get_or l i past)) ≤ 78)
      → Lined d l (i + 1) d'' r
  lined_more {d''} {r} h v g =
      let x = get_or l i past in
      let e : take (i + 1) l ≡ take i l ++ (x ∷ []) = ap (λ (n : ℕ). take n l) (add-one i) ∙ take-suc l i past h in
      record {
        lines = subst (λ (p : List (List ℕ)). Wrotes d 0 p d'' r) (sym (ap book_parts e ∙ parts_last (take i l) x)) (wrote_append w.lines v);
        short = λ t.
            let q = good_last (take i l) x (sym (ap all_good e) ∙ t) in
            let n = ap (λ (m : List Note). length (text_of m)) e ∙ text_last (take i l) x in
            omega (arith, n, w.short q.0, g q.1);
      }

  pub lined_all : length l ≤ i → i ≤ length l → Wrotes d 0 (book_parts l) d' at × (first_bad l ≡ None → length (text_of l) ≤ 19968)
  lined_all h k =
      let e : take i l ≡ l = take_all i l h in (
        subst (λ (m : List Note). Wrotes d 0 (book_parts m) d' at) e w.lines,
        λ b.
            let f = book_fits l b in
            let s = w.short (ap all_good e ∙ book_good l b) in
            omega (arith, ap (λ (m : List Note). length (text_of m)) e),
      )

-- the text of a book has room
module _ (l : List Note) {d d' : List ℕ} {r : ℕ} (h : 20480 ≤ length d) (b : first_bad l ≡ None)
    (w : Wrotes d 0 (book_parts l) d' r × (first_bad l ≡ None → length (text_of l) ≤ 19968)) where
  pub laid : (d' ≡ text_of l ++ drop (length (text_of l)) d) × (r ≡ length (text_of l))
  unfolding text_of
  laid = let k = w.1 b in front (all_run w.0) (omega (arith, k, h))

  pub end_fits : r ≤ 19968
  end_fits = let k = w.1 b in omega (arith, laid.1)
