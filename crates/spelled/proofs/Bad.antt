-- THE BAD LINE that a text means is the first one: the lines before it are a book. Assumes nothing.
use Prim.Native.Nat.{ℕ, zero, suc, ◌+◌, ◌≤◌, ◌<◌}
use native.Mathlib.Omega.{arith}
use mathlib.Core.Path.{◌≡◌, refl, sym, ap, ◌∙◌}
use mathlib.Core.List.{List, [], ◌∷◌, ◌++◌, append_assoc}
use mathlib.Core.Bool.{Bool, true, false, cond}
use lib.ListN.{length}
use Rattle.std.proofs.Common.{Option, Some, None}
use Rattle.text.specs.Lines.{tail_after}
use Rattle.notes.specs.declared.Note.{Note}
use Rattle.notes.specs.Notes.{blank, follows}
use Rattle.shelf.specs.Shelf.{bad_from, first_bad}
use Rattle.noteline.specs.NoteLine.{line_of, note_at}
use Rattle.booktext.specs.BookText.{Meaning, Book, BadAt, also, standing, notes_from, meaning, text_of}
use Rattle.spelled.specs.Spelled.{Ranges, Each, last_of, FirstBadLine}
use Rattle.spelled.proofs.Spelling.{line_spelled, line_ranges}
use Rattle.notes.proofs.Laws.{follows_good}
use Rattle.spelled.proofs.Steps.{notes_none, notes_full, notes_bad, notes_on, stands_means, text_none, text_more}
use Rattle.shelf.proofs.Laws.{book_none, none_book}
use Rattle.spelled.proofs.Book.{line_first, no_book}
use Rattle.spelled.proofs.Sizes.{most_notes}

same_line : {j k : ℕ} → BadAt j ≡ BadAt k → j ≡ k
same_line e = cc

-- the same, where y stands before, room for n is left, and the first line is line k
record Stops (n k : ℕ) (y : Note) (s : List ℕ) (j : ℕ) : Type 0 where
  notes : List Note
  rest : List ℕ
  text : s ≡ text_of notes ++ rest
  good : bad_from n k y notes ≡ None
  ranges : Each notes
  line : j ≡ k + length notes
  some : 0 < length rest
  bad : length notes < n → standing (last_of y notes) (note_at rest) ≡ None

-- at the first line
stops_here : (n k : ℕ) (y : Note) (b : ℕ) (s : List ℕ) (j : ℕ) → j ≡ k → (0 < n → standing y (note_at (b ∷ s)) ≡ None) → Stops n k y (b ∷ s) j
unfolding bad_from Each last_of
stops_here n k y b s j e f =
    record {
      notes = [];
      rest = b ∷ s;
      text = rw text_none;
      good = refl;
      ranges = tt;
      line = omega arith;
      some = omega arith;
      bad = f;
    }

-- after a line that may stand there
module _ (n k : ℕ) (y x : Note) (s t : List ℕ) (j : ℕ) (p : follows y x ≡ true) (e : s ≡ line_of x ++ t) (g : Ranges x) where
  stops_later : Stops n (k + 1) x t j → Stops (suc n) k y s j
  unfolding bad_from Each last_of
  stops_later h =
      let l = h.notes in
      let r = h.rest in
      let i = h.line in
      record {
        notes = x ∷ l;
        rest = r;
        text = e ∙ ap (λ (v : List ℕ). line_of x ++ v) h.text ∙ sym (append_assoc (line_of x) (text_of l) r) ∙ ap (λ (v : List ℕ). v ++ r) (sym (text_more x l));
        good = rw p h.good;
        ranges = (g, h.ranges);
        line = omega arith;
        some = h.some;
        bad = λ z. h.bad (omega arith);
      }

  stops_more : (m : Meaning) → also x m ≡ BadAt j → (m ≡ BadAt j → Stops n (k + 1) x t j) → Stops (suc n) k y s j
  unfolding also
  stops_more (Book l) q f = absurd (no_book (sym q))
  stops_more (BadAt i) q f = stops_later (f q)

stops : (n k : ℕ) (y : Note) (s : List ℕ) (j : ℕ) → notes_from n k y s ≡ BadAt j → Stops n k y s j
stops zero k y [] j e = absurd (no_book (sym e ∙ notes_none 0 k y))
stops zero k y (b ∷ s) j e = stops_here 0 k y b s j (same_line (sym e ∙ notes_full k y b s)) (λ h. absurd (omega arith))
stops (suc n) k y [] j e = absurd (no_book (sym e ∙ notes_none (suc n) k y))
stops (suc n) k y (b ∷ s) j e = go (standing y (note_at (b ∷ s))) refl (λ x. stops n (k + 1) x (tail_after 10 (b ∷ s)) j)
  where
    go : (m : Option Note) → standing y (note_at (b ∷ s)) ≡ m
        → ((x : Note) → notes_from n (k + 1) x (tail_after 10 (b ∷ s)) ≡ BadAt j → Stops n (k + 1) x (tail_after 10 (b ∷ s)) j)
        → Stops (suc n) k y (b ∷ s) j
    go None p f = stops_here (suc n) k y b s j (same_line (sym e ∙ notes_bad n k y b s p)) (λ h. p)
    go (Some x) p f =
        let t = tail_after 10 (b ∷ s) in
        let q = stands_means y x (note_at (b ∷ s)) p in
        let h = follows_good y x q.1 in
        stops_more n k y x (b ∷ s) t j q.1 (line_spelled (b ∷ s) x q.0 h) (line_ranges (b ∷ s) x q.0 h) (notes_from n (k + 1) x t) (sym (notes_on n k y b s p) ∙ e) (f x)

-- THE LINE that a text is bad at is its first bad line
pub first_bad_line : (s : List ℕ) (k : ℕ) → meaning s ≡ BadAt k → FirstBadLine s k
unfolding meaning first_bad
first_bad_line s k e =
    let h = stops 256 1 blank s k e in
    let i = h.line in
    record {
      notes = h.notes;
      rest = h.rest;
      text = h.text;
      book = none_book h.notes h.good;
      ranges = h.ranges;
      line = omega arith;
      some = h.some;
      bad = h.bad;
    }

-- lines are counted from 1, and "line 257 is one"
pub bad_line_is_first : (s : List ℕ) (k : ℕ) → meaning s ≡ BadAt k → (1 ≤ k) × (k ≤ 257)
bad_line_is_first s k e =
    let h = first_bad_line s k e in
    let i = h.line in
    let m = most_notes h.notes h.book in
    (omega arith, omega arith)

-- AND BACK: where the first bad line is line k, that is what the text means
bad_here : (n k : ℕ) (y : Note) (r : List ℕ) → 0 < length r → (0 < n → standing y (note_at r) ≡ None) → notes_from n k y r ≡ BadAt k
bad_here n k y [] h f = absurd (omega arith)
bad_here zero k y (b ∷ r) h f = notes_full k y b r
bad_here (suc n) k y (b ∷ r) h f = notes_bad n k y b r (f (omega arith))

bad_after_lem : (n k : ℕ) (y : Note) (l : List Note) (r : List ℕ) → bad_from n k y l ≡ None → Each l → 0 < length r
    → (length l < n → standing (last_of y l) (note_at r) ≡ None) → notes_from n k y (text_of l ++ r) ≡ BadAt (k + length l)
unfolding bad_from Each last_of also
bad_after_lem n k y [] r e g i f = let z : k + 0 ≡ k = omega arith in rw (text_none, z) (bad_here n k y r i f)
bad_after_lem zero k y (x ∷ l) r e g i f = cc
bad_after_lem (suc n) k y (x ∷ l) r e g i f = go (follows y x) refl e (λ q. bad_after_lem n (k + 1) x l r q g.1 i (λ z. f (omega arith)))
  where
    go : (b : Bool) → follows y x ≡ b → cond b (bad_from n (k + 1) x l) (Some k) ≡ None
        → (bad_from n (k + 1) x l ≡ None → notes_from n (k + 1) x (text_of l ++ r) ≡ BadAt (k + 1 + length l))
        → notes_from (suc n) k y (text_of (x ∷ l) ++ r) ≡ BadAt (k + suc (length l))
    go false p q z = cc
    go true p q z =
        let j : k + 1 + length l ≡ k + suc (length l) = omega arith in
        rw (text_more x l, append_assoc (line_of x) (text_of l) r)
        (line_first n k y x (text_of l ++ r) p g.0 ∙ ap (also x) (z q) ∙ ap BadAt j)

pub first_bad_means : (s : List ℕ) (k : ℕ) → FirstBadLine s k → meaning s ≡ BadAt k
unfolding meaning first_bad
first_bad_means s k h =
    let l = h.notes in
    let i = h.line in
    let j : 1 + length l ≡ k = omega arith in
    ap (notes_from 256 1 blank) h.text
    ∙ bad_after_lem 256 1 blank l h.rest (book_none l h.book) h.ranges h.some h.bad
    ∙ ap BadAt j
