-- THE FRONT IS ENOUGH: what is cut off a text after more than 19,968 bytes cannot change what it means. Assumes nothing.
use Prim.Native.Nat.{ℕ, zero, suc, ◌+◌, ◌-◌, ◌*◌, ◌<◌}
use native.Mathlib.Omega.{arith}
use mathlib.Core.Path.{◌≡◌, refl, sym, ap, ◌∙◌}
use mathlib.Core.List.{List, [], ◌∷◌, ◌++◌, append_assoc}
use Rattle.std.proofs.Common.{Option, Some, None}
use lib.ListN.{length, take, drop, take-append-drop}
use lib.Seq.{take-nil, take-append-add}
use Rattle.text.specs.Lines.{tail_after}
use Rattle.notes.specs.declared.Note.{Note}
use Rattle.notes.specs.Notes.{blank}
use Rattle.noteline.specs.NoteLine.{line_of, note_at}
use Rattle.booktext.specs.BookText.{also, standing, notes_from, meaning}
use Rattle.spelled.proofs.Line.{note_back}
use Rattle.spelled.proofs.Spelling.{line_spelled, line_ranges}
use Rattle.notes.proofs.Laws.{follows_good}
use Rattle.spelled.proofs.Steps.{notes_full, notes_bad, notes_on, stands, stands_means}
use Rattle.spelled.proofs.Book.{line_first}
use Rattle.spelled.proofs.Sizes.{longest_line}

-- a front that begins with a line that may stand there: so does the whole, with the same note
front_good : (y x : Note) (n : ℕ) (s : List ℕ) → standing y (note_at (take n s)) ≡ Some x → standing y (note_at s) ≡ Some x
front_good y x n s p =
    let f = take n s in
    let q = stands_means y x (note_at f) p in
    let h = follows_good y x q.1 in
    let t = tail_after 10 f in
    let e : s ≡ line_of x ++ (t ++ drop n s) =
    sym (take-append-drop n s) ∙ ap (λ (v : List ℕ). v ++ drop n s) (line_spelled f x q.0 h) ∙ append_assoc (line_of x) t (drop n s) in
    stands y (ap note_at e ∙ note_back x h (line_ranges f x q.0 h) (t ++ drop n s)) q.1

-- so where the line is bad, it is bad in front too
front_bad : (y : Note) (n : ℕ) (s : List ℕ) → standing y (note_at s) ≡ None → standing y (note_at (take n s)) ≡ None
front_bad y n s p = go (standing y (note_at (take n s))) refl
  where
    go : (m : Option Note) → standing y (note_at (take n s)) ≡ m → m ≡ None
    go None q = refl
    go (Some x) q = sym (front_good y x n s q) ∙ p

-- where the line may stand there, the front goes on after it
module _ (m k : ℕ) (y x : Note) (n b : ℕ) (s : List ℕ) (h : 78 * suc m < n) (p : standing y (note_at (b ∷ s)) ≡ Some x) where
  front_on : ((j : ℕ) → 78 * m < j → notes_from m (k + 1) x (take j (tail_after 10 (b ∷ s))) ≡ notes_from m (k + 1) x (tail_after 10 (b ∷ s)))
      → notes_from (suc m) k y (take n (b ∷ s)) ≡ notes_from (suc m) k y (b ∷ s)
  front_on f =
      let t = tail_after 10 (b ∷ s) in
      let q = stands_means y x (note_at (b ∷ s)) p in
      let g = follows_good y x q.1 in
      let r = line_ranges (b ∷ s) x q.0 g in
      let a = longest_line x g r in
      let j = n - length (line_of x) in
      let z : n ≡ length (line_of x) + j = omega arith in
      let e : take n (b ∷ s) ≡ line_of x ++ take j t =
      ap (λ (v : List ℕ). take n v) (line_spelled (b ∷ s) x q.0 g) ∙ ap (λ (i : ℕ). take i (line_of x ++ t)) z ∙ take-append-add (line_of x) t j in
      ap (notes_from (suc m) k y) e ∙ line_first m k y x (take j t) q.1 r ∙ ap (also x) (f j (omega arith)) ∙ sym (notes_on m k y b s p)

front_from : (m k : ℕ) (y : Note) (n : ℕ) (s : List ℕ) → 78 * m < n → notes_from m k y (take n s) ≡ notes_from m k y s
front_from zero k y n [] h = ap (notes_from 0 k y) (take-nil n)
front_from zero k y zero (b ∷ s) h = absurd (omega arith)
front_from zero k y (suc n) (b ∷ s) h = notes_full k y b (take n s) ∙ sym (notes_full k y b s)
front_from (suc m) k y n [] h = ap (notes_from (suc m) k y) (take-nil n)
front_from (suc m) k y zero (b ∷ s) h = absurd (omega arith)
front_from (suc m) k y (suc n) (b ∷ s) h = go (standing y (note_at (b ∷ s))) refl (λ x j. front_from m (k + 1) x j (tail_after 10 (b ∷ s)))
  where
    go : (o : Option Note) → standing y (note_at (b ∷ s)) ≡ o
        → ((x : Note) (j : ℕ) → 78 * m < j → notes_from m (k + 1) x (take j (tail_after 10 (b ∷ s))) ≡ notes_from m (k + 1) x (tail_after 10 (b ∷ s)))
        → notes_from (suc m) k y (take (suc n) (b ∷ s)) ≡ notes_from (suc m) k y (b ∷ s)
    go (Some x) p f = front_on m k y x (suc n) b s h p (f x)
    go None p f = notes_bad m k y b (take n s) (front_bad y (suc n) (b ∷ s) p) ∙ sym (notes_bad m k y b s p)

pub front_enough : (n : ℕ) (s : List ℕ) → 19968 < n → meaning (take n s) ≡ meaning s
unfolding meaning
front_enough n s h = front_from 256 1 blank n s h
