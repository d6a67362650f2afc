-- WHERE THE LINES OF A SHEET END IN A FILE: up to the last line feed of those that must be there a text is they, and the lines after them are those of
-- the rest; a text that is cut before it stands at their beginning. Assumes nothing.
use Prim.Native.Nat.{ℕ, zero, suc, ◌≤◌, ◌<◌}
use native.Mathlib.Omega.{arith}
use mathlib.Core.Path.{◌≡◌, refl, sym, ap, ◌∙◌}
use mathlib.Core.Bool.{Bool, true, false, cond}
use mathlib.Core.List.{List, [], ◌∷◌, ◌++◌, append-nil}
use lib.ListN.{length, take, drop, take-append-drop, length-append}
use lib.Seq.{take_at, drop_at}
use lib.Dec.{eqb}
use borrow.Author.Tests.{ltb-true, ltb-false}
use Rattle.wire.specs.Wire.{joined}
use Rattle.wire.proofs.Laws.{joined_append}
use Rattle.text.specs.Lines.{before, lines_of}
use Rattle.text.proofs.LineLaws.{lines_are_text}
use Rattle.sheet.specs.Sheet.{sheet_lines, belongs, required_in, after_required, has_pause, size_with, sheet_in, after_sheet}
use Rattle.sheet.proofs.Laws.{belongs_few}
use Rattle.sheets_back.specs.Feeds.{feeds, snoc, Begins}
use Rattle.sheets_back.proofs.Lined.{take_before}

-- A FILE is its first lines, and then the others
in_two : (n : ℕ) (s : List ℕ) → joined (take n (lines_of s)) ++ joined (drop n (lines_of s)) ≡ s
in_two n s = let ls = lines_of s in sym (joined_append (take n ls) (drop n ls)) ∙ (ap joined (take-append-drop n ls) ∙ lines_are_text s)

-- and so its sheet, and then the lines after it
pub sheet_then_lines : (s : List ℕ) → sheet_in s ++ joined (after_sheet s) ≡ s
unfolding sheet_in after_sheet
sheet_then_lines s = in_two (size_with (has_pause s)) s

-- ONE BYTE MORE, and the line feeds
pub snoc_feeds : (v : List ℕ) (b : ℕ) → feeds (snoc v b) ≡ cond (eqb b 10) (suc (feeds v)) (feeds v)
unfolding feeds
snoc_feeds [] b = refl
snoc_feeds (x ∷ v) b = go (eqb x 10) (eqb b 10) (snoc_feeds v b)
  where
    go :
        (c d : Bool) → feeds (snoc v b) ≡ cond d (suc (feeds v)) (feeds v)
        → cond c (suc (feeds (snoc v b))) (feeds (snoc v b)) ≡ cond d (suc (cond c (suc (feeds v)) (feeds v))) (cond c (suc (feeds v)) (feeds v))
    go true true e = ap suc e
    go true false e = ap suc e
    go false true e = e
    go false false e = e

-- THE LINES of a text up to a line feed, and after it
before_append : (x : ℕ) (ls ks : List (List ℕ)) → 1 ≤ length ls → before x (ls ++ ks) ≡ before x ls ++ ks
unfolding before
before_append x [] ks h = absurd (omega arith)
before_append x (l ∷ ls) ks h = refl

before_length : (x : ℕ) (ls : List (List ℕ)) → 1 ≤ length ls → length (before x ls) ≡ length ls
unfolding before
before_length x [] h = absurd (omega arith)
before_length x (l ∷ ls) h = refl

lines_count : (v : List ℕ) → length (lines_of (snoc v 10)) ≡ suc (feeds v)
unfolding lines_of feeds
lines_count [] = refl
lines_count (x ∷ v) = go (eqb x 10) (lines_count v)
  where
    go :
        (c : Bool) → length (lines_of (snoc v 10)) ≡ suc (feeds v)
        → length (cond c ((x ∷ []) ∷ lines_of (snoc v 10)) (before x (lines_of (snoc v 10)))) ≡ suc (cond c (suc (feeds v)) (feeds v))
    go true e = ap suc e
    go false e = before_length x (lines_of (snoc v 10)) (omega (arith, e)) ∙ e

lines_parted : (v s : List ℕ) → lines_of (v ++ (10 ∷ s)) ≡ lines_of (snoc v 10) ++ lines_of s
unfolding lines_of
lines_parted [] s = refl
lines_parted (x ∷ v) s = go (eqb x 10) (lines_parted v s)
  where
    go :
        (c : Bool) → lines_of (v ++ (10 ∷ s)) ≡ lines_of (snoc v 10) ++ lines_of s
        → cond c ((x ∷ []) ∷ lines_of (v ++ (10 ∷ s))) (before x (lines_of (v ++ (10 ∷ s))))
        ≡ cond c ((x ∷ []) ∷ lines_of (snoc v 10)) (before x (lines_of (snoc v 10))) ++ lines_of s
    go true e = ap (λ (ls : List (List ℕ)). (x ∷ []) ∷ ls) e
    go false e = ap (before x) e ∙ before_append x (lines_of (snoc v 10)) (lines_of s) (omega (arith, lines_count v))

-- those up to the last line feed are the lines that must be there
module _ (v s : List ℕ) (h : belongs (feeds v) ≡ true) (k : belongs (suc (feeds v)) ≡ false) where
  all_lines : length (lines_of (snoc v 10)) ≡ sheet_lines
  unfolding belongs
  all_lines = lines_count v ∙ omega (arith, ltb-true (feeds v) sheet_lines h, ltb-false (suc (feeds v)) sheet_lines k)

  pub required_is : required_in (v ++ (10 ∷ s)) ≡ snoc v 10
  unfolding required_in
  required_is =
      ap (λ (ls : List (List ℕ)). joined (take sheet_lines ls)) (lines_parted v s)
      ∙ ap joined (take_at (lines_of (snoc v 10)) (lines_of s) sheet_lines all_lines)
      ∙ lines_are_text (snoc v 10)

  pub lines_after : after_required (v ++ (10 ∷ s)) ≡ lines_of s
  unfolding after_required
  lines_after = ap (drop sheet_lines) (lines_parted v s) ∙ drop_at (lines_of (snoc v 10)) (lines_of s) sheet_lines all_lines

-- fewer stand at their beginning
few_begin : (n : ℕ) (w s : List ℕ) → feeds w < n → Begins w (joined (take n (lines_of (w ++ s))))
unfolding feeds lines_of joined
few_begin n [] s h = (joined (take n (lines_of s)), refl)
few_begin zero (b ∷ w) s h = absurd (omega arith)
few_begin (suc n) (b ∷ w) s h = go (eqb b 10) h (few_begin n w s) (few_begin (suc n) w s)
  where
    go :
        (c : Bool) → cond c (suc (feeds w)) (feeds w) < suc n
        → (feeds w < n → Begins w (joined (take n (lines_of (w ++ s)))))
        → (feeds w < suc n → Begins w (joined (take (suc n) (lines_of (w ++ s)))))
        → Begins (b ∷ w) (joined (take (suc n) (cond c ((b ∷ []) ∷ lines_of (w ++ s)) (before b (lines_of (w ++ s))))))
    go true h ih₁ ih₂ = let z = ih₁ (omega arith) in (z.0, ap (λ (l : List ℕ). b ∷ l) z.1)
    go false h ih₁ ih₂ = let z = ih₂ h in (z.0, take_before n b (lines_of (w ++ s)) ∙ ap (λ (l : List ℕ). b ∷ l) z.1)

pub required_begins : (w s : List ℕ) → belongs (feeds w) ≡ true → Begins w (required_in (w ++ s))
unfolding required_in
required_begins w s h = few_begin sheet_lines w s (belongs_few (feeds w) h)

-- and where nothing follows, they are all of it
none_more : (r : List ℕ) → length r ≡ 0 → r ≡ []
none_more [] e = refl
none_more (x ∷ r) e = absurd (omega arith)

pub required_all : (w : List ℕ) → belongs (feeds w) ≡ true → required_in w ≡ w
unfolding required_in
required_all w h =
    let z = required_begins w [] h in
    let q : List ℕ = joined (take sheet_lines (lines_of w)) in
    let a : q ≡ w ++ z.0 = ap required_in (sym (append-nil w)) ∙ z.1 in
    let t : List ℕ = joined (drop sheet_lines (lines_of w)) in
    let n : length z.0 ≡ 0 = omega (arith, ap length (in_two sheet_lines w), length-append q t, ap length a, length-append w z.0) in
    a ∙ ap (λ (r : List ℕ). w ++ r) (none_more z.0 n) ∙ append-nil w
