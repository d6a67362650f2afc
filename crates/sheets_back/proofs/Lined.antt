-- A TEXT BY ITS LINES: the first of them is what a text begins with; the lines from line k on are those of the text from there, and the first n lines
-- those of the text that they make. Assumes nothing.
use Prim.Native.Nat.{ℕ, zero, suc, ◌+◌}
use native.Mathlib.Omega.{arith}
use mathlib.Core.Path.{◌≡◌, refl, sym, ap, ap₂, ◌∙◌}
use mathlib.Core.Bool.{Bool, true, false, cond, ◌&&◌}
use mathlib.Core.List.{List, [], ◌∷◌}
use lib.ListN.{length, take, drop, get_or}
use lib.Seq.{take-nil, drop-drop}
use lib.Dec.{eqb, leb-suc-suc}
use borrow.Author.Tests.{lt-ltb}
use Rattle.wire.specs.Wire.{joined}
use Rattle.text.specs.Lines.{length_to, head_to, tail_after, start_of, from_line, ended, before, lines_of}
use Rattle.text.proofs.LineLaws.{next_is_tail, tail_on, tail_here}
use Rattle.sheet.specs.Sheet.{Row, good_row, value_in, good_line}

-- THE FIRST LINE, with its line feed; nothing where there is none
abbrev pub first : List (List ℕ) → List ℕ
first ls = get_or ls 0 []

first_before : (b : ℕ) (ls : List (List ℕ)) → first (before b ls) ≡ b ∷ first ls
unfolding before
first_before b [] = refl
first_before b (l ∷ ls) = refl

-- it begins as the text does
first_scan : (t : List ℕ) → head_to 10 (first (lines_of t)) ≡ head_to 10 t
unfolding lines_of head_to length_to
first_scan [] = refl
first_scan (b ∷ t) = go (eqb b 10) refl (first_scan t)
  where
    go : (c : Bool) → eqb b 10 ≡ c → head_to 10 (first (lines_of t)) ≡ head_to 10 t
        → head_to 10 (first (cond c ((b ∷ []) ∷ lines_of t) (before b (lines_of t)))) ≡ head_to 10 (b ∷ t)
    go true e ih = rw e
    go false e ih = rw (first_before b (lines_of t), e) (ap (λ (l : List ℕ). b ∷ l) ih)

-- and it has its line feed where the text has one there
ended_here : (b : ℕ) (l : List ℕ) → eqb b 10 ≡ true → ended (b ∷ l) ≡ true
unfolding ended head_to length_to
ended_here b l e = rw e (lt-ltb 0 (suc (length l)) (omega arith))

ended_on : (b : ℕ) (l : List ℕ) → eqb b 10 ≡ false → ended (b ∷ l) ≡ ended l
unfolding ended head_to length_to
ended_on b l e = rw e (leb-suc-suc (suc (length (take (length_to 10 l) l))) (length l))

first_ended : (t : List ℕ) → ended (first (lines_of t)) ≡ ended t
unfolding lines_of
first_ended [] = refl
first_ended (b ∷ t) = go (eqb b 10) refl (first_ended t)
  where
    go : (c : Bool) → eqb b 10 ≡ c → ended (first (lines_of t)) ≡ ended t
        → ended (first (cond c ((b ∷ []) ∷ lines_of t) (before b (lines_of t)))) ≡ ended (b ∷ t)
    go true e ih = ended_here b [] e ∙ sym (ended_here b t e)
    go false e ih = ap ended (first_before b (lines_of t)) ∙ ended_on b (first (lines_of t)) e ∙ ih ∙ sym (ended_on b t e)

-- so a text begins with a good line where its first line is one, and has its value
pub first_good : (r : Row) (t : List ℕ) → good_line r (first (lines_of t)) ≡ good_line r t
unfolding good_line
first_good r t = ap₂ (λ (c : Bool) (l : List ℕ). c && good_row r (head_to 9 l) (tail_after 9 l)) (first_ended t) (first_scan t)

pub first_value : (t : List ℕ) → value_in (first (lines_of t)) ≡ value_in t
first_value t = ap (tail_after 9) (first_scan t)

-- THE LINES AFTER THE FIRST
pub lines_tail : (t : List ℕ) → lines_of (tail_after 10 t) ≡ drop 1 (lines_of t)
unfolding lines_of tail_after length_to before
lines_tail [] = refl
lines_tail (b ∷ t) = go (eqb b 10) refl (lines_tail t)
  where
    behind : (ls : List (List ℕ)) → drop 1 ls ≡ drop 1 (before b ls)
    behind [] = refl
    behind (l ∷ ls) = refl

    go : (c : Bool) → eqb b 10 ≡ c → lines_of (tail_after 10 t) ≡ drop 1 (lines_of t)
        → lines_of (tail_after 10 (b ∷ t)) ≡ drop 1 (cond c ((b ∷ []) ∷ lines_of t) (before b (lines_of t)))
    go true e ih = ap lines_of (tail_here 10 b t e)
    go false e ih = ap lines_of (tail_on 10 b t e) ∙ ih ∙ behind (lines_of t)

-- FROM A LINE ON
pub lines_from : (k : ℕ) (s : List ℕ) → lines_of (from_line (suc k) s) ≡ drop k (lines_of s)
unfolding from_line start_of
lines_from zero s = refl
lines_from (suc k) s =
    let z : k + 1 ≡ suc k = omega arith in
    ap lines_of (sym (next_is_tail (suc k) s (omega arith)))
    ∙ lines_tail (from_line (suc k) s)
    ∙ ap (drop 1) (lines_from k s)
    ∙ drop-drop 1 k (lines_of s)
    ∙ ap (λ (j : ℕ). drop j (lines_of s)) z

-- THE FIRST LINES of a text, joined, have these lines
pub take_before : (n b : ℕ) (ls : List (List ℕ)) → joined (take (suc n) (before b ls)) ≡ b ∷ joined (take (suc n) ls)
unfolding before joined
take_before zero b [] = refl
take_before (suc n) b [] = refl
take_before n b (l ∷ ls) = refl

pub lines_front : (n : ℕ) (s : List ℕ) → lines_of (joined (take n (lines_of s))) ≡ take n (lines_of s)
unfolding lines_of joined before
lines_front zero [] = refl
lines_front (suc n) [] = refl
lines_front zero (b ∷ s) = refl
lines_front (suc n) (b ∷ s) = go (eqb b 10) refl (lines_front n s) (lines_front (suc n) s)
  where
    front : (ls : List (List ℕ)) → before b (take (suc n) ls) ≡ take (suc n) (before b ls)
    front [] = ap (λ (ls : List (List ℕ)). (b ∷ []) ∷ ls) (sym (take-nil n))
    front (l ∷ ls) = refl

    go :
        (c : Bool) → eqb b 10 ≡ c → lines_of (joined (take n (lines_of s))) ≡ take n (lines_of s)
        → lines_of (joined (take (suc n) (lines_of s))) ≡ take (suc n) (lines_of s)
        → lines_of (joined (take (suc n) (cond c ((b ∷ []) ∷ lines_of s) (before b (lines_of s)))))
        ≡ take (suc n) (cond c ((b ∷ []) ∷ lines_of s) (before b (lines_of s)))
    go true e ih₁ ih₂ = rw e (ap (λ (ls : List (List ℕ)). (b ∷ []) ∷ ls) ih₁)
    go false e ih₁ ih₂ = ap lines_of (take_before n b (lines_of s)) ∙ rw e (ap (before b) ih₂ ∙ front (lines_of s))
