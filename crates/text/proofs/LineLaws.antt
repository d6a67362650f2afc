-- What the callers of `text::lines` cite: the walk over lines, and the text that was put together of lines. Assumes nothing.
use Prim.Native.Nat.{ℕ, zero, suc, ◌+◌, ◌≤◌, ◌<◌, max}
use native.Mathlib.Omega.{arith}
use native.Mathlib.Numerals.{add-one}
use mathlib.Core.Path.{◌≡◌, refl, sym, ap, ◌∙◌}
use mathlib.Core.List.{List, [], ◌∷◌, ◌++◌}
use mathlib.Core.Bool.{Bool, true, false, cond, not}
use lib.ListN.{length, take, drop, get_or, length-append, length-take, length-drop, take-append-drop, drop_of_length-le}
use lib.Seq.{length-take-le, drop-cons, take_at, drop-drop, drop-append-add}
use lib.Dec.{ltb, eqb}
use borrow.Author.Tests.{lt-ltb, ltb-true, ltb-false, eq-eqb, ne_eqb, eqb-true, not-true}
use Rattle.wire.specs.Wire.{joined}
use Rattle.wire.proofs.Laws.{by_cases, never, both_true, part_plain}
use Rattle.text.specs.Text.{all_of}
use Rattle.text.specs.Lines.{length_to, head_to, tail_after, next_line, start_of, from_line, ended, before, lines_of}

-- THE SCAN for the first b
module _ (b : ℕ) (s : List ℕ) (i : ℕ) where
  pub scan_found : i < length s → get_or s i 0 ≡ b → length_to b (drop i s) ≡ 0
  unfolding length_to
  scan_found h e = rw (drop-cons s i 0 h, eq-eqb _ _ e)

  pub scan_on : i < length s → (get_or s i 0 ≡ b → ⊥) → length_to b (drop i s) ≡ suc (length_to b (drop (i + 1) s))
  unfolding length_to
  scan_on h f = rw (add-one, drop-cons s i 0 h, ne_eqb _ _ f)

  pub scan_end : length s ≤ i → length_to b (drop i s) ≡ 0
  unfolding length_to
  scan_end h = rw (drop_of_length-le s h)

pub length_to_within : (b : ℕ) (s : List ℕ) → length_to b s ≤ length s
unfolding length_to
length_to_within b [] = omega arith
length_to_within b (x ∷ s) = go (eqb x b) (length_to_within b s)
  where
    go : (t : Bool) → length_to b s ≤ length s → cond t 0 (suc (length_to b s)) ≤ suc (length s)
    go true h = omega arith
    go false h = omega arith

-- what stands before the first b, and what stands after it, is no longer than all
pub head_small : (b : ℕ) (l : List ℕ) → length (head_to b l) ≤ length l
unfolding head_to
head_small b l = simp length-take (omega arith)

pub tail_small : (b : ℕ) (l : List ℕ) → length (tail_after b l) ≤ length l
unfolding tail_after
tail_small b l = simp length-drop (omega arith)

-- a walk by lines moves on
pub next_later : (s : List ℕ) (at : ℕ) → at < length s → at < next_line s at
unfolding next_line
next_later s at h = rw (lt-ltb _ _ h) (omega arith)

pub start_next : (k : ℕ) (s : List ℕ) → 1 ≤ k → start_of (k + 1) s ≡ next_line s (start_of k s)
unfolding start_of
start_next zero s h = absurd (omega arith)
start_next (suc k) s h = rw add-one

pub start_reached : (k i : ℕ) (s : List ℕ) → 1 ≤ i → i ≤ max 1 k → k ≤ i → start_of i s ≡ start_of k s
unfolding start_of
start_reached zero i s h h₁ h₂ = let e : i ≡ 1 = omega arith in rw e
start_reached (suc k) i s h h₁ h₂ = let e : i ≡ suc k = omega arith in ap (λ (n : ℕ). start_of n s) e

-- what the automatic proofs cite besides std's lemmas
pub ruleset scanning = (scan_found, scan_on, scan_end, length_to_within, part_plain, start_next)

-- TEXT PUT TOGETHER: what b does not stand in, with a b after it. An element that is not b:
abbrev pub other : ℕ → ℕ → Bool
other b x = not (eqb x b)

-- a text that passes a test which b fails holds no b
pub all_other : (p : ℕ → Bool) (b : ℕ) → p b ≡ false → (l : List ℕ) → all_of p l ≡ true → all_of (other b) l ≡ true
unfolding all_of
all_other p b e [] h = refl
all_other p b e (x ∷ l) h =
    let h₁ = both_true (p x) (all_of p l) h in
    let f : eqb x b ≡ false = ne_eqb x b (λ z. absurd (never (sym e ∙ ap p (sym z) ∙ h₁.0))) in
    rw f (all_other p b e l h₁.1)

module _ (b : ℕ) where
  pub scan_past : (l t : List ℕ) → all_of (other b) l ≡ true → length_to b (l ++ (b ∷ t)) ≡ length l
  unfolding all_of length_to
  scan_past [] t h = rw (eq-eqb b b refl)
  scan_past (x ∷ l) t h =
      let h₁ = both_true (other b x) (all_of (other b) l) h in
      rw (not-true (eqb x b) h₁.0) (ap suc (scan_past l t h₁.1))

  pub head_past : (l t : List ℕ) → all_of (other b) l ≡ true → head_to b (l ++ (b ∷ t)) ≡ l
  unfolding head_to
  head_past l t h = take_at l (b ∷ t) (length_to b (l ++ (b ∷ t))) (sym (scan_past l t h))

  pub tail_past : (l t : List ℕ) → all_of (other b) l ≡ true → tail_after b (l ++ (b ∷ t)) ≡ t
  unfolding tail_after
  tail_past l t h = ap (λ (n : ℕ). drop (n + 1) (l ++ (b ∷ t))) (scan_past l t h) ∙ drop-append-add l (b ∷ t) 1

pub ended_past : (l t : List ℕ) → all_of (other 10) l ≡ true → ended (l ++ (10 ∷ t)) ≡ true
unfolding ended
ended_past l t h = rw (head_past 10 l t h) (lt-ltb _ _ (shorter l t))
  where
    shorter : (l t : List ℕ) → length l < length (l ++ (10 ∷ t))
    shorter l t = omega (arith, length-append l (10 ∷ t))

-- the text after a line
pub next_from : (k : ℕ) (s l t : List ℕ) → 1 ≤ k → all_of (other 10) l ≡ true → from_line k s ≡ l ++ (10 ∷ t) → from_line (k + 1) s ≡ t
unfolding from_line next_line
next_from k s l t h o e =
    let at = start_of k s in
    let n : length (drop at s) ≡ length l + suc (length t) = ap length e ∙ length-append l (10 ∷ t) in
    let i : at < length s = omega (arith, length-drop at s) in
    let z : at + length l + 1 ≡ at + (length l + 1) = omega arith in
    rw (start_next k s h, lt-ltb _ _ i, e, scan_past 10 l t o, z)
    (sym (drop-drop (length l + 1) at s) ∙ ap (drop (length l + 1)) e ∙ drop-append-add l (10 ∷ t) 1)

-- where nothing is left, no line starts
pub none_left : (k : ℕ) (s : List ℕ) → from_line k s ≡ [] → length s ≤ start_of k s
unfolding from_line
none_left k s e = let n : length (drop (start_of k s) s) ≡ 0 = ap length e in omega (arith, length-drop (start_of k s) s)

-- TEXT TAKEN APART: where b stands, it stands between what is before it and what is after it
module _ (b : ℕ) where
  stands : (s : List ℕ) → length_to b s < length s → get_or s (length_to b s) 0 ≡ b
  unfolding length_to
  stands [] h = absurd (omega arith)
  stands (x ∷ s) h = go (eqb x b) refl h (stands s)
    where
      go : (t : Bool) → eqb x b ≡ t → cond t 0 (suc (length_to b s)) < suc (length s) → (length_to b s < length s → get_or s (length_to b s) 0 ≡ b)
          → get_or (x ∷ s) (cond t 0 (suc (length_to b s))) 0 ≡ b
      go true e h f = eqb-true x b e
      go false e h f = f (omega arith)

  pub split_first : (s : List ℕ) → length_to b s < length s → s ≡ head_to b s ++ (b ∷ tail_after b s)
  unfolding head_to tail_after
  split_first s h =
      let n = length_to b s in
      sym (take-append-drop n s) ∙ ap (λ (l : List ℕ). take n s ++ l) (drop-cons s n 0 h ∙ rw (stands s h, add-one))

pub ended_within : (s : List ℕ) → ended s ≡ true → length_to 10 s < length s
unfolding ended head_to
ended_within s e =
    let l : length (take (length_to 10 s) s) ≡ length_to 10 s = length-take-le (length_to 10 s) s (length_to_within 10 s) in
    omega (arith, l, ltb-true (length (take (length_to 10 s) s)) (length s) e)

-- the text after a line
pub next_is_tail : (k : ℕ) (s : List ℕ) → 1 ≤ k → tail_after 10 (from_line k s) ≡ from_line (suc k) s
unfolding from_line start_of next_line tail_after length_to
next_is_tail zero s h = absurd (omega arith)
next_is_tail (suc k) s h =
    let at = start_of (suc k) s in
    let n = length_to 10 (drop at s) in
    let z : at + (n + 1) ≡ at + n + 1 = omega arith in
    by_cases (λ (i : ℕ). drop (n + 1) (drop at s) ≡ drop i s) (ltb at (length s)) {x = at + n + 1} {y = at}
    (λ _. drop-drop (n + 1) at s ∙ ap (λ (i : ℕ). drop i s) z)
    (λ e. let o : drop at s ≡ [] = drop_of_length-le s (ltb-false at (length s) e) in rw o)

-- WHAT STANDS AFTER the first c, by the first element
module _ (c b : ℕ) (l : List ℕ) where
  pub tail_on : eqb b c ≡ false → tail_after c (b ∷ l) ≡ tail_after c l
  unfolding tail_after length_to
  tail_on e =
      let z : suc (length_to c l) + 1 ≡ suc (length_to c l + 1) = omega arith in
      rw e (ap (λ (n : ℕ). drop n (b ∷ l)) z)

  pub tail_here : eqb b c ≡ true → tail_after c (b ∷ l) ≡ l
  unfolding tail_after length_to
  tail_here e = rw e

-- ALL LINES of a text, joined, are the text
before_joins : (b : ℕ) (ls : List (List ℕ)) → joined (before b ls) ≡ b ∷ joined ls
unfolding before joined
before_joins b [] = refl
before_joins b (l ∷ ls) = refl

pub lines_are_text : (s : List ℕ) → joined (lines_of s) ≡ s
unfolding lines_of joined
lines_are_text [] = refl
lines_are_text (b ∷ s) =
    let e = ap (λ (l : List ℕ). b ∷ l) (lines_are_text s) in
    by_cases (λ (ls : List (List ℕ)). joined ls ≡ b ∷ s) (eqb b 10) {x = (b ∷ []) ∷ lines_of s} {y = before b (lines_of s)}
    (λ _. e)
    (λ _. before_joins b (lines_of s) ∙ e)
