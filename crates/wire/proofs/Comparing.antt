-- COMPARING what was sent with a code: what the differences of all bytes, gathered by `or`, tell. Assumes nothing.
use Prim.Native.Nat.{ℕ, zero, suc, ◌+◌, ◌≤◌, ◌<◌}
use native.Mathlib.Omega.{arith}
use native.Mathlib.Decide.{ℕ_discrete}
use mathlib.Core.Path.{◌≡◌, refl, sym, ap, ◌∙◌}
use mathlib.Core.List.{List, [], ◌∷◌, ◌++◌}
use mathlib.Core.Bool.{cond, ◌&&◌}
use lib.ListN.{length, take, drop, get_or, replicate, length-append, length-take, length-replicate}
use lib.Seq.{take_at, get_or-take}
use lib.Bits.{bit_or, bit_xor, and_le_l, and_le_r, xor_add_and, xor_self}
use lib.Dec.{eqb}
use borrow.Author.Tests.{eq-eqb, ne_eqb}
use Rattle.wire.specs.Wire.{alike}
use Rattle.wire.proofs.Laws.{and_false, and_one, and_assoc, or_zero, other_length, alike_step, alike_end}

xor_zero : (x y : ℕ) → eqb (bit_xor x y) 0 ≡ eqb x y
xor_zero x y = go (ℕ_discrete x y)
  where
    go : Dec (x ≡ y) → eqb (bit_xor x y) 0 ≡ eqb x y
    go (yes p) = rw (p, xor_self y, eq-eqb y y refl)
    go (no p) = rw (ne_eqb x y p, ne_eqb (bit_xor x y) 0 (λ e. p (omega (arith, xor_add_and x y, and_le_l x y, and_le_r x y))))

-- n bytes: those that were sent, and 0 for each that was not
abbrev pub laid : List ℕ → ℕ → List ℕ
laid sent n = take n (sent ++ replicate n 0)

length_laid : (sent : List ℕ) (n : ℕ) → length (laid sent n) ≡ n
length_laid sent n = let l = length-replicate n zero in simp (length-take, length-append) (omega arith)

zeros_after : (s : List ℕ) (n i : ℕ) → get_or (s ++ replicate n 0) i 0 ≡ get_or s i 0
zeros_after [] zero i = refl
zeros_after [] (suc n) zero = refl
zeros_after [] (suc n) (suc i) = zeros_after [] n i
zeros_after (x ∷ s) n zero = refl
zeros_after (x ∷ s) n (suc i) = zeros_after s n i

laid_whole : (sent : List ℕ) (n : ℕ) → length sent ≡ n → laid sent n ≡ sent
laid_whole sent n e = take_at sent (replicate n 0) n e

module _ (sent code : List ℕ) (d i : ℕ) where
  pub differ : i < length code
      → (eqb d 0 && alike (drop i (laid sent (length code))) (drop i code))
      ≡ (eqb (bit_or d (bit_xor (get_or sent i 0) (get_or code i 0))) 0 && alike (drop (i + 1) (laid sent (length code))) (drop (i + 1) code))
  differ k =
      let a = laid sent (length code) in
      let h : i < length a = omega (arith, length_laid sent (length code)) in
      let g = get_or-take (length code) (sent ++ replicate (length code) 0) i 0 k ∙ zeros_after sent (length code) i in
      let x = bit_xor (get_or sent i 0) (get_or code i 0) in
      rw (alike_step a code i h k, g, or_zero d x, xor_zero (get_or sent i 0) (get_or code i 0))
      (sym (and_assoc (eqb d 0) (eqb (get_or sent i 0) (get_or code i 0)) (alike (drop (i + 1) a) (drop (i + 1) code))))

  pub differed : length code ≤ i → (eqb d 0 && alike (drop i (laid sent (length code))) (drop i code)) ≡ eqb d 0
  differed k =
      rw (alike_end (laid sent (length code)) code i (omega (arith, length_laid sent (length code))) k) (and_one (eqb d 0))

-- THE LAW, over any two lengths: the differences d of all bytes, with one more where the lengths differ, are 0 exactly where the two are alike
pub alike_gathered : (sent code : List ℕ) (d : ℕ) → eqb d 0 ≡ alike (laid sent (length code)) code
    → alike sent code ≡ eqb (cond (eqb (length sent) (length code)) d (bit_or d 1)) 0
alike_gathered sent code d e = go (ℕ_discrete (length sent) (length code))
  where
    go : Dec (length sent ≡ length code) → alike sent code ≡ eqb (cond (eqb (length sent) (length code)) d (bit_or d 1)) 0
    go (yes p) = rw (eq-eqb (length sent) (length code) p) (sym (e ∙ ap (λ l. alike l code) (laid_whole sent (length code) p)))
    go (no p) = rw (ne_eqb (length sent) (length code) p, other_length sent code p, or_zero d 1) (sym (and_false (eqb d 0)))
