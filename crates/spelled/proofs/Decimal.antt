-- NUMBERS IN DECIMAL: there is one spelling of a number. Assumes nothing.
use Prim.Native.Nat.{ℕ, suc, ◌+◌, ◌-◌, ◌*◌, ◌/◌, ◌%◌, ◌≤◌, ◌<◌}
use native.Mathlib.Omega.{arith}
use mathlib.Core.Path.{◌≡◌, refl, sym, ap, ◌∙◌}
use mathlib.Core.List.{List, [], ◌∷◌, ◌++◌, append_assoc, append-nil}
use mathlib.Core.Bool.{Bool, true, false, cond, not, ◌&&◌, ◌||◌}
use lib.ListN.{length}
use lib.Dec.{leb, eqb}
use borrow.Author.Tests.{leb-true, eqb-false, not-true, le-leb, ne_eqb}
use Rattle.wire.proofs.Laws.{both_true, never}
use Rattle.std.proofs.Common.{Some, None}
use Rattle.text.specs.Text.{all_of, is_digit, is_digits, decimal_from, decimal, plain_decimal, fitting, number_of, decimal_of}
use Rattle.text.proofs.Laws.{decimal_small, decimal_more, decimal_decimal_of, plain_decimal_decimal_of}

-- a digit is 48 to 57
digit_range : (d : ℕ) → is_digit d ≡ true → (48 ≤ d) × (d ≤ 57)
unfolding is_digit
digit_range d e = let h = both_true (leb 48 d) (leb d 57) e in (leb-true 48 d h.0, leb-true d 57 h.1)

-- one digit more after a number that is not 0
one_more : (n d : ℕ) → 1 ≤ n → 48 ≤ d → d ≤ 57 → decimal_of (n * 10 + (d - 48)) ≡ decimal_of n ++ (d ∷ [])
one_more n d h a b =
    let m = n * 10 + (d - 48) in
    let e : m / 10 ≡ n = omega arith in
    let f : m % 10 + 48 ≡ d = omega arith in
    decimal_more m (omega arith) ∙ rw (e, f)

-- digits after a number that is not 0
digits_after : (n : ℕ) (s : List ℕ) → 1 ≤ n → is_digits s ≡ true → decimal_of n ++ s ≡ decimal_of (decimal_from n s)
unfolding all_of decimal_from
digits_after n [] h e = append-nil (decimal_of n)
digits_after n (d ∷ s) h e =
    let p = both_true (is_digit d) (is_digits s) e in
    let r = digit_range d p.0 in
    let m = n * 10 + (d - 48) in
    sym (append_assoc (decimal_of n) (d ∷ []) s) ∙ ap (λ (l : List ℕ). l ++ s) (sym (one_more n d h r.0 r.1)) ∙ digits_after m s (omega arith) p.1

-- a first digit with more after it is not 0
first_digit : (d : ℕ) (s : List ℕ) → 1 ≤ length s → (eqb (suc (length s)) 1 || not (eqb d 48)) ≡ true → d ≡ 48 → ⊥
first_digit d s h e = let f : eqb (suc (length s)) 1 ≡ false = ne_eqb (suc (length s)) 1 (λ z. omega arith) in eqb-false d 48 (not-true (eqb d 48) (rw f at e))

-- ONE SPELLING: digits without a leading zero are the decimal of the number that they spell
pub decimal_spelled : (s : List ℕ) → plain_decimal s ≡ true → s ≡ decimal_of (decimal s)
unfolding plain_decimal all_of decimal_from
decimal_spelled [] e = absurd (never e)
decimal_spelled (d ∷ []) e =
    let p = both_true (is_digit d && true) (leb 1 1 && (eqb 1 1 || not (eqb d 48))) e in
    let r = digit_range d (both_true (is_digit d) true p.0).0 in
    let n = 0 * 10 + (d - 48) in
    let z : n + 48 ≡ d = omega (arith, r) in
    sym (decimal_small n (omega (arith, r)) ∙ ap (λ (k : ℕ). k ∷ []) z)
decimal_spelled (d ∷ c ∷ s) e =
    let t = c ∷ s in
    let p = both_true (is_digit d && is_digits t) (leb 1 (suc (length t)) && (eqb (suc (length t)) 1 || not (eqb d 48))) e in
    let q = both_true (is_digit d) (is_digits t) p.0 in
    let r = digit_range d q.0 in
    let f = first_digit d t (omega arith) (both_true (leb 1 (suc (length t))) (eqb (suc (length t)) 1 || not (eqb d 48)) p.1).1 in
    let n = 0 * 10 + (d - 48) in
    let z : n + 48 ≡ d = omega (arith, r) in
    let h : 1 ≤ n = omega (arith, r, f) in
    sym (ap (λ (k : ℕ). k ∷ t) z) ∙ ap (λ (l : List ℕ). l ++ t) (sym (decimal_small n (omega (arith, r)))) ∙ digits_after n t h q.1

-- so a text that is a number is the decimal of that number
pub number_spelled : (s : List ℕ) (n : ℕ) → number_of s ≡ Some n → s ≡ decimal_of n
unfolding number_of fitting
number_spelled s n e = go (plain_decimal s) (leb (decimal s) 4294967295) refl e
  where
    go : (b c : Bool) → plain_decimal s ≡ b → cond b (cond c (Some (decimal s)) None) None ≡ Some n → s ≡ decimal_of n
    go true true p q = let z : decimal s ≡ n = cc in decimal_spelled s p ∙ ap decimal_of z
    go true false p q = cc
    go false c p q = cc

-- and the decimal of a number is read as that number
pub number_back : (n : ℕ) → n < 4294967296 → number_of (decimal_of n) ≡ Some n
unfolding number_of fitting
number_back n h = let k : n ≤ 4294967295 = omega arith in rw (plain_decimal_decimal_of n, decimal_decimal_of n, le-leb _ _ k)
