-- `same` MEANS EQUAL BYTES: of an expected response in capital hex, and of the one that was told. Assumes nothing.
use Prim.Native.Nat.{ℕ, ◌+◌, ◌*◌, ◌/◌, ◌%◌, ◌≤◌, ◌<◌}
use native.Mathlib.Omega.{arith}
use native.Mathlib.Decide.{dec_lt}
use mathlib.Core.Path.{◌≡◌, refl, sym, ap, ap₂, ◌∙◌}
use mathlib.Core.List.{List, [], ◌∷◌}
use mathlib.Core.Bool.{true, cond, ◌&&◌}
use lib.ListN.{length}
use lib.Dec.{ltb}
use borrow.Author.Tests.{lt-ltb, le-ltb, ltb-true}
use Rattle.wire.specs.Wire.{alike, Bytes}
use Rattle.wire.proofs.Laws.{both_true, alike_self, alike_same}
use Rattle.text.specs.Text.{all_of, hex_value, is_hex_digit, is_hex, pair_value, unhex, hex_digit, hex_of}
use Rattle.text.proofs.Laws.{value_digit, value_letter, value_below, value_between, value_above, unhex_hex_of}

-- a capital hex digit is the digit of its value
digit_of_value : (b : ℕ) → hex_value b < 16 → hex_digit (hex_value b) ≡ b
unfolding hex_digit
digit_of_value b h = below (dec_lt b 48)
  where
    above : Dec (70 < b) → 65 ≤ b → cond (ltb (hex_value b) 10) (hex_value b + 48) (hex_value b + 55) ≡ b
    above (yes k) l = absurd (omega (arith, value_above b k))
    above (no k) l =
        let e = value_letter b l (omega (arith, k)) in
        let z : 10 ≤ hex_value b = omega (arith, e) in
        rw (le-ltb (hex_value b) 10 z) (omega (arith, e))

    between : Dec (57 < b) → 48 ≤ b → cond (ltb (hex_value b) 10) (hex_value b + 48) (hex_value b + 55) ≡ b
    between (yes k) l = next (dec_lt b 65)
      where
        next : Dec (b < 65) → cond (ltb (hex_value b) 10) (hex_value b + 48) (hex_value b + 55) ≡ b
        next (yes j) = absurd (omega (arith, value_between b k j))
        next (no j) = above (dec_lt 70 b) (omega (arith, j))
    between (no k) l =
        let e = value_digit b l (omega (arith, k)) in
        let z : hex_value b < 10 = omega (arith, e, k) in
        rw (lt-ltb (hex_value b) 10 z) (omega (arith, e))

    below : Dec (b < 48) → cond (ltb (hex_value b) 10) (hex_value b + 48) (hex_value b + 55) ≡ b
    below (yes k) = absurd (omega (arith, value_below b k))
    below (no k) = between (dec_lt 57 b) (omega (arith, k))

-- HEX IS SPELT BACK
pub hex_of_unhex : (s : List ℕ) → is_hex s ≡ true → length s % 2 ≡ 0 → hex_of (unhex s) ≡ s
unfolding hex_of unhex all_of pair_value is_hex_digit
hex_of_unhex [] h e = refl
hex_of_unhex (a ∷ []) h e = absurd (omega arith)
hex_of_unhex (a ∷ b ∷ s) h e =
    let x = both_true (ltb (hex_value a) 16) (is_hex_digit b && is_hex s) h in
    let y = both_true (ltb (hex_value b) 16) (is_hex s) x.1 in
    let u : hex_value a < 16 = ltb-true _ _ x.0 in
    let v : hex_value b < 16 = ltb-true _ _ y.0 in
    let i : (hex_value a * 16 + hex_value b) % 256 / 16 ≡ hex_value a = omega arith in
    let j : (hex_value a * 16 + hex_value b) % 256 % 16 ≡ hex_value b = omega arith in
    ap₂ ◌∷◌ (ap hex_digit i ∙ digit_of_value a u)
    (ap₂ ◌∷◌ (ap hex_digit j ∙ digit_of_value b v) (hex_of_unhex s y.1 (omega arith)))

-- an expected response e in capital hex, and the bytes r of the response
module _ (e r : List ℕ) (h : is_hex e ≡ true) (l : length e % 2 ≡ 0) where
  pub same_bytes : Bytes r → alike e (hex_of r) ≡ true → unhex e ≡ r
  same_bytes b s = ap unhex (alike_same e (hex_of r) s) ∙ unhex_hex_of r b

  pub bytes_same : unhex e ≡ r → alike e (hex_of r) ≡ true
  bytes_same s = ap (λ m. alike m (hex_of r)) (sym (hex_of_unhex e h l) ∙ ap hex_of s) ∙ alike_self (hex_of r)
