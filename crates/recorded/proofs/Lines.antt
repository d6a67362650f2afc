-- THE LINE OF A TAP has exactly three tabs: its four fields are all of it. Assumes nothing.
use Prim.Native.Nat.{ℕ, suc, ◌%◌, ◌≤◌}
use native.Mathlib.Omega.{arith}
use mathlib.Core.Path.{◌≡◌, refl, sym, ap, ◌∙◌, subst}
use mathlib.Core.List.{List, [], ◌∷◌}
use mathlib.Core.Bool.{Bool, true, false, cond, not, ◌&&◌}
use lib.ListN.{length}
use lib.Dec.{leb, eqb}
use borrow.Author.Tests.{leb-true}
use Rattle.wire.specs.Wire.{alike}
use Rattle.wire.proofs.Laws.{both_true, alike_same}
use Rattle.text.specs.Text.{ascii, all_of, is_hex, is_hex_digit, hex_value}
use Rattle.text.specs.Lines.{tail_after}
use Rattle.text.proofs.LineLaws.{tail_small, other, all_other, tail_on, tail_here}
use Rattle.history.proofs.Choice.{clash, or_false}
use Rattle.tapline.specs.Line.{request_in, draw_in, answers_in, expected_in, is_bytes, is_some, is_draw, is_expected, is_tap}
use Rattle.recorded.specs.Facts.{tabs}

-- A TEXT that goes on after a tab has one tab more than what stands after it
one_tab : (l : List ℕ) → 1 ≤ length (tail_after 9 l) → tabs l ≡ suc (tabs (tail_after 9 l))
unfolding tabs
one_tab [] h = let z = tail_small 9 [] in absurd (omega arith)
one_tab (b ∷ l) h = go (eqb b 9) refl (one_tab l)
  where
    go :
        (c : Bool) → eqb b 9 ≡ c → (1 ≤ length (tail_after 9 l) → tabs l ≡ suc (tabs (tail_after 9 l)))
        → tabs (b ∷ l) ≡ suc (tabs (tail_after 9 (b ∷ l)))
    go true e ih = rw (tail_here 9 b l e, e)
    go false e ih = rw (tail_on 9 b l e, e) (ih (rw (tail_on 9 b l e) at h))

-- hex digits hold no tab
no_tab : (l : List ℕ) → all_of (other 9) l ≡ true → tabs l ≡ 0
unfolding tabs all_of
no_tab [] e = refl
no_tab (b ∷ l) e = let z = both_true (other 9 b) (all_of (other 9) l) e in go (eqb b 9) z.0 (no_tab l z.1)
  where
    go : (c : Bool) → not c ≡ true → tabs l ≡ 0 → cond c (suc (tabs l)) (tabs l) ≡ 0
    go true f ih = clash f refl
    go false f ih = ih

hex_no_tab : (l : List ℕ) → is_hex l ≡ true → tabs l ≡ 0
unfolding is_hex_digit hex_value
hex_no_tab l e = no_tab l (all_other is_hex_digit 9 refl l e)

-- an expected response has a byte at least, and no tab
some_is : (v : List ℕ) → is_some v ≡ true → (1 ≤ length v) × (tabs v ≡ 0)
unfolding is_some is_bytes
some_is v e =
    let z = both_true (leb 1 (length v)) (eqb (length v % 2) 0 && is_hex v) e in
    (leb-true 1 (length v) z.0, hex_no_tab v (both_true (eqb (length v % 2) 0) (is_hex v) z.1).1)

four_is : (1 ≤ length (ascii "4")) × (tabs (ascii "4") ≡ 0)
unfolding tabs
four_is = (omega arith, refl)

expected_is : (v : List ℕ) → is_expected v ≡ true → (1 ≤ length v) × (tabs v ≡ 0)
unfolding is_expected
expected_is v e = go (alike v (ascii "4")) refl
  where
    go : (b : Bool) → alike v (ascii "4") ≡ b → (1 ≤ length v) × (tabs v ≡ 0)
    go true f = subst (λ (v : List ℕ). (1 ≤ length v) × (tabs v ≡ 0)) (sym (alike_same v (ascii "4") f)) four_is
    go false f = some_is v (or_false (alike v (ascii "4")) (is_some v) e f)

-- A TAP'S LINE has three tabs
pub tap_has_three_tabs : (l : List ℕ) → is_tap l ≡ true → tabs l ≡ 3
unfolding is_tap expected_in
tap_has_three_tabs l e =
    let a : List ℕ = tail_after 9 l in
    let b : List ℕ = tail_after 9 a in
    let c : List ℕ = tail_after 9 b in
    let x = (both_true (is_some (request_in l)) (is_draw (draw_in l) && (is_bytes (answers_in l) && is_expected (expected_in l))) e).1 in
    let y = (both_true (is_draw (draw_in l)) (is_bytes (answers_in l) && is_expected (expected_in l)) x).1 in
    let z = expected_is c (both_true (is_bytes (answers_in l)) (is_expected (expected_in l)) y).1 in
    let h₁ : 1 ≤ length b = omega (arith, z.0, tail_small 9 b) in
    let h₂ : 1 ≤ length a = omega (arith, h₁, tail_small 9 a) in
    one_tab l h₂ ∙ ap suc (one_tab a h₁ ∙ ap suc (one_tab b z.0 ∙ ap suc z.1))
