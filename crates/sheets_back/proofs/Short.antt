-- GOOD LINES OF A SHEET ARE SHORT: a name of at most 8 bytes, a tab, and a value of at most 64. Assumes nothing.
use Prim.Native.Nat.{ℕ, zero, suc, ◌+◌, ◌-◌, ◌*◌, ◌^◌, ◌≤◌, ◌<◌}
use native.Mathlib.Omega.{arith}
use native.Mathlib.Nat.{pow-suc}
use native.Mathlib.Decide.{dec_lt}
use mathlib.Core.Path.{◌≡◌, refl, sym, ap, ◌∙◌}
use mathlib.Core.Bool.{Bool, true, false, cond, not, ◌&&◌, ◌||◌}
use mathlib.Core.List.{List, [], ◌∷◌}
use lib.ListN.{length, get_or, length-take, length-drop}
use lib.Dec.{leb, eqb}
use borrow.Author.Tests.{leb-true, eqb-true, eqb-false, ne_eqb, not-true}
use Rattle.wire.specs.Wire.{alike}
use Rattle.wire.proofs.Laws.{never, both_true, alike_same}
use Rattle.std.specs.Prelude.{Option, Some, None}
use Rattle.text.specs.Text.{ascii, all_of, is_hex, is_digit, is_digits, decimal_from, decimal, plain_decimal, fitting, number_of}
use Rattle.text.specs.Lines.{length_to, head_to, tail_after, ended}
use Rattle.text.proofs.Laws.{decimal_grows}
use Rattle.card.specs.Layout.{most_pause}
use Rattle.sheet.specs.Sheet.{is_hex_of, is_cvc, curve_of, is_curve, count_of, max_of, is_max, flag_of, is_flag, up_to, is_pause}
use Rattle.sheet.specs.Sheet.{Row, rows, pause_row, no_row, row_of, good_row, good_line}

-- VALUES
hex_short : (n : ℕ) → n ≤ 64 → (v : List ℕ) → is_hex_of n v ≡ true → length v ≤ 64
unfolding is_hex_of
hex_short n h v e = omega (arith, eqb-true (length v) n (both_true (eqb (length v) n) (is_hex v) e).0)

cvc_short : (v : List ℕ) → is_cvc v ≡ true → length v ≤ 64
unfolding is_cvc
cvc_short v e = omega (arith, eqb-true (length v) 3 (both_true (eqb (length v) 3) (is_digits v) e).0)

-- a value that is one of two texts
spelled : (v a : List ℕ) → length a ≤ 64 → alike v a ≡ true → length v ≤ 64
spelled v a h e = omega (arith, ap length (alike_same v a e))

curve_short : (v : List ℕ) → is_curve v ≡ true → length v ≤ 64
unfolding is_curve curve_of
curve_short v e = go (alike v (ascii "secp256k1")) (alike v (ascii "ed25519")) refl refl e
  where
    go : (a b : Bool) → alike v (ascii "secp256k1") ≡ a → alike v (ascii "ed25519") ≡ b → leb 1 (cond a 1 (cond b 2 0)) ≡ true → length v ≤ 64
    go true b p q e = spelled v (ascii "secp256k1") (omega arith) p
    go false true p q e = spelled v (ascii "ed25519") (omega arith) q
    go false false p q e = absurd (never e)

flag_short : (v : List ℕ) → is_flag v ≡ true → length v ≤ 64
unfolding is_flag flag_of
flag_short v e = go (alike v (ascii "0")) (alike v (ascii "1")) refl refl e
  where
    go : (a b : Bool) → alike v (ascii "0") ≡ a → alike v (ascii "1") ≡ b → leb (cond a 0 (cond b 1 2)) 1 ≡ true → length v ≤ 64
    go true b p q e = spelled v (ascii "0") (omega arith) p
    go false true p q e = spelled v (ascii "1") (omega arith) q
    go false false p q e = absurd (never e)

-- k digits after n make it 10 to the k times as large at least
tens : (n d p x : ℕ) → (n * 10 + d) * p ≤ x → n * (p * 10) ≤ x
tens n d p x h = omega arith

at_least : (k n : ℕ) (s : List ℕ) → k ≤ length s → n * 10 ^ k ≤ decimal_from n s
unfolding decimal_from
at_least zero n s h = omega (arith, decimal_grows n s)
at_least (suc k) n [] h = absurd (omega arith)
at_least (suc k) n (d ∷ s) h =
    let m = n * 10 + (d - 48) in
    rw (pow-suc 10 k) (tens n (d - 48) (10 ^ k) (decimal_from m s) (at_least k m s (omega arith)))

-- a number of 32 bits without a leading zero has at most 10 digits
digits_few : (v : List ℕ) → plain_decimal v ≡ true → decimal v ≤ 4294967295 → length v ≤ 64
unfolding plain_decimal all_of is_digit decimal_from
digits_few [] e h = omega arith
digits_few (d ∷ s) e h = go (dec_lt (length s) 10)
  where
    go : Dec (length s < 10) → suc (length s) ≤ 64
    go (yes x) = omega arith
    go (no x) =
        let a = both_true (all_of is_digit (d ∷ s)) (leb 1 (suc (length s)) && (eqb (suc (length s)) 1 || not (eqb d 48))) e in
        let b = (both_true (leb 1 (suc (length s))) (eqb (suc (length s)) 1 || not (eqb d 48)) a.1).1 in
        let f : eqb (suc (length s)) 1 ≡ false = ne_eqb (suc (length s)) 1 (λ z. omega (arith, x)) in
        let g : not (eqb d 48) ≡ true = rw f at b in
        let i = (both_true (leb 48 d) (leb d 57) (both_true (is_digit d) (all_of is_digit s) a.0).0).0 in
        let j : 49 ≤ d = above (leb-true 48 d i) (eqb-false d 48 (not-true (eqb d 48) g)) in
        let n : 10 ≤ length s = omega (arith, x) in
        absurd (omega (arith, at_least 10 (0 * 10 + (d - 48)) s n, h))
      where
        above : 48 ≤ d → (d ≡ 48 → ⊥) → 49 ≤ d
        above p q = omega (arith, p, q)

-- a value of which a number is asked
number_short : (t : Option ℕ → Bool) → t None ≡ false → (v : List ℕ) → t (number_of v) ≡ true → length v ≤ 64
unfolding number_of fitting
number_short t n v e = go (plain_decimal v) (leb (decimal v) 4294967295) refl refl e
  where
    go :
        (a b : Bool) → plain_decimal v ≡ a → leb (decimal v) 4294967295 ≡ b → t (cond a (cond b (Some (decimal v)) None) None) ≡ true
        → length v ≤ 64
    go true true p q e = digits_few v p (leb-true (decimal v) 4294967295 q)
    go true false p q e = absurd (never (sym n ∙ e))
    go false b p q e = absurd (never (sym n ∙ e))

max_short : (v : List ℕ) → is_max v ≡ true → length v ≤ 64
unfolding is_max max_of count_of
max_short v e = number_short (λ n. leb 1 (count_of n)) refl v e

-- EVERY ROW
pub record Short (r : Row) : Type 0 where
  pub name : length r.name ≤ 8
  pub value : (v : List ℕ) → r.good v ≡ true → length v ≤ 64

abbrev AllShort : List Row → Type 0
AllShort [] = Unit {0}
AllShort (r ∷ rs) = Short r × AllShort rs

none_short : Short no_row
unfolding no_row
none_short = record { name = omega arith; value = λ v e. absurd (never e) }

all_short : (rs : List Row) → AllShort rs → (k : ℕ) → Short (get_or rs k no_row)
all_short [] x k = none_short
all_short (r ∷ rs) x zero = x.0
all_short (r ∷ rs) x (suc k) = all_short rs x.1 k

rows_short : AllShort (no_row ∷ rows)
rows_short = (
  none_short,
  (
    record { name = omega arith; value = hex_short 16 (omega arith) },
    (
      record { name = omega arith; value = hex_short 64 (omega arith) },
      (
        record { name = omega arith; value = hex_short 64 (omega arith) },
        (
          record { name = omega arith; value = cvc_short },
          (
            record { name = omega arith; value = curve_short },
            (
              record { name = omega arith; value = max_short },
              (
                record { name = omega arith; value = flag_short },
                (
                  record { name = omega arith; value = flag_short },
                  (
                    record { name = omega arith; value = flag_short },
                    (
                      record { name = omega arith; value = flag_short },
                      (
                        record { name = omega arith; value = flag_short },
                        (
                          record { name = omega arith; value = flag_short },
                          (
                            record { name = omega arith; value = flag_short },
                            (record { name = omega arith; value = hex_short 32 (omega arith) }, tt),
                          ),
                        ),
                      ),
                    ),
                  ),
                ),
              ),
            ),
          ),
        ),
      ),
    ),
  ),
)

pub row_short : (k : ℕ) → Short (row_of k)
unfolding row_of
row_short k = all_short (no_row ∷ rows) rows_short k

pub pause_short : Short pause_row
unfolding is_pause up_to
pause_short = record { name = omega arith; value = number_short (up_to most_pause) refl }

-- what stands before the first c, it, and what stands after it
in_parts : (c : ℕ) (l : List ℕ) → length l ≤ length (head_to c l) + 1 + length (tail_after c l)
unfolding head_to tail_after
in_parts c l = omega (arith, length-take (length_to c l) l, length-drop (length_to c l + 1) l)

-- A GOOD LINE, without its line feed
pub good_short : (r : Row) → Short r → (t : List ℕ) → good_line r t ≡ true → length (head_to 10 t) ≤ 73
unfolding good_line good_row
good_short r x t e =
    let l = head_to 10 t in
    let v = tail_after 9 l in
    let f = (both_true (ended t) (alike (head_to 9 l) r.name && r.good v) e).1 in
    let g = both_true (alike (head_to 9 l) r.name) (r.good v) f in
    omega (arith, in_parts 9 l, ap length (alike_same (head_to 9 l) r.name g.0), x.name, x.value v g.1)
