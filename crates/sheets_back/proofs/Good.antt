-- A GOOD SHEET: it is its lines and nothing else, every value is good on its line, and the image of the card that it describes is a card.
-- Assumes nothing.
use Prim.Native.Nat.{ℕ, zero, suc, ◌+◌, ◌≤◌, ◌<◌}
use native.Mathlib.Omega.{arith}
use mathlib.Core.Path.{◌≡◌, refl, sym, ap, ◌∙◌}
use mathlib.Core.Bool.{Bool, true, false, cond, ◌&&◌, ◌||◌}
use mathlib.Core.List.{List, [], ◌∷◌, ◌++◌, append_assoc}
use native.Mathlib.Decide.{dec_lt}
use lib.ListN.{length, get_or, drop_of_length-le}
use lib.Dec.{leb, ltb, eqb}
use borrow.Author.Tests.{leb-true, ltb-false}
use Rattle.wire.specs.Wire.{alike}
use Rattle.wire.proofs.Laws.{never, both_true, alike_same}
use Rattle.wire.proofs.Parts.{length_pad}
use Rattle.std.specs.Prelude.{Option, Some, None}
use Rattle.text.specs.Text.{all_of, unhex, plain_decimal, number_of}
use Rattle.text.specs.Lines.{length_to, head_to, tail_after, start_of, from_line, line_of, ended}
use Rattle.text.proofs.LineLaws.{split_first, ended_within, next_is_tail}
use Rattle.card.specs.Layout.{most_pause}
use Rattle.card.specs.Values.{u8}
use Rattle.card.specs.Image.{encode}
use Rattle.card.specs.Valid.{curve_known, ok_flags, is_card}
use Rattle.kept.proofs.Fresh.{fresh_is_card}
use Rattle.sheets_back.specs.Written.{text_from, values_from}
use Rattle.sheet.proofs.Laws.{bad_paused, bad_end}
use Rattle.sheet.specs.Sheet.{is_hex_of, is_cvc, curve_of, is_curve, count_of, max_of, is_max, flag_of, is_flag, pause_of, up_to, is_pause}
use Rattle.sheet.specs.Sheet.{Row, rows, pause_row, sheet_lines, no_row, row_of, good_row, name_in, value_in, good_line, bad_from, first_bad, is_pause_line, has_pause}
use Rattle.personalise.specs.Personalise.{value_of, sheet_codes, sheet_fixed, sheet_flags, sheet_card}

-- a walk that finds no bad line passed good ones
passed : (b : Bool) {x k : ℕ} → 1 ≤ k → cond b x k ≡ 0 → (b ≡ true) × (x ≡ 0)
passed true h e = (refl, e)
passed false h e = absurd (omega arith)

none_bad : (n k : ℕ) (s : List ℕ) → 1 ≤ k → bad_from n k s ≡ 0 → (i : ℕ) → i < n → good_line (row_of (k + i)) (from_line (k + i) s) ≡ true
unfolding bad_from
none_bad zero k s h e i l = absurd (omega arith)
none_bad (suc n) k s h e zero l = let z : k + 0 ≡ k = omega arith in rw z (passed (good_line (row_of k) (from_line k s)) h e).0
none_bad (suc n) k s h e (suc i) l =
    let z : k + suc i ≡ suc k + i = omega arith in
    rw z (none_bad n (suc k) s (omega arith) (passed (good_line (row_of k) (from_line k s)) h e).1 i (omega arith))

-- and at the end a good pause with nothing after it, or nothing
good_end : (n k : ℕ) (s : List ℕ) → 1 ≤ k → bad_from n k s ≡ 0 → bad_from 0 (k + n) s ≡ 0
unfolding bad_from
good_end zero k s h e = let z : k + 0 ≡ k = omega arith in rw z e
good_end (suc n) k s h e =
    let z : k + suc n ≡ suc k + n = omega arith in
    rw z (good_end n (suc k) s (omega arith) (passed (good_line (row_of k) (from_line k s)) h e).1)

none_after : (k j : ℕ) (s : List ℕ) → 1 ≤ k → cond (ltb (start_of j s) (length s)) k 0 ≡ 0 → from_line j s ≡ []
unfolding from_line
none_after k j s h e = drop_of_length-le s (ltb-false (start_of j s) (length s) (left (ltb (start_of j s) (length s)) e))
  where
    left : (b : Bool) → cond b k 0 ≡ 0 → b ≡ false
    left true f = absurd (omega arith)
    left false f = refl

-- the value of a good line is good
value_good : (r : Row) (t : List ℕ) → good_line r t ≡ true → r.good (value_in t) ≡ true
unfolding good_line good_row
value_good r t e =
    let a = alike (name_in t) r.name in
    (both_true a (r.good (value_in t)) (both_true (ended t) (a && r.good (value_in t)) e).1).1

-- a pause that is taken is at most 60 seconds
pub pause_most : (t : List ℕ) → is_pause_line t ≡ true → pause_of (value_in t) ≤ most_pause
unfolding is_pause_line is_pause up_to pause_of count_of
pause_most t e = go (number_of (value_in t)) (value_good pause_row t e)
  where
    go : (n : Option ℕ) → up_to most_pause n ≡ true → u8 (count_of n) ≤ most_pause
    go (Some n) h = omega (arith, leb-true n most_pause h)
    go None h = absurd (never h)

-- and where there is no line it is 0
pub pause_none : pause_of (value_in []) ≡ 0
unfolding pause_of count_of number_of plain_decimal all_of tail_after head_to length_to
pause_none = refl

module _ (s : List ℕ) (e : first_bad s ≡ 0) where
  pub good_value : (i : ℕ) → i < sheet_lines → (row_of (1 + i)).good (value_of (1 + i) s) ≡ true
  unfolding first_bad value_of line_of
  good_value i h = value_good (row_of (1 + i)) (from_line (1 + i) s) (none_bad sheet_lines 1 s (omega arith) e i h)

  curve_known_lem : curve_known (sheet_fixed s) ≡ true
  unfolding sheet_fixed curve_of is_curve row_of
  curve_known_lem = go (alike _ _) (alike _ _) (good_value 4 (omega arith))
    where
      go : (a b : Bool) → leb 1 (cond a 1 (cond b 2 0)) ≡ true → (eqb (cond a 1 (cond b 2 0)) 1 || eqb (cond a 1 (cond b 2 0)) 2) ≡ true
      go true b f = refl
      go false true f = refl
      go false false f = f

  max_known : 1 ≤ (sheet_fixed s).max
  unfolding sheet_fixed is_max row_of
  max_known = leb-true 1 (max_of (value_of 6 s)) (good_value 5 (omega arith))

  flags_known : ok_flags (sheet_flags s) ≡ true
  unfolding sheet_flags ok_flags is_flag row_of
  flags_known =
      rw (
        good_value 6 (omega arith),
        good_value 7 (omega arith),
        good_value 8 (omega arith),
        good_value 9 (omega arith),
        good_value 10 (omega arith),
        good_value 11 (omega arith),
        good_value 12 (omega arith),
      )

  pause_known_lem : (sheet_fixed s).pause ≤ most_pause
  unfolding sheet_fixed value_of line_of first_bad
  pause_known_lem = go (is_pause_line (from_line (suc sheet_lines) s)) refl
    where
      go : (b : Bool) → is_pause_line (from_line (suc sheet_lines) s) ≡ b → pause_of (value_in (from_line (suc sheet_lines) s)) ≤ most_pause
      go true p = pause_most (from_line (suc sheet_lines) s) p
      go false p =
          let n = none_after (suc sheet_lines) (suc sheet_lines) s (omega arith)
          (sym (bad_end (suc sheet_lines) s p) ∙ good_end sheet_lines 1 s (omega arith) e) in
          omega (arith, ap (λ (t : List ℕ). pause_of (value_in t)) n ∙ pause_none)

  -- THE IMAGE OF A GOOD SHEET IS A CARD
  pub sheet_is_card : is_card (encode (sheet_card s)) ≡ true
  unfolding sheet_card sheet_fixed sheet_codes
  sheet_is_card =
      fresh_is_card (sheet_fixed s) (sheet_flags s) (sheet_codes s)
      (record { cid = length_pad 8 (unhex (value_of 1 s)); cvc = length_pad 3 (value_of 4 s); seed = length_pad 16 (unhex (value_of 14 s)) })
      (record { pin1 = length_pad 32 (unhex (value_of 2 s)); pin2 = length_pad 32 (unhex (value_of 3 s)) })
      curve_known_lem max_known pause_known_lem flags_known

-- NO EMPTY VALUE IS GOOD, so that a line without a tab is bad
abbrev NoneEmpty : List Row → Type 0
NoneEmpty [] = Unit {0}
NoneEmpty (r ∷ rs) = (r.good [] ≡ false) × NoneEmpty rs

none_empty : (rs : List Row) → NoneEmpty rs → (k : ℕ) → (get_or rs k no_row).good [] ≡ false
unfolding no_row
none_empty [] x k = refl
none_empty (r ∷ rs) x zero = x.0
none_empty (r ∷ rs) x (suc k) = none_empty rs x.1 k

no_empty : (k : ℕ) → (row_of k).good [] ≡ false
unfolding row_of no_row is_hex_of is_cvc is_curve curve_of is_max max_of count_of number_of plain_decimal all_of is_flag flag_of alike
no_empty k =
    none_empty (no_row ∷ rows) (refl, (refl, (refl, (refl, (refl, (refl, (refl, (refl, (refl, (refl, (refl, (refl, (refl, (refl, (refl, tt))))))))))))))) k

no_pause : pause_row.good [] ≡ false
unfolding is_pause up_to number_of plain_decimal all_of
no_pause = refl

tabbed : (r : Row) (l : List ℕ) → r.good [] ≡ false → r.good (tail_after 9 l) ≡ true → length_to 9 l < length l
unfolding tail_after
tabbed r l n e = go (dec_lt (length_to 9 l) (length l))
  where
    go : Dec (length_to 9 l < length l) → length_to 9 l < length l
    go (yes h) = h
    go (no h) =
        let h₁ : length l ≤ length_to 9 l + 1 = omega (arith, h) in
        absurd (never (sym n ∙ ap r.good (sym (drop_of_length-le l h₁)) ∙ e))

-- a good line is its name, a tab, its value and a line feed
abbrev line_with : Row → List ℕ → List ℕ → List ℕ
line_with r v t = r.name ++ (9 ∷ v) ++ (10 ∷ t)

good_form : (r : Row) (t : List ℕ) → r.good [] ≡ false → good_line r t ≡ true → t ≡ line_with r (value_in t) (tail_after 10 t)
unfolding good_line good_row
good_form r t n e =
    let l = head_to 10 t in
    let v = tail_after 9 l in
    let a = alike (head_to 9 l) r.name in
    let f = both_true (ended t) (a && r.good v) e in
    let g = both_true a (r.good v) f.1 in
    let e₁ = ap (λ (x : List ℕ). x ++ (9 ∷ v)) (alike_same (head_to 9 l) r.name g.0) in
    split_first 10 t (ended_within t f.0) ∙ ap (λ (x : List ℕ). x ++ (10 ∷ tail_after 10 t)) (split_first 9 l (tabbed r l n g.1) ∙ e₁)

-- so what a walk that finds no bad line did not pass is a good pause, or nothing
end_form : (k : ℕ) (s : List ℕ) → 1 ≤ k → bad_from 0 k s ≡ 0 → from_line k s ≡ cond (is_pause_line (from_line k s)) (line_with pause_row (value_of k s) []) []
unfolding value_of line_of is_pause_line
end_form k s h e = go (is_pause_line (from_line k s)) refl
  where
    go : (b : Bool) → is_pause_line (from_line k s) ≡ b → from_line k s ≡ cond b (line_with pause_row (value_of k s) []) []
    go true p =
        let z = next_is_tail k s h ∙ none_after (suc k) (suc k) s (omega arith) (sym (bad_paused k s p) ∙ e) in
        good_form pause_row (from_line k s) no_pause p ∙ ap (line_with pause_row (value_of k s)) z
    go false p = none_after k k s h (sym (bad_end k s p) ∙ e)

-- and it passed nothing but lines
all_form : (n k : ℕ) (s : List ℕ) → 1 ≤ k → bad_from n k s ≡ 0 → from_line k s ≡ text_from k (values_from n k s) ++ from_line (k + n) s
unfolding bad_from text_from values_from value_of line_of
all_form zero k s h e = let z : k ≡ k + 0 = omega arith in ap (λ (j : ℕ). from_line j s) z
all_form (suc n) k s h e =
    let t = from_line k s in
    let p = passed (good_line (row_of k) t) h e in
    let l = (row_of k).name ++ (9 ∷ value_in t) in
    let ih = all_form n (suc k) s (omega arith) p.1 in
    let z : suc k + n ≡ k + suc n = omega arith in
    good_form (row_of k) t (no_empty k) p.0
    ∙ ap (λ (x : List ℕ). l ++ (10 ∷ x)) (next_is_tail k s h ∙ ih ∙ ap (λ (j : ℕ). text_from (suc k) (values_from n (suc k) s) ++ from_line j s) z)
    ∙ sym (append_assoc l (10 ∷ text_from (suc k) (values_from n (suc k) s)) (from_line (k + suc n) s))

-- A GOOD SHEET IS ITS LINES, each name, tab, value, line feed, and then a good pause or nothing
pub good_sheet :
    (s : List ℕ) → first_bad s ≡ 0
    → s
    ≡ text_from 1 (values_from sheet_lines 1 s) ++ cond (has_pause s) (pause_row.name ++ (9 ∷ value_of (suc sheet_lines) s) ++ (10 ∷ [])) []
unfolding first_bad has_pause from_line start_of
good_sheet s e =
    all_form sheet_lines 1 s (omega arith) e
    ∙ ap (λ (x : List ℕ). text_from 1 (values_from sheet_lines 1 s) ++ x)
    (end_form (suc sheet_lines) s (omega arith) (good_end sheet_lines 1 s (omega arith) e))
