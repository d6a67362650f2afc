-- READ BACK: the sheet that describes a card is good, and describes that card. Assumes nothing.
use Prim.Native.Nat.{ℕ, zero, suc, ◌+◌, ◌*◌, ◌≤◌, ◌<◌}
use native.Mathlib.Omega.{arith}
use native.Mathlib.Numerals.{add-one}
use mathlib.Core.Path.{◌≡◌, refl, sym, ap, ◌∙◌}
use mathlib.Core.Bool.{Bool, true, false, cond}
use mathlib.Core.List.{List, [], ◌∷◌, ◌++◌, append_assoc}
use lib.ListN.{length, get_or}
use lib.Dec.{eqb}
use borrow.Author.Tests.{le-leb, le-ltb, eq-eqb, eqb-true}
use Rattle.wire.specs.Wire.{alike, pad, Bytes}
use Rattle.wire.proofs.Parts.{pad_whole}
use Rattle.std.specs.Prelude.{Option, Some}
use Rattle.text.specs.Text.{ascii, all_of, hex_value, is_hex_digit, unhex, hex_of, is_digit, is_digits, fitting, number_of, decimal_of}
use Rattle.text.specs.Lines.{length_to, head_to, start_of, from_line, line_of, ended}
use Rattle.text.proofs.Laws.{all_append, length_hex_of, unhex_hex_of, is_hex_hex_of, is_digits_decimal_of, plain_decimal_decimal_of, decimal_decimal_of}
use Rattle.text.proofs.LineLaws.{other, all_other, head_past, tail_past, ended_past, next_from, none_left}
use Rattle.card.specs.declared.Card.{Card}
use Rattle.card.specs.Layout.{most_pause}
use Rattle.card.specs.Values.{u8, fresh}
use Rattle.sheet.specs.Sheet.{is_hex_of, is_cvc, curve_of, is_curve, count_of, max_of, is_max, flag_of, is_flag, pause_of, up_to, is_pause}
use Rattle.sheet.specs.Sheet.{Row, sheet_lines, pause_row, row_of, good_row, value_in, good_line, bad_from, first_bad, is_pause_line}
use Rattle.personalise.specs.Personalise.{value_of, sheet_codes, sheet_fixed, sheet_flags, sheet_card}
use Rattle.wire.proofs.Laws.{alike_self}
use Rattle.sheet.proofs.Laws.{bad_paused, bad_end}
use Rattle.sheets_back.specs.Written.{text_from, curve_name, flag_text, flag_values, values, pause_text, sheet_text, InRange}
use Rattle.sheets_back.proofs.Good.{pause_none}

-- A VALUE ON A LINE: good there, and it breaks no line; the line's name has no tab in it
record Line (w : Row) (v : List ℕ) : Type 0 where
  tab : all_of (other 9) w.name ≡ true
  feed : all_of (other 10) w.name ≡ true
  whole : all_of (other 10) v ≡ true
  good : w.good v ≡ true

-- so the text that begins with it begins with a good line, and goes on after it
record Read (w : Row) (k : ℕ) (s v t : List ℕ) : Type 0 where
  fine : good_line w (from_line k s) ≡ true
  value : value_of k s ≡ v
  rest : from_line (suc k) s ≡ t

read_line : (w : Row) (k : ℕ) (s v t : List ℕ) → 1 ≤ k → Line w v → from_line k s ≡ w.name ++ (9 ∷ v) ++ (10 ∷ t) → Read w k s v t
unfolding all_of good_line good_row value_of line_of
read_line w k s v t h x e =
    let l = w.name ++ (9 ∷ v) in
    let o : all_of (other 10) l ≡ true = all_append (other 10) w.name (9 ∷ v) x.feed x.whole in
    record {
      fine = rw (e, ended_past l t o, head_past 10 l t o, head_past 9 w.name v x.tab, tail_past 9 w.name v x.tab, alike_self w.name, x.good);
      value = rw (e, head_past 10 l t o) (tail_past 9 w.name v x.tab);
      rest = rw add-one at (next_from k s l t h o e);
    }

-- ALL LINES from line k on, and a text after them
abbrev Lines : ℕ → List (List ℕ) → Type 0
Lines k [] = Unit {0}
Lines k (v ∷ vs) = Line (row_of k) v × Lines (suc k) vs

module _ (s p : List ℕ) where
  first_read :
      (k : ℕ) (v : List ℕ) (vs : List (List ℕ)) → 1 ≤ k → Line (row_of k) v → from_line k s ≡ text_from k (v ∷ vs) ++ p
      → Read (row_of k) k s v (text_from (suc k) vs ++ p)
  unfolding text_from
  first_read k v vs h x e =
      read_line (row_of k) k s v (text_from (suc k) vs ++ p) h x (e ∙ append_assoc ((row_of k).name ++ (9 ∷ v)) (10 ∷ text_from (suc k) vs) p)

  then_rest : (k : ℕ) (vs : List (List ℕ)) → 1 ≤ k → Lines k vs → from_line k s ≡ text_from k vs ++ p → from_line (k + length vs) s ≡ p
  unfolding text_from
  then_rest k [] h x e = let z : k + 0 ≡ k = omega arith in rw z e
  then_rest k (v ∷ vs) h x e =
      let z : k + suc (length vs) ≡ suc k + length vs = omega arith in
      rw z (then_rest (suc k) vs (omega arith) x.1 (first_read k v vs h x.0 e).rest)

  all_good :
      (k : ℕ) (vs : List (List ℕ)) → 1 ≤ k → Lines k vs → from_line k s ≡ text_from k vs ++ p → bad_from 0 (k + length vs) s ≡ 0
      → bad_from (length vs) k s ≡ 0
  unfolding bad_from
  all_good k [] h x e f = let z : k + 0 ≡ k = omega arith in rw z at f
  all_good k (v ∷ vs) h x e f =
      let r = first_read k v vs h x.0 e in
      let z : k + suc (length vs) ≡ suc k + length vs = omega arith in
      rw r.fine (all_good (suc k) vs (omega arith) x.1 r.rest (rw z at f))

  value_at : (i k : ℕ) (vs : List (List ℕ)) → 1 ≤ k → Lines k vs → from_line k s ≡ text_from k vs ++ p → i < length vs → value_of (k + i) s ≡ get_or vs i []
  value_at i k [] h x e l = absurd (omega arith)
  value_at zero k (v ∷ vs) h x e l = let z : k + 0 ≡ k = omega arith in rw z (first_read k v vs h x.0 e).value
  value_at (suc i) k (v ∷ vs) h x e l =
      let z : k + suc i ≡ suc k + i = omega arith in
      rw z (value_at i (suc k) vs (omega arith) x.1 (first_read k v vs h x.0 e).rest (omega arith))

-- EACH VALUE is good on its line
hex_value_lem : (n : ℕ) (b : List ℕ) → length b ≡ n → Bytes b → is_hex_of (2 * n) (hex_of b) ≡ true
unfolding is_hex_of
hex_value_lem n b e h = let z : length (hex_of b) ≡ 2 * n = length_hex_of b ∙ ap (λ (m : ℕ). 2 * m) e in rw (eq-eqb _ _ z) (is_hex_hex_of b h)

hex_whole : (b : List ℕ) → Bytes b → all_of (other 10) (hex_of b) ≡ true
unfolding is_hex_digit hex_value
hex_whole b h = all_other is_hex_digit 10 refl (hex_of b) (is_hex_hex_of b h)

hex_back : (n : ℕ) (b : List ℕ) → length b ≡ n → Bytes b → pad n (unhex (hex_of b)) ≡ b
hex_back n b e h = rw (unhex_hex_of b h) (pad_whole n b e)

flag_back : (n : ℕ) → n ≤ 1 → flag_of (flag_text n) ≡ n
unfolding flag_of flag_text alike
flag_back zero h = refl
flag_back (suc zero) h = refl
flag_back (suc (suc n)) h = absurd (omega arith)

flag_good : (n : ℕ) → n ≤ 1 → is_flag (flag_text n) ≡ true
unfolding is_flag
flag_good n h = rw (flag_back n h) (le-leb _ _ h)

flag_whole : (n : ℕ) → n ≤ 1 → all_of (other 10) (flag_text n) ≡ true
unfolding flag_text all_of
flag_whole zero h = refl
flag_whole (suc zero) h = refl
flag_whole (suc (suc n)) h = absurd (omega arith)

curve_back : (n : ℕ) → 1 ≤ n → n ≤ 2 → curve_of (curve_name n) ≡ n
unfolding curve_of curve_name alike
curve_back zero h k = absurd (omega arith)
curve_back (suc zero) h k = refl
curve_back (suc (suc zero)) h k = refl
curve_back (suc (suc (suc n))) h k = absurd (omega arith)

curve_good : (n : ℕ) → 1 ≤ n → n ≤ 2 → is_curve (curve_name n) ≡ true
unfolding is_curve
curve_good n h k = rw (curve_back n h k) (le-leb _ _ h)

curve_whole : (n : ℕ) → all_of (other 10) (curve_name n) ≡ true
unfolding curve_name all_of
curve_whole n = go (eqb n 1)
  where
    go : (b : Bool) → all_of (other 10) (cond b (ascii "secp256k1") (ascii "ed25519")) ≡ true
    go true = refl
    go false = refl

number_back : (n : ℕ) → n ≤ 4294967295 → number_of (decimal_of n) ≡ Some n
unfolding number_of fitting
number_back n h = rw (plain_decimal_decimal_of n, decimal_decimal_of n, le-leb _ _ h)

max_back : (n : ℕ) → n ≤ 4294967295 → max_of (decimal_of n) ≡ n
unfolding max_of count_of
max_back n h = ap count_of (number_back n h)

max_good : (n : ℕ) → 1 ≤ n → n ≤ 4294967295 → is_max (decimal_of n) ≡ true
unfolding is_max
max_good n h k = rw (max_back n k) (le-leb _ _ h)

digits_whole : (v : List ℕ) → is_digits v ≡ true → all_of (other 10) v ≡ true
unfolding is_digit
digits_whole v h = all_other is_digit 10 refl v h

-- THE PAUSE: its line is read back, and so is its absence
pause_line : (n : ℕ) → n ≤ most_pause → Line pause_row (decimal_of n)
unfolding all_of is_pause up_to
pause_line n h =
    record {
      tab = refl;
      feed = refl;
      whole = digits_whole (decimal_of n) (is_digits_decimal_of n);
      good = rw (number_back n (omega arith)) (le-leb _ _ h);
    }

pause_back : (n : ℕ) → n ≤ most_pause → pause_of (decimal_of n) ≡ n
unfolding pause_of count_of
pause_back n h = ap (λ (m : Option ℕ). u8 (count_of m)) (number_back n (omega arith)) ∙ omega arith

module _ (k n : ℕ) (s : List ℕ) (h : 1 ≤ k) (l : n ≤ most_pause) (e : from_line k s ≡ pause_text n) where
  pause_read : (bad_from 0 k s ≡ 0) × (pause_of (value_of k s) ≡ n)
  unfolding pause_text is_pause_line value_of line_of good_line ended head_to length_to
  pause_read = go (eqb n 0) refl e
    where
      go :
          (b : Bool) → eqb n 0 ≡ b → from_line k s ≡ cond b [] (pause_row.name ++ (9 ∷ decimal_of n) ++ (10 ∷ []))
          → (bad_from 0 k s ≡ 0) × (pause_of (value_of k s) ≡ n)
      go true z e = (
        bad_end k s (rw e) ∙ rw (le-ltb _ _ (none_left k s e)),
        ap (λ (t : List ℕ). pause_of (value_in t)) e ∙ pause_none ∙ sym (eqb-true n 0 z),
      )
      go false z e =
          let r = read_line pause_row k s (decimal_of n) [] h (pause_line n l) e in
          (bad_paused k s r.fine ∙ rw (le-ltb _ _ (none_left (suc k) s r.rest)), ap pause_of r.value ∙ pause_back n l)

-- EVERY LINE of a card's sheet
module _ (c : Card) (r : InRange c) where
  seed_line : Line (row_of 14) (hex_of c.face.front.fixed.seed)
  unfolding row_of all_of
  seed_line =
      let f = c.face.front.fixed in
      let x = r.fixed in
      record { tab = refl; feed = refl; whole = hex_whole f.seed x.seed_bytes; good = hex_value_lem 16 f.seed x.seed x.seed_bytes }

  later_lines : Lines 7 (flag_values c.face.front.flags ++ (hex_of c.face.front.fixed.seed ∷ []))
  unfolding row_of all_of
  later_lines =
      let g = c.face.front.flags in
      let x = r.flags in
      let line7 : Line (row_of 7) (flag_text g.reusable) =
      record { tab = refl; feed = refl; whole = flag_whole g.reusable x.reusable; good = flag_good g.reusable x.reusable } in
      let line8 : Line (row_of 8) (flag_text g.usecvc) =
      record { tab = refl; feed = refl; whole = flag_whole g.usecvc x.usecvc; good = flag_good g.usecvc x.usecvc } in
      let line9 : Line (row_of 9) (flag_text g.setpin1) =
      record { tab = refl; feed = refl; whole = flag_whole g.setpin1 x.setpin1; good = flag_good g.setpin1 x.setpin1 } in
      let line10 : Line (row_of 10) (flag_text g.setpin2) =
      record { tab = refl; feed = refl; whole = flag_whole g.setpin2 x.setpin2; good = flag_good g.setpin2 x.setpin2 } in
      let line11 : Line (row_of 11) (flag_text g.nopurge) =
      record { tab = refl; feed = refl; whole = flag_whole g.nopurge x.nopurge; good = flag_good g.nopurge x.nopurge } in
      let line12 : Line (row_of 12) (flag_text g.replay) =
      record { tab = refl; feed = refl; whole = flag_whole g.replay x.replay; good = flag_good g.replay x.replay } in
      let line13 : Line (row_of 13) (flag_text g.active) =
      record { tab = refl; feed = refl; whole = flag_whole g.active x.active; good = flag_good g.active x.active } in
      (line7, (line8, (line9, (line10, (line11, (line12, (line13, (seed_line, tt))))))))

  lines : Lines 1 (values c)
  unfolding row_of all_of is_cvc
  lines =
      let f = c.face.front.fixed in
      let k = c.codes in
      let x = r.fixed in
      let y = r.codes in
      let line1 : Line (row_of 1) (hex_of f.cid) =
      record { tab = refl; feed = refl; whole = hex_whole f.cid x.cid_bytes; good = hex_value_lem 8 f.cid x.cid x.cid_bytes } in
      let line2 : Line (row_of 2) (hex_of k.pin1) =
      record { tab = refl; feed = refl; whole = hex_whole k.pin1 y.pin1_bytes; good = hex_value_lem 32 k.pin1 y.pin1 y.pin1_bytes } in
      let line3 : Line (row_of 3) (hex_of k.pin2) =
      record { tab = refl; feed = refl; whole = hex_whole k.pin2 y.pin2_bytes; good = hex_value_lem 32 k.pin2 y.pin2 y.pin2_bytes } in
      let line4 : Line (row_of 4) f.cvc = record { tab = refl; feed = refl; whole = digits_whole f.cvc x.cvc_digits; good = rw (x.cvc, x.cvc_digits) } in
      let line5 : Line (row_of 5) (curve_name f.curve) =
      record { tab = refl; feed = refl; whole = curve_whole f.curve; good = curve_good f.curve x.curve.0 x.curve.1 } in
      let w = digits_whole (decimal_of f.max) (is_digits_decimal_of f.max) in
      let line6 : Line (row_of 6) (decimal_of f.max) =
      record { tab = refl; feed = refl; whole = w; good = max_good f.max x.max.0 x.max.1 } in
      (line1, (line2, (line3, (line4, (line5, (line6, later_lines))))))

  abbrev pauses : List ℕ
  pauses = pause_text c.face.front.fixed.pause

  starts : from_line 1 (sheet_text c) ≡ text_from 1 (values c) ++ pauses
  unfolding from_line start_of sheet_text
  starts = refl

  last_read : (bad_from 0 (suc sheet_lines) (sheet_text c) ≡ 0) × (pause_of (value_of (suc sheet_lines) (sheet_text c)) ≡ c.face.front.fixed.pause)
  last_read =
      pause_read (suc sheet_lines) c.face.front.fixed.pause (sheet_text c) (omega arith) r.fixed.pause
      (then_rest (sheet_text c) pauses 1 (values c) (omega arith) lines starts)

  -- THE SHEET IS GOOD
  pub written_good : first_bad (sheet_text c) ≡ 0
  unfolding first_bad
  written_good = all_good (sheet_text c) pauses 1 (values c) (omega arith) lines starts last_read.0

  value : (i : ℕ) → i < sheet_lines → value_of (1 + i) (sheet_text c) ≡ get_or (values c) i []
  value i h = value_at (sheet_text c) pauses i 1 (values c) (omega arith) lines starts h

  fixed_back : sheet_fixed (sheet_text c) ≡ c.face.front.fixed
  unfolding sheet_fixed
  fixed_back =
      let f = c.face.front.fixed in
      let x = r.fixed in
      let cid = ap (λ (v : List ℕ). pad 8 (unhex v)) (value 0 (omega arith)) ∙ hex_back 8 f.cid x.cid x.cid_bytes in
      let cvc = ap (pad 3) (value 3 (omega arith)) ∙ pad_whole 3 f.cvc x.cvc in
      let curve = ap curve_of (value 4 (omega arith)) ∙ curve_back f.curve x.curve.0 x.curve.1 in
      let max = ap max_of (value 5 (omega arith)) ∙ max_back f.max x.max.1 in
      let seed = ap (λ (v : List ℕ). pad 16 (unhex v)) (value 13 (omega arith)) ∙ hex_back 16 f.seed x.seed x.seed_bytes in
      λ i. record { cid = cid i; cvc = cvc i; curve = curve i; max = max i; seed = seed i; pause = last_read.1 i }

  codes_back : sheet_codes (sheet_text c) ≡ c.codes
  unfolding sheet_codes
  codes_back =
      let k = c.codes in
      let y = r.codes in
      let pin1 = ap (λ (v : List ℕ). pad 32 (unhex v)) (value 1 (omega arith)) ∙ hex_back 32 k.pin1 y.pin1 y.pin1_bytes in
      let pin2 = ap (λ (v : List ℕ). pad 32 (unhex v)) (value 2 (omega arith)) ∙ hex_back 32 k.pin2 y.pin2 y.pin2_bytes in
      λ i. record { pin1 = pin1 i; pin2 = pin2 i }

  flag : (i n : ℕ) → i < sheet_lines → n ≤ 1 → get_or (values c) i [] ≡ flag_text n → flag_of (value_of (1 + i) (sheet_text c)) ≡ n
  flag i n h k e = ap flag_of (value i h ∙ e) ∙ flag_back n k

  flags_back : sheet_flags (sheet_text c) ≡ c.face.front.flags
  unfolding sheet_flags
  flags_back =
      let g = c.face.front.flags in
      let x = r.flags in
      let reusable = flag 6 g.reusable (omega arith) x.reusable refl in
      let usecvc = flag 7 g.usecvc (omega arith) x.usecvc refl in
      let setpin1 = flag 8 g.setpin1 (omega arith) x.setpin1 refl in
      let setpin2 = flag 9 g.setpin2 (omega arith) x.setpin2 refl in
      let nopurge = flag 10 g.nopurge (omega arith) x.nopurge refl in
      let replay = flag 11 g.replay (omega arith) x.replay refl in
      let active = flag 12 g.active (omega arith) x.active refl in
      λ i.
      record { reusable = reusable i; usecvc = usecvc i; setpin1 = setpin1 i; setpin2 = setpin2 i; nopurge = nopurge i; replay = replay i; active = active i }

  -- AND IT DESCRIBES THE CARD: fresh, with the values that it was written from
  pub read_back : sheet_card (sheet_text c) ≡ fresh c.face.front.fixed c.face.front.flags c.codes
  unfolding sheet_card
  read_back = λ i. fresh (fixed_back i) (flags_back i) (codes_back i)
