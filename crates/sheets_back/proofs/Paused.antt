-- THE PAUSE OF A SHEET IN A FILE, 02 Ask 7: the lines that must be there tell the first bad line, and the card but for its pause; the pause is the line
-- after them where it is one. Assumes nothing.
use Prim.Native.Nat.{ℕ, zero, suc, ◌+◌, ◌≤◌, ◌<◌}
use native.Mathlib.Omega.{arith}
use mathlib.Core.Path.{◌≡◌, refl, sym, ap, ◌∙◌}
use mathlib.Core.Bool.{Bool, true, false, cond}
use mathlib.Core.List.{List, [], ◌∷◌}
use lib.ListN.{take, drop, get_or, length-take, get_or-eq_default}
use lib.Seq.{take-nil, drop-drop, get_or-take, get_or-drop}
use Rattle.wire.specs.Wire.{joined, pad}
use Rattle.wire.proofs.Laws.{by_cases, either, never}
use Rattle.text.specs.Text.{unhex}
use Rattle.text.specs.Lines.{length_to, head_to, tail_after, start_of, from_line, line_of, ended, lines_of}
use Rattle.text.proofs.LineLaws.{lines_are_text}
use Rattle.card.specs.Values.{paused_by, with_pause, faced, fresh}
use Rattle.sheet.specs.Sheet.{curve_of, max_of, flag_of, pause_of, pause_row, sheet_lines, row_of, value_in, good_line, first_bad}
use Rattle.sheet.specs.Sheet.{is_pause_line, has_pause, size_with, required_in, after_required, sheet_in, after_sheet}
use Rattle.personalise.specs.Personalise.{value_of, sheet_codes, sheet_fixed, sheet_flags, sheet_card}
use Rattle.sheets_back.proofs.Lined.{first, first_good, first_value, lines_tail, lines_from, lines_front}
use Rattle.sheets_back.proofs.Early.{end_in, bad_in, walks}

-- THE WALK over lines
bad_by : ℕ → ℕ → List (List ℕ) → ℕ
bad_by zero k ls = cond (is_pause_line (first ls)) (end_in (suc k) (joined (drop 1 ls))) (end_in k (joined ls))
bad_by (suc n) k ls = cond (good_line (row_of k) (first ls)) (bad_by n (suc k) (drop 1 ls)) k

by_lines : (n k : ℕ) (t : List ℕ) → bad_in n k t ≡ bad_by n k (lines_of t)
unfolding bad_in bad_by is_pause_line
by_lines zero k t =
    let a = ap (end_in (suc k)) (sym (lines_are_text (tail_after 10 t)) ∙ ap joined (lines_tail t)) in
    either (good_line pause_row t) (λ _. a) (λ _. ap (end_in k) (sym (lines_are_text t)))
    ∙ ap (λ (c : Bool). cond c (end_in (suc k) (joined (drop 1 (lines_of t)))) (end_in k (joined (lines_of t)))) (sym (first_good pause_row t))
by_lines (suc n) k t =
    either (good_line (row_of k) t) (λ _. by_lines n (suc k) (tail_after 10 t) ∙ ap (bad_by n (suc k)) (lines_tail t)) (λ _. refl)
    ∙ ap (λ (c : Bool). cond c (bad_by n (suc k) (drop 1 (lines_of t))) k) (sym (first_good (row_of k) t))

-- the first bad line of the first n lines of a text
front_bad : (n : ℕ) (s : List ℕ) → first_bad (joined (take n (lines_of s))) ≡ bad_by sheet_lines 1 (take n (lines_of s))
unfolding first_bad from_line start_of
front_bad n s =
    let t : List ℕ = joined (take n (lines_of s)) in
    walks sheet_lines 1 t (omega arith) ∙ by_lines sheet_lines 1 t ∙ ap (bad_by sheet_lines 1) (lines_front n s)

no_line : is_pause_line [] ≡ false
unfolding is_pause_line good_line ended head_to length_to
no_line = refl

-- a good pause after n lines changes nothing
pause_more : (n k : ℕ) (ls : List (List ℕ)) → is_pause_line (get_or ls n []) ≡ true → bad_by n k (take (suc n) ls) ≡ bad_by n k (take n ls)
unfolding bad_by joined
pause_more n k [] e = absurd (never (sym no_line ∙ e))
pause_more zero k (l ∷ ls) e = rw (e, no_line)
pause_more (suc n) k (l ∷ ls) e = ap (λ (x : ℕ). cond (good_line (row_of k) l) x k) (pause_more n (suc k) ls e)

-- and without one n lines have their first bad line among them
bad_among : (n k : ℕ) (ls : List (List ℕ)) → 1 ≤ k → bad_by n k (take n ls) < k + n
unfolding bad_by joined
bad_among zero k ls h = rw no_line (omega arith)
bad_among (suc n) k ls h =
    by_cases (λ (r : ℕ). r < k + suc n) (good_line (row_of k) (first (take (suc n) ls))) {x = bad_by n (suc k) (drop 1 (take (suc n) ls))} {y = k}
    (λ _. omega (arith, ap (bad_by n (suc k)) (behind ls), bad_among n (suc k) (drop 1 ls) (omega arith)))
    (λ _. omega arith)
  where
    behind : (ls : List (List ℕ)) → drop 1 (take (suc n) ls) ≡ take n (drop 1 ls)
    behind [] = sym (take-nil n)
    behind (l ∷ ls) = refl

-- A LINE OF A TEXT by its number
line_at : (i : ℕ) (t : List ℕ) → first (lines_of (from_line (suc i) t)) ≡ get_or (lines_of t) i []
line_at i t =
    let z : i + 0 ≡ i = omega arith in
    ap first (lines_from i t) ∙ get_or-drop i (lines_of t) 0 [] ∙ ap (λ (j : ℕ). get_or (lines_of t) j []) z

line_value : (i : ℕ) (t : List ℕ) → value_of (suc i) t ≡ value_in (get_or (lines_of t) i [])
unfolding value_of line_of
line_value i t = sym (first_value (from_line (suc i) t)) ∙ ap value_in (line_at i t)

-- the first n lines have the values that they have in the text
front_value : (n i : ℕ) (s : List ℕ) → i < n → value_of (suc i) (joined (take n (lines_of s))) ≡ value_of (suc i) s
front_value n i s h =
    line_value i (joined (take n (lines_of s)))
    ∙ ap value_in (ap (λ (ls : List (List ℕ)). get_or ls i []) (lines_front n s) ∙ get_or-take n (lines_of s) i [] h)
    ∙ sym (line_value i s)

-- two sheets with the same values have the same card, but for the pause
module _ (s t : List ℕ) (e : (i : ℕ) → i < sheet_lines → value_of (suc i) s ≡ value_of (suc i) t) where
  same_fixed : sheet_fixed s ≡ paused_by (pause_of (value_of (suc sheet_lines) s)) (sheet_fixed t)
  unfolding sheet_fixed
  same_fixed =
      λ i.
      record {
        cid = pad 8 (unhex (e 0 (omega arith) i));
        cvc = pad 3 (e 3 (omega arith) i);
        curve = curve_of (e 4 (omega arith) i);
        max = max_of (e 5 (omega arith) i);
        seed = pad 16 (unhex (e 13 (omega arith) i));
        pause = pause_of (value_of (suc sheet_lines) s);
      }

  same_flags : sheet_flags s ≡ sheet_flags t
  unfolding sheet_flags
  same_flags =
      λ i.
      record {
        reusable = flag_of (e 6 (omega arith) i);
        usecvc = flag_of (e 7 (omega arith) i);
        setpin1 = flag_of (e 8 (omega arith) i);
        setpin2 = flag_of (e 9 (omega arith) i);
        nopurge = flag_of (e 10 (omega arith) i);
        replay = flag_of (e 11 (omega arith) i);
        active = flag_of (e 12 (omega arith) i);
      }

  same_codes : sheet_codes s ≡ sheet_codes t
  unfolding sheet_codes
  same_codes = λ i. record { pin1 = pad 32 (unhex (e 1 (omega arith) i)); pin2 = pad 32 (unhex (e 2 (omega arith) i)) }

  same_card : sheet_card s ≡ faced (with_pause (pause_of (value_of (suc sheet_lines) s)) (sheet_card t).face) (sheet_card t)
  unfolding sheet_card fresh
  same_card = λ i. fresh (same_fixed i) (same_flags i) (same_codes i)

-- WHERE A PAUSE STANDS, it is the line after those that must be there
by_line : (s : List ℕ) → has_pause s ≡ is_pause_line (get_or (lines_of s) sheet_lines [])
unfolding has_pause is_pause_line
by_line s = sym (first_good pause_row (from_line (suc sheet_lines) s)) ∙ ap (good_line pause_row) (line_at sheet_lines s)

module _ (s : List ℕ) where
  pub pause_first : is_pause_line (first (after_required s)) ≡ has_pause s
  unfolding after_required
  pause_first = ap is_pause_line (get_or-drop sheet_lines (lines_of s) 0 []) ∙ sym (by_line s)

  pub pause_value : value_in (first (after_required s)) ≡ value_in (from_line (suc sheet_lines) s)
  unfolding after_required
  pause_value = ap (λ ls. value_in (first ls)) (sym (lines_from sheet_lines s)) ∙ first_value (from_line (suc sheet_lines) s)

  -- those lines have none
  pub required_unpaused : has_pause (required_in s) ≡ false
  unfolding required_in
  required_unpaused =
      let ls = take sheet_lines (lines_of s) in
      by_line (joined ls)
      ∙ ap (λ ks. is_pause_line (get_or ks sheet_lines [])) (lines_front sheet_lines s)
      ∙ ap is_pause_line (get_or-eq_default ls [] (omega (arith, length-take sheet_lines (lines_of s))))
      ∙ no_line

  -- without one the sheet is they
  module _ (e : has_pause s ≡ false) where
    pub unpaused_sheet : sheet_in s ≡ required_in s
    unfolding sheet_in required_in size_with
    unpaused_sheet = ap (λ (b : Bool). joined (take (size_with b) (lines_of s))) e

    pub unpaused_after : after_sheet s ≡ after_required s
    unfolding after_sheet after_required size_with
    unpaused_after = ap (λ (b : Bool). drop (size_with b) (lines_of s)) e

    pub unpaused_first : {l : List ℕ} {ls : List (List ℕ)} → after_required s ≡ l ∷ ls → is_pause_line l ≡ false
    unpaused_first f = ap (λ ks. is_pause_line (first ks)) (sym f) ∙ pause_first ∙ e

  -- with one it is one line more
  module _ (e : has_pause s ≡ true) where
    pub paused_sheet : sheet_in s ≡ joined (take (suc sheet_lines) (lines_of s))
    unfolding sheet_in size_with
    paused_sheet = ap (λ (b : Bool). joined (take (size_with b) (lines_of s))) e

    pub paused_after : after_required s ≡ first (after_required s) ∷ after_sheet s
    unfolding after_required after_sheet size_with
    paused_after =
        starts (drop sheet_lines (lines_of s)) (pause_first ∙ e)
        ∙ ap (λ ks. first (drop sheet_lines (lines_of s)) ∷ ks)
        (drop-drop 1 sheet_lines (lines_of s) ∙ ap (λ (b : Bool). drop (size_with b) (lines_of s)) (sym e))
      where
        starts : (ls : List (List ℕ)) → is_pause_line (first ls) ≡ true → ls ≡ first ls ∷ drop 1 ls
        starts [] h = absurd (never (sym no_line ∙ h))
        starts (l ∷ ls) h = refl

    -- and its card is theirs with that pause
    pub paused_card :
        sheet_card (sheet_in s)
        ≡ faced (with_pause (pause_of (value_in (from_line (suc sheet_lines) s))) (sheet_card (required_in s)).face) (sheet_card (required_in s))
    unfolding required_in value_of line_of
    paused_card =
        ap sheet_card paused_sheet
        ∙ same_card (joined (take (suc sheet_lines) (lines_of s))) (required_in s) same
        ∙ ap (λ (v : List ℕ). faced (with_pause (pause_of v) (sheet_card (required_in s)).face) (sheet_card (required_in s)))
        (front_value (suc sheet_lines) sheet_lines s (omega arith))
      where
        same : (i : ℕ) → i < sheet_lines → value_of (suc i) (joined (take (suc sheet_lines) (lines_of s))) ≡ value_of (suc i) (required_in s)
        same i h = front_value (suc sheet_lines) i s (omega arith) ∙ sym (front_value sheet_lines i s h)

  -- THE FIRST BAD LINE is one of those that must be there: a pause that is taken is good
  pub same_bad : first_bad (sheet_in s) ≡ first_bad (required_in s)
  unfolding required_in
  same_bad = go (has_pause s) refl
    where
      go : (b : Bool) → has_pause s ≡ b → first_bad (sheet_in s) ≡ first_bad (required_in s)
      go true e =
          ap first_bad (paused_sheet e)
          ∙ front_bad (suc sheet_lines) s
          ∙ pause_more sheet_lines 1 (lines_of s) (sym (by_line s) ∙ e)
          ∙ sym (front_bad sheet_lines s)
      go false e = ap first_bad (unpaused_sheet e)

  pub bad_required : first_bad (required_in s) ≤ sheet_lines
  unfolding required_in
  bad_required = omega (arith, front_bad sheet_lines s, bad_among sheet_lines 1 (lines_of s) (omega arith))
