-- WHICH LINE IS BAD: its number in the file, one of the sheet's, or after it one more for each tap before it. Assumes nothing.
use Prim.Native.Nat.{ℕ, zero, suc, ◌≤◌}
use native.Mathlib.Omega.{arith}
use mathlib.Core.Path.{◌≡◌, refl, ap, ◌∙◌}
use mathlib.Core.List.{List, [], ◌∷◌, ◌++◌}
use mathlib.Core.Bool.{false}
use lib.ListN.{length}
use lib.Dec.{eqb}
use Rattle.wire.specs.Wire.{joined}
use Rattle.wire.proofs.Laws.{by_cases}
use Rattle.text.specs.Lines.{length_to, tail_after, before, lines_of}
use Rattle.text.proofs.LineLaws.{tail_on, tail_here}
use Rattle.sheet.specs.Sheet.{sheet_lines, first_bad, has_pause, sheet_in, line_after}
use Rattle.sheet.proofs.Laws.{after_some}
use Rattle.sheets_back.proofs.Parted.{sheet_then_lines}
use Rattle.sheets_back.proofs.Paused.{same_bad, bad_required}
use Rattle.tapline.specs.Line.{is_tap_line, recorded}
use Rattle.recording.specs.Recording.{taps_in, most_taps, no_taps, tap_then, taps_from, taps_of}
use Rattle.recorded.specs.Facts.{Lines, Read}

-- A RECORDING is its sheet, and then the lines of its taps
pub sheet_then_taps : (s : List ℕ) → sheet_in s ++ joined (taps_in s) ≡ s
sheet_then_taps s = sheet_then_lines s

nothing_after : tail_after 10 [] ≡ []
unfolding tail_after length_to
nothing_after = refl

before_parts : (b : ℕ) (ls : List (List ℕ)) → eqb b 10 ≡ false → Lines ls → Lines (before b ls)
unfolding before
before_parts b [] e x = (record { some = omega arith; whole = tail_on 10 b [] e ∙ nothing_after; fed = λ h. absurd (omega arith) }, tt)
before_parts b (l ∷ ls) e x =
    (record { some = omega arith; whole = tail_on 10 b l e ∙ x.0.whole; fed = λ h t. tail_on 10 b (l ++ t) e ∙ x.0.fed h t }, x.1)

-- THE LINES of any text are parted at its line feeds
pub lines_are_parted : (s : List ℕ) → Lines (lines_of s)
unfolding lines_of
lines_are_parted [] = tt
lines_are_parted (b ∷ s) =
    by_cases Lines (eqb b 10) {x = (b ∷ []) ∷ lines_of s} {y = before b (lines_of s)}
    (λ e. (record { some = omega arith; whole = tail_here 10 b [] e; fed = λ _ t. tail_here 10 b t e }, lines_are_parted s))
    (λ e. before_parts b (lines_of s) e (lines_are_parted s))

-- THE BAD LINE OF A SHEET is one of its lines that must be there
pub bad_in_sheet : (s : List ℕ) → first_bad (sheet_in s) ≤ sheet_lines
bad_in_sheet s = omega (arith, same_bad s, bad_required s)

taps_read : (most n : ℕ) (ls : List (List ℕ)) → 1 ≤ n → Read most n (length ls) (taps_from most n ls)
unfolding taps_from
taps_read most n [] h = record { few = omega arith; all = λ _. refl; number = λ f. absurd (f refl) }
taps_read zero n (l ∷ ls) h = record { few = omega arith; all = λ e. absurd (omega arith); number = λ _. omega arith }
taps_read (suc most) n (l ∷ ls) h =
    by_cases (Read (suc most) n (suc (length ls))) (is_tap_line l) {x = tap_then (recorded l) (taps_from most (suc n) ls)} {y = no_taps n}
    (λ _.
    let z = taps_read most (suc n) ls (omega arith) in
    record { few = omega (arith, z.few); all = λ e. ap suc (z.all e); number = λ f. z.number f ∙ omega arith })
    (λ _. record { few = omega arith; all = λ e. absurd (omega arith); number = λ _. omega arith })

-- THE TAPS OF A RECORDING: at most 10,000; all lines after the sheet, or those before a bad one, whose number is that of the line after the sheet and
-- one more for each tap
pub taps_of_recording : (s : List ℕ) → Read most_taps (line_after (has_pause s) 0) (length (taps_in s)) (taps_of s)
unfolding taps_of
taps_of_recording s = taps_read most_taps (line_after (has_pause s) 0) (taps_in s) (omega (arith, after_some (has_pause s) 0))
