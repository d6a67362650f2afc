-- A RECORDING, Ask 4, is text: a personalisation sheet, and after it one line for each tap. Every definition is total. Assumes nothing.
use Rattle.std.specs.Prelude.{ℕ, zero, suc, ◌/◌, List, [], ◌∷◌, cond}
use Rattle.sheet.specs.Sheet.{has_pause, after_sheet, line_after}
use Rattle.tapline.specs.Line.{longest, is_tap_line, Recorded, recorded}

-- each line after the sheet is a tap
abbrev pub taps_in : List ℕ → List (List ℕ)
taps_in s = after_sheet s

-- the most taps of a recording
abbrev pub most_taps : ℕ
most_taps = 10000

-- room for what a field spells, of the longest line
abbrev pub field_room : ℕ
field_room = longest / 2

-- THE TAPS of lines, up to the first that is none or is one too many, and the number of that line in the file; 0 where there is no such line
pub record Taps : Type 0 where
  pub taps : List Recorded
  pub bad : ℕ

abbrev pub no_taps : ℕ → Taps
no_taps n = record { taps = []; bad = n }

abbrev pub tap_then : Recorded → Taps → Taps
tap_then t r = record { taps = t ∷ r.taps; bad = r.bad }

-- at most so many taps; the first of the lines has number n
unfoldable pub taps_from : ℕ → ℕ → List (List ℕ) → Taps
taps_from most n [] = no_taps 0
taps_from zero n (l ∷ ls) = no_taps n
taps_from (suc most) n (l ∷ ls) = cond (is_tap_line l) (tap_then (recorded l) (taps_from most (suc n) ls)) (no_taps n)

unfoldable pub taps_of : List ℕ → Taps
taps_of s = taps_from most_taps (line_after (has_pause s) 0) (taps_in s)
