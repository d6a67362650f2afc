-- The personalisation sheet, 01 "The personalisation sheet", 02 Ask 1 and Ask 7: its lines, and the first bad one. Every definition is total. Assumes
-- nothing.
use Rattle.std.specs.Prelude.{ℕ, zero, suc, ◌+◌, Bool, false, cond, ◌&&◌, List, [], ◌∷◌, length, take, drop, get_or, leb, ltb, eqb, Option, Some, None}
use Rattle.wire.specs.Wire.{joined, alike}
use Rattle.text.specs.Text.{ascii, is_hex, is_digits, number_of}
use Rattle.card.specs.Layout.{most_pause}
use Rattle.card.specs.Values.{u8}
use Rattle.text.specs.Lines.{head_to, tail_after, start_of, from_line, ended, lines_of}

-- VALUES. So many capital hex digits
unfoldable pub is_hex_of : ℕ → List ℕ → Bool
is_hex_of n v = eqb (length v) n && is_hex v

-- "3 decimal digits"
unfoldable pub is_cvc : List ℕ → Bool
is_cvc v = eqb (length v) 3 && is_digits v

-- `secp256k1` is 1 and `ed25519` is 2; anything else is no curve, 0
unfoldable pub curve_of : List ℕ → ℕ
curve_of v = cond (alike v (ascii "secp256k1")) 1 (cond (alike v (ascii "ed25519")) 2 0)

unfoldable pub is_curve : List ℕ → Bool
is_curve v = leb 1 (curve_of v)

-- "decimal, no leading zero", 1 to 4,294,967,295; what is no number of 32 bits is read as 0
unfoldable pub count_of : Option ℕ → ℕ
count_of (Some n) = n
count_of None = 0

unfoldable pub max_of : List ℕ → ℕ
max_of v = count_of (number_of v)

unfoldable pub is_max : List ℕ → Bool
is_max v = leb 1 (max_of v)

-- "0 or 1"; anything else is no flag, 2
unfoldable pub flag_of : List ℕ → ℕ
flag_of v = cond (alike v (ascii "0")) 0 (cond (alike v (ascii "1")) 1 2)

unfoldable pub is_flag : List ℕ → Bool
is_flag v = leb (flag_of v) 1

-- "0 to 60 seconds" (02 Ask 7), a number as `max` is; what is none is read as 0
unfoldable pub pause_of : List ℕ → ℕ
pause_of v = u8 (count_of (number_of v))

unfoldable pub up_to : ℕ → Option ℕ → Bool
up_to most (Some n) = leb n most
up_to most None = false

unfoldable pub is_pause : List ℕ → Bool
is_pause v = up_to most_pause (number_of v)

-- THE LINES in their order: the name, and the test of the value
pub record Row : Type 0 where
  pub name : List ℕ
  pub good : List ℕ → Bool

abbrev pub rows : List Row
rows =
    record { name = ascii "cid"; good = is_hex_of 16 }
    ∷ record { name = ascii "pin1"; good = is_hex_of 64 }
    ∷ record { name = ascii "pin2"; good = is_hex_of 64 }
    ∷ record { name = ascii "cvc"; good = is_cvc }
    ∷ record { name = ascii "curve"; good = is_curve }
    ∷ record { name = ascii "max"; good = is_max }
    ∷ record { name = ascii "reusable"; good = is_flag }
    ∷ record { name = ascii "usecvc"; good = is_flag }
    ∷ record { name = ascii "setpin1"; good = is_flag }
    ∷ record { name = ascii "setpin2"; good = is_flag }
    ∷ record { name = ascii "nopurge"; good = is_flag }
    ∷ record { name = ascii "replay"; good = is_flag }
    ∷ record { name = ascii "active"; good = is_flag }
    ∷ record { name = ascii "seed"; good = is_hex_of 32 }
    ∷ []

-- how many they are
abbrev pub sheet_lines : ℕ
sheet_lines = 14

-- the lines that may follow them, in this order
abbrev pub pause_row : Row
pause_row = record { name = ascii "pause"; good = is_pause }

unfoldable pub optional : List Row
optional = pause_row ∷ []

-- line k, counted from 1; a line past the last takes no value
unfoldable pub no_row : Row
no_row = record { name = []; good = λ v. false }

unfoldable pub row_of : ℕ → Row
row_of k = get_or (no_row ∷ rows) k no_row

-- "name, tab, value": they are the row's
unfoldable pub good_row : Row → List ℕ → List ℕ → Bool
good_row r name value = alike name r.name && r.good value

-- the name of the line that a text begins with, before its tab, and the value after it; a line without a tab has an empty value, and none is good
abbrev pub name_in : List ℕ → List ℕ
name_in s = head_to 9 (head_to 10 s)

abbrev pub value_in : List ℕ → List ℕ
value_in s = tail_after 9 (head_to 10 s)

-- a text begins with a good line of the row: name, tab, value, line feed
unfoldable pub good_line : Row → List ℕ → Bool
good_line r s = ended s && good_row r (name_in s) (value_in s)

-- AFTER THE LINES THAT MUST BE THERE, from line k on: an optional line is taken where it is good, else it is not there; then the line after them where
-- bytes stand there, or 0
unfoldable pub bad_after : List Row → ℕ → List ℕ → ℕ
bad_after [] k s = cond (ltb (start_of k s) (length s)) k 0
bad_after (r ∷ rs) k s =
    cond (good_line r (from_line k s)) (bad_after rs (suc k) s) (bad_after rs k s)

-- THE FIRST BAD LINE of n lines from line k on (a missing line is bad), and then of what follows them
unfoldable pub bad_from : ℕ → ℕ → List ℕ → ℕ
bad_from zero k s = bad_after optional k s
bad_from (suc n) k s = cond (good_line (row_of k) (from_line k s)) (bad_from n (suc k) s) k

unfoldable pub first_bad : List ℕ → ℕ
first_bad s = bad_from sheet_lines 1 s

-- a line by its number, where it is not 0
unfoldable pub some_line : ℕ → Option ℕ
some_line k = cond (eqb k 0) None (Some k)

-- A FILE THAT BEGINS WITH A SHEET. After so many lines, the next one is still one that must be there
unfoldable pub belongs : ℕ → Bool
belongs n = ltb n sheet_lines

-- those lines of a file, and the lines after them
unfoldable pub required_in : List ℕ → List ℕ
required_in s = joined (take sheet_lines (lines_of s))

unfoldable pub after_required : List ℕ → List (List ℕ)
after_required s = drop sheet_lines (lines_of s)

-- a pause stands behind them: line 15 is the sheet's where it is exactly that
unfoldable pub is_pause_line : List ℕ → Bool
is_pause_line s = good_line pause_row s

unfoldable pub has_pause : List ℕ → Bool
has_pause s = is_pause_line (from_line (suc sheet_lines) s)

unfoldable pub size_with : Bool → ℕ
size_with paused = sheet_lines + cond paused 1 0

-- the sheet in a file, and the lines after it
unfoldable pub sheet_in : List ℕ → List ℕ
sheet_in s = joined (take (size_with (has_pause s)) (lines_of s))

unfoldable pub after_sheet : List ℕ → List (List ℕ)
after_sheet s = drop (size_with (has_pause s)) (lines_of s)

-- the number in the file of the line that stands after the sheet, with its pause or without, and n lines more
unfoldable pub line_after : Bool → ℕ → ℕ
line_after paused n = size_with paused + suc n
