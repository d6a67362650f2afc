-- THE LINE OF A TAP, Ask 4: four fields of hex with a tab between each two. Every definition is total. Assumes nothing.
use Rattle.std.specs.Prelude.{ℕ, ◌%◌, List, Bool, ◌&&◌, ◌||◌, length, leb, eqb}
use Rattle.wire.specs.Wire.{alike}
use Rattle.text.specs.Text.{ascii, is_hex, unhex}
use Rattle.text.specs.Lines.{head_to, tail_after, ended}

-- THE FIELDS of a line, parted by tabs
unfoldable pub request_in : List ℕ → List ℕ
request_in l = head_to 9 l

unfoldable pub draw_in : List ℕ → List ℕ
draw_in l = head_to 9 (tail_after 9 l)

unfoldable pub answers_in : List ℕ → List ℕ
answers_in l = head_to 9 (tail_after 9 (tail_after 9 l))

unfoldable pub expected_in : List ℕ → List ℕ
expected_in l = tail_after 9 (tail_after 9 (tail_after 9 l))

-- bytes in hex, two capital digits for each; of the four fields only the answers may have none
unfoldable pub is_bytes : List ℕ → Bool
is_bytes v = eqb (length v % 2) 0 && is_hex v

unfoldable pub is_some : List ℕ → Bool
is_some v = leb 1 (length v) && is_bytes v

-- a draw of 32 bytes
unfoldable pub is_draw : List ℕ → Bool
is_draw v = eqb (length v) 64 && is_hex v

-- refusal 4 is expected as it is printed
unfoldable pub is_expected : List ℕ → Bool
is_expected v = alike v (ascii "4") || is_some v

-- a fourth tab would stand in the last field, and with two tabs or fewer that field is empty
unfoldable pub is_tap : List ℕ → Bool
is_tap l = is_some (request_in l) && (is_draw (draw_in l) && (is_bytes (answers_in l) && is_expected (expected_in l)))

-- the most bytes of a line before its line feed
abbrev pub longest : ℕ
longest = 8192

-- a line is a tap: it has its line feed, no more bytes before it than a line may have, and the four fields
unfoldable pub is_tap_line : List ℕ → Bool
is_tap_line s = ended s && (leb (length (head_to 10 s)) longest && is_tap (head_to 10 s))

-- A TAP as it was recorded: three fields as bytes, and the expected response as it is printed
pub record Recorded : Type 0 where
  pub request : List ℕ
  pub draw : List ℕ
  pub answers : List ℕ
  pub expected : List ℕ

abbrev pub recorded_in : List ℕ → Recorded
recorded_in l = record { request = unhex (request_in l); draw = unhex (draw_in l); answers = unhex (answers_in l); expected = expected_in l }

unfoldable pub recorded : List ℕ → Recorded
recorded s = recorded_in (head_to 10 s)
