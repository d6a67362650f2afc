-- A RECORDING BYTE BY BYTE: bytes are held until they are a whole sheet or a whole line, which is then played. Assumes nothing.
use Rattle.std.specs.Prelude.{ℕ, suc, ◌+◌, List, [], ◌∷◌, Bool, cond, not, ◌&&◌, ◌||◌, length, leb, ltb, eqb}
use Rattle.wire.specs.Wire.{part, fit, placed}
use Rattle.sheet.specs.Sheet.{sheet_lines, belongs}
use Rattle.manual.specs.Settle.{over}
use Rattle.tapline.specs.Line.{longest}
use Rattle.recording.specs.declared.Play.{Play}
use Rattle.recording.specs.Step.{Stepped, start, started, stepped, finished, room_for}
use Rattle.player.specs.declared.Player.{Player}
use Rattle.player.specs.declared.Fed.{Fed}

-- before the first byte
abbrev pub at_first : Player
at_first = record { play = start; lines = 0; held = 0 }

-- after a play nothing is held, and the lines that a sheet must have are through
abbrev pub after : Play → Player
after y = record { play = y; lines = sheet_lines; held = 0 }

-- what is held is played: the sheet, or a line
unfoldable pub played_held : Play → ℕ → List ℕ → List ℕ → Stepped
played_held y lines v m = cond (belongs lines) (started v m) (stepped y m v)

-- the lines of the sheet after one more byte
unfoldable pub lines_with : ℕ → ℕ → ℕ
lines_with b lines = cond (eqb b 10 && belongs lines) (suc lines) lines

-- one byte more than a line may have
abbrev pub text_room : ℕ
text_room = longest + 1

-- the line feed of the sheet's last line or of a later one makes it whole; so do bytes that are too many for a line, and for a sheet
unfoldable pub is_whole : ℕ → ℕ → ℕ → Bool
is_whole lines n b = leb text_room n || (eqb b 10 && not (belongs (lines_with b lines)))

-- WHAT A CALL LEAVES: what it returns, the bytes held, the image, and the buffer that it prints into
pub record Left : Type 0 where
  pub result : Fed
  pub text : List ℕ
  pub image : List ℕ
  pub out : List ℕ

abbrev pub left_by : Fed → List ℕ → List ℕ → List ℕ → Left
left_by r text m out = record { result = r; text = text; image = m; out = out }

abbrev pub idle : Player → List ℕ → List ℕ → List ℕ → Left
idle p text m out = left_by (record { player = p; length = 0 }) text m out

abbrev pub turned : Stepped → List ℕ → List ℕ → Left
turned z text out = left_by (record { player = after z.play; length = length z.text }) text z.image (over z.text out)

-- room for the bytes that are held, for an image, and for what is printed; without it nothing is done
unfoldable pub roomy : ℕ → ℕ → ℕ → Bool
roomy text image out = leb text_room text && room_for image out

-- ONE MORE BYTE
abbrev pub held_with : Player → ℕ → ℕ → Player
held_with p b n = record { play = p.play; lines = lines_with b p.lines; held = n }

abbrev pub taken : Player → ℕ → List ℕ → ℕ → List ℕ → List ℕ → Left
taken p b text n m out =
    cond (is_whole p.lines n b) (turned (played_held p.play p.lines (part text 0 n) m) text out) (idle (held_with p b n) text m out)

unfoldable pub fed : Player → ℕ → List ℕ → List ℕ → List ℕ → Left
fed p b text m out =
    cond (roomy (length text) (length m) (length out))
    (taken p b (fit text p.held (b ∷ [])) (placed text p.held (b ∷ [])) m out)
    (idle p text m out)

-- THE END of the bytes: a sheet or a line that is not whole is played as it is, and is bad; otherwise there are the sums
unfoldable pub is_cut : ℕ → ℕ → Bool
is_cut lines held = belongs lines || ltb 0 held

abbrev pub at_end : Player → List ℕ → List ℕ → Stepped
at_end p text m =
    cond (is_cut p.lines p.held) (played_held p.play p.lines (part text 0 p.held) m) (finished p.play m)

unfoldable pub closed : Player → List ℕ → List ℕ → List ℕ → Left
closed p text m out = cond (roomy (length text) (length m) (length out)) (turned (at_end p text m) text out) (idle p text m out)
