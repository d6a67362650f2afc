-- THE PLAY A LINE AT A TIME: what is kept between two lines, and what one more line makes of it and prints. Assumes nothing.
use Rattle.std.specs.Prelude.{ℕ, ◌+◌, ◌*◌, ◌≡◌, List, [], ◌∷◌, ◌++◌, Bool, true, false, cond, not, ◌&&◌, length, take, replicate, leb, ltb, eqb}
use Rattle.wire.specs.Wire.{put, be1}
use Rattle.card.specs.Layout.{pause_at, image_size, image_room}
use Rattle.card.specs.Image.{encode}
use Rattle.sheet.specs.Sheet.{value_in, pause_of, first_bad, is_pause_line, has_pause, required_in, after_required, line_after}
use Rattle.personalise.specs.Personalise.{sheet_card}
use Rattle.text.specs.Text.{unhex}
use Rattle.manual.specs.declared.Outcome.{Outcome}
use Rattle.manual.specs.Words.{response_room}
use Rattle.manual.specs.Settle.{holding, Settled, settle_call, settled, over}
use Rattle.recording.specs.declared.Play.{Play}
use Rattle.recording.specs.declared.Turn.{Turn}
use Rattle.tapline.specs.Line.{Recorded, draw_in, answers_in, is_tap_line, recorded}
use Rattle.sums.specs.Counted.{no_sums}
use Rattle.printing.specs.Printing.{bad_text}
use Rattle.recording.specs.Recording.{most_taps}
use Rattle.recording.specs.Play.{Played, after_tap, text_of, last_text}

-- AFTER A LINE: what is kept, the card's image, and what is printed
pub record Stepped : Type 0 where
  pub play : Play
  pub image : List ℕ
  pub text : List ℕ

-- whether the sheet had a pause is kept for the numbers of lines
abbrev pub playing : Bool → Played → Play
playing paused p = record { taps = p.taps; sums = p.sums; paused = paused; ended = false }

abbrev pub played : Play → List ℕ → Played
played y m = record { taps = y.taps; sums = y.sums; image = m }

abbrev pub ended_at : Play → Play
ended_at y = record { taps = y.taps; sums = y.sums; paused = y.paused; ended = true }

-- a line that ends the play, and its number
abbrev pub stopped : Play → List ℕ → ℕ → Stepped
stopped y m n = record { play = ended_at y; image = m; text = bad_text n }

abbrev pub tapped : Bool → Played → Recorded → Stepped
tapped paused p t = record { play = playing paused (after_tap p t); image = (after_tap p t).image; text = text_of p t }

abbrev pub nothing : Play → List ℕ → Stepped
nothing y m = record { play = y; image = m; text = [] }

-- what settle gives for a request and the line that it stands in; out is the buffer for the response
abbrev pub settled_in : List ℕ → List ℕ → List ℕ → List ℕ → Settled
settled_in m q l out = settled (holding m) (settle_call q (unhex (draw_in l)) (unhex (answers_in l)) out (replicate image_room 0))

-- the image after it
abbrev pub renewed : ℕ → List ℕ → List ℕ → List ℕ
renewed number nxt m = cond (eqb number 0) (take image_size nxt) m

-- a line that is a tap, and not one too many after so many
abbrev pub is_next : ℕ → List ℕ → Bool
is_next taps s = ltb taps most_taps && is_tap_line s

-- a pause, which stands before any tap and once: it is set in the card, and nothing is printed
abbrev pub is_first_pause : Play → List ℕ → Bool
is_first_pause y s = eqb y.taps 0 && (not y.paused && is_pause_line s)

abbrev pub pausing : Play → List ℕ → List ℕ → Stepped
pausing y m s =
    record {
      play = record { taps = y.taps; sums = y.sums; paused = true; ended = false };
      image = put m pause_at (be1 (pause_of (value_in s)));
      text = [];
    }

-- ONE MORE LINE: nothing once the play has ended; a line that is neither the sheet's pause nor the next tap ends it
unfoldable pub stepped : Play → List ℕ → List ℕ → Stepped
stepped y m s =
    cond y.ended (nothing y m)
    (cond (is_first_pause y s) (pausing y m s)
    (cond (is_next y.taps s) (tapped y.paused (played y m) (recorded s)) (stopped y m (line_after y.paused y.taps))))

-- THE SHEET: a fresh card, or the number of its first bad line
abbrev pub start_with : Bool → Play
start_with paused = record { taps = 0; sums = no_sums; paused = paused; ended = false }

abbrev pub start : Play
start = start_with false

unfoldable pub started : List ℕ → List ℕ → Stepped
started sheet m =
    cond (eqb (first_bad sheet) 0) (record { play = start_with (has_pause sheet); image = encode (sheet_card sheet); text = [] }) (stopped start m (first_bad sheet))

-- THE END: the sums, where no line has ended the play
unfoldable pub finished : Play → List ℕ → Stepped
finished y m = cond y.ended (nothing y m) (record { play = ended_at y; image = m; text = last_text m y.sums })

-- THE PLAY BY STEPS: what lines print one after the other, and then the end; and what a whole recording prints, the
-- lines of its sheet that must be there first
unfoldable pub run_text : Play → List ℕ → List (List ℕ) → List ℕ
run_text y m [] = (finished y m).text
run_text y m (l ∷ ls) = (stepped y m l).text ++ run_text (stepped y m l).play (stepped y m l).image ls

unfoldable pub steps_text : List ℕ → List ℕ → List ℕ
steps_text m s = let z = started (required_in s) m in z.text ++ run_text z.play z.image (after_required s)

-- what the code promises on the way: settle's outcome, response and image; and a line at the start of the buffer, with its length
pub record Gave (x : Settled) (m : List ℕ) (r : Outcome) (out m' : List ℕ) : Type 0 where
  pub result : r ≡ x.result
  pub response : out ≡ x.response
  pub image : m' ≡ renewed x.result.number x.next m

pub record Says (v out : List ℕ) (r : ℕ) (out' : List ℕ) : Type 0 where
  pub size : r ≡ length v
  pub bytes : out' ≡ over v out

-- WHAT A CALL LEAVES: what it returns, the image, and the buffer that it prints into. Without a place for an image and for a line it does nothing
pub record Left : Type 0 where
  pub result : Turn
  pub image : List ℕ
  pub out : List ℕ

-- room for any line that is printed: a response in hex, and what stands around it
abbrev pub line_room : ℕ
line_room = 2 * response_room + 256

unfoldable pub room_for : ℕ → ℕ → Bool
room_for image out = eqb image image_size && leb line_room out

abbrev pub left_by : Turn → List ℕ → List ℕ → Left
left_by r m out = record { result = r; image = m; out = out }

abbrev pub wrote : Stepped → List ℕ → Left
wrote z out = left_by (record { play = z.play; length = length z.text }) z.image (over z.text out)

unfoldable pub leaves : Play → List ℕ → List ℕ → Stepped → Left
leaves y m out z = cond (room_for (length m) (length out)) (wrote z out) (left_by (record { play = y; length = 0 }) m out)
