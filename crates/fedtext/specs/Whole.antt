-- A WHOLE RECORDING BYTE BY BYTE: what is printed from here on, for the bytes to come. Assumes nothing.
use Rattle.std.specs.Prelude.{ℕ, List, [], ◌∷◌, ◌++◌, cond, take}
use Rattle.wire.specs.Wire.{part, fit, placed}
use Rattle.recording.specs.Step.{Stepped}
use Rattle.player.specs.declared.Player.{Player}
use Rattle.player.specs.Feed.{after, played_held, is_whole, held_with, Left, fed, at_end, closed}

-- the buffer with one more byte in it, and what is played of it where it is whole
abbrev pub more : Player → ℕ → List ℕ → List ℕ
more p b text = fit text p.held (b ∷ [])

abbrev pub count : Player → ℕ → List ℕ → ℕ
count p b text = placed text p.held (b ∷ [])

abbrev pub turn : Player → ℕ → List ℕ → List ℕ → Stepped
turn p b text m = played_held p.play p.lines (part (more p b text) 0 (count p b text)) m

-- THE TEXT that is printed: byte for byte, and then at the end
unfoldable pub fed_text : Player → List ℕ → List ℕ → List ℕ → List ℕ
fed_text p text m [] = (at_end p text m).text
fed_text p text m (b ∷ s) =
    cond (is_whole p.lines (count p b text) b)
    ((turn p b text m).text ++ fed_text (after (turn p b text m).play) (more p b text) (turn p b text m).image s)
    (fed_text (held_with p b (count p b text)) (more p b text) m s)

-- what a call printed: so many bytes at the start of its buffer
abbrev pub printed_by : Left → List ℕ
printed_by r = take r.result.length r.out

-- THE CALLS for bytes to come, one for each and then the one at the end, each with what the call before it left: what they print
unfoldable pub calls_text : Player → List ℕ → List ℕ → List ℕ → List ℕ → List ℕ
calls_text p text m out [] = printed_by (closed p text m out)
calls_text p text m out (b ∷ s) =
    let r : Left = fed p b text m out in
    printed_by r ++ calls_text r.result.player r.text r.image r.out s
