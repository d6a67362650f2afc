-- THE PLAY of a recording, Ask 4: what becomes of the card and of the sums, and what is printed. Assumes nothing.
use Rattle.std.specs.Prelude.{ℕ, suc, List, [], ◌∷◌, ◌++◌, cond, replicate, eqb}
use Rattle.wire.specs.Wire.{alike}
use Rattle.card.specs.Layout.{image_room}
use Rattle.card.specs.Image.{encode, decode}
use Rattle.sheet.specs.Sheet.{first_bad, sheet_in}
use Rattle.personalise.specs.Personalise.{sheet_card}
use Rattle.manual.specs.Words.{response_room}
use Rattle.manual.specs.Settle.{holding, Call, Settled, settle_call, settled}
use Rattle.story.specs.Sums.{tap}
use Rattle.story.specs.Buffers.{response, image}
use Rattle.tapline.specs.Line.{Recorded}
use Rattle.sums.specs.declared.Sums.{Sums}
use Rattle.sums.specs.Counted.{no_sums, counted, live_signs}
use Rattle.printing.specs.Printing.{told_as, tap_text, sums_text, bad_text}
use Rattle.recording.specs.Recording.{Taps, taps_of}

-- A TAP AS A CALL of settle: what was recorded, and the buffers that the play lends
abbrev pub call_of : Recorded → Call
call_of t = settle_call t.request t.draw t.answers (replicate response_room 0) (replicate image_room 0)

-- WHAT SETTLE GIVES for it, on the card with image m
abbrev pub settled_for : List ℕ → Recorded → Settled
settled_for m t = settled (holding m) (call_of t)

abbrev pub told : Settled → List ℕ
told x = told_as x.result.number (response x)

-- WHAT HAS BEEN PLAYED: how many taps, their sums, and the card's image after them
pub record Played : Type 0 where
  pub taps : ℕ
  pub sums : Sums
  pub image : List ℕ

-- from a fresh card
abbrev pub begun : List ℕ → Played
begun sheet = record { taps = 0; sums = no_sums; image = encode (sheet_card sheet) }

-- a tap more: the response is added up, and the card is what settle left
abbrev pub said_by : Settled → Recorded → Played → Played
said_by x t p = record { taps = suc p.taps; sums = counted p.sums (tap t.request (response x)); image = image p.image x }

abbrev pub after_tap : Played → Recorded → Played
after_tap p t = said_by (settled_for p.image t) t p

unfoldable pub after_taps : Played → List Recorded → Played
after_taps p [] = p
after_taps p (t ∷ ts) = after_taps (after_tap p t) ts

-- THE LINES THAT ARE PRINTED: of a tap, and of the sums
abbrev pub text_of : Played → Recorded → List ℕ
text_of p t = let v = told (settled_for p.image t) in tap_text (suc p.taps) (alike t.expected v) v

abbrev pub last_text : List ℕ → Sums → List ℕ
last_text m s = sums_text (decode m).face.front.wallet.remaining (decode m).face.front.wallet.signed (live_signs s) s.hashes

-- THE TEXT that a play prints: a line for each tap, then the sums, or the bad line's number
unfoldable pub taps_text : Played → List Recorded → List ℕ
taps_text p [] = []
taps_text p (t ∷ ts) = text_of p t ++ taps_text (after_tap p t) ts

unfoldable pub end_text : Played → ℕ → List ℕ
end_text p bad = cond (eqb bad 0) (last_text p.image p.sums) (bad_text bad)

unfoldable pub play_text : Played → Taps → List ℕ
play_text p r = taps_text p r.taps ++ end_text (after_taps p r.taps) r.bad

-- THE MEANING of a recording: what is printed for its text
unfoldable pub printed : List ℕ → List ℕ
printed s = cond (eqb (first_bad (sheet_in s)) 0) (play_text (begun (sheet_in s)) (taps_of s)) (bad_text (first_bad (sheet_in s)))
