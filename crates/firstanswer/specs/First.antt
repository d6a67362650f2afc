-- WHAT FIRSTREAD PRINTS, 01 "The personalisation sheet": READ_CARD's response for the fresh card of a sheet, or the number of the sheet's first bad line.
-- Every definition is total. Assumes nothing.
use Rattle.std.specs.Prelude.{ℕ, cond, List, [], ◌∷◌, length, replicate, eqb}
use Rattle.wire.specs.Wire.{part, joined}
use Rattle.fields.specs.Fields.{tlv}
use Rattle.text.specs.Text.{hex_of}
use Rattle.card.specs.Layout.{image_room}
use Rattle.card.specs.Image.{encode}
use Rattle.sheet.specs.Sheet.{first_bad}
use Rattle.personalise.specs.Personalise.{sheet_codes, sheet_card}
use Rattle.manual.specs.declared.Command.TheVariants.{ReadCard}
use Rattle.manual.specs.Words.{response_room, draw_size}
use Rattle.manual.specs.Tags.{PIN1}
use Rattle.manual.specs.Request.{code}
use Rattle.manual.specs.Settle.{holding, settle_call, Settled, settled}
use Rattle.printing.specs.Printing.{feed, bad_parts}

-- "READ_CARD's response, under the sheet's PIN1": CLA, INS, P1, P2, Lc, and a payload of that one field
unfoldable pub first_request : List ℕ → List ℕ
first_request pin = 0 ∷ code ReadCard ∷ 0 ∷ 0 ∷ length (tlv PIN1 pin) ∷ tlv PIN1 pin

-- "and a draw of zeros": what settle makes of it on an image; READ_CARD asks nothing, so there are no answers
unfoldable pub first_settled : List ℕ → List ℕ → Settled
first_settled m pin = settled (holding m) (settle_call (first_request pin) (replicate draw_size 0) [] (replicate response_room 0) (replicate image_room 0))

-- the response, as long as settle says that it is
unfoldable pub first_response : List ℕ → List ℕ → List ℕ
first_response m pin = part (first_settled m pin).response 0 (first_settled m pin).result.length

-- "prints READ_CARD's response [..] as one line of capital hex, or `line`, a tab and that number, each ended by a line feed"
unfoldable pub first_parts : List ℕ → List (List ℕ)
first_parts s = cond (eqb (first_bad s) 0) (hex_of (first_response (encode (sheet_card s)) (sheet_codes s).pin1) ∷ feed ∷ []) (bad_parts (first_bad s))

-- the line as one text
unfoldable pub first_line : List ℕ → List ℕ
first_line s = joined (first_parts s)
