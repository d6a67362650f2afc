-- Personalisation, 01 "The personalisation sheet": the fresh card that a sheet describes, and what its reader answers. Every definition is total.
-- Assumes nothing.
use Rattle.std.specs.Prelude.{ℕ, cond, List, ◌++◌, length, drop, ltb, eqb}
use Rattle.wire.specs.Wire.{pad}
use Rattle.text.specs.Text.{unhex}
use Rattle.text.specs.Lines.{tail_after, line_of}
use Rattle.card.specs.Layout.{image_size, image_room}
use Rattle.card.specs.declared.Codes.{Codes}
use Rattle.card.specs.declared.Fixed.{Fixed}
use Rattle.card.specs.declared.Flags.{Flags}
use Rattle.card.specs.declared.Card.{Card}
use Rattle.card.specs.Values.{fresh}
use Rattle.card.specs.Image.{encode}
use Rattle.sheet.specs.Sheet.{curve_of, max_of, flag_of, pause_of, first_bad}

-- THE CARD of a good sheet: fresh, with the values of its lines. The value of line k
unfoldable pub value_of : ℕ → List ℕ → List ℕ
value_of k s = tail_after 9 (line_of k s)

unfoldable pub sheet_codes : List ℕ → Codes
sheet_codes s = record { pin1 = pad 32 (unhex (value_of 2 s)); pin2 = pad 32 (unhex (value_of 3 s)) }

-- cvc is stored as characters; the pause is 0 where there is no such line
unfoldable pub sheet_fixed : List ℕ → Fixed
sheet_fixed s =
    record {
      cid = pad 8 (unhex (value_of 1 s));
      cvc = pad 3 (value_of 4 s);
      curve = curve_of (value_of 5 s);
      max = max_of (value_of 6 s);
      seed = pad 16 (unhex (value_of 14 s));
      pause = pause_of (value_of 15 s);
    }

unfoldable pub sheet_flags : List ℕ → Flags
sheet_flags s =
    record {
      reusable = flag_of (value_of 7 s);
      usecvc = flag_of (value_of 8 s);
      setpin1 = flag_of (value_of 9 s);
      setpin2 = flag_of (value_of 10 s);
      nopurge = flag_of (value_of 11 s);
      replay = flag_of (value_of 12 s);
      active = flag_of (value_of 13 s);
    }

unfoldable pub sheet_card : List ℕ → Card
sheet_card s = fresh (sheet_fixed s) (sheet_flags s) (sheet_codes s)

-- THE OUTCOME of the reader: its answer, and what the image buffer then holds. "An image buffer below 4,096 bytes answers 99" before any line is read
pub record Outcome : Type 0 where
  pub answer : ℕ
  pub image : List ℕ

unfoldable pub personalised : List ℕ → List ℕ → Outcome
personalised s out =
    cond (ltb (length out) image_room) (record { answer = 99; image = out })
    (cond (eqb (first_bad s) 0) (record { answer = 0; image = encode (sheet_card s) ++ drop image_size out }) (record { answer = first_bad s; image = out }))
