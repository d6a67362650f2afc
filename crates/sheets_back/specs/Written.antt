-- The sheet that describes a card, and the cards that a sheet can describe: what the theorems of proofs/ReadBack.antt and proofs/Good.antt are about.
-- Assumes nothing.
use Rattle.std.specs.Prelude.{ℕ, zero, suc, ◌+◌, ◌≤◌, ◌≡◌, true, cond, List, [], ◌∷◌, ◌++◌, length, eqb}
use Rattle.wire.specs.Wire.{Bytes}
use Rattle.text.specs.Text.{ascii, hex_of, is_digits, decimal_of}
use Rattle.card.specs.declared.Codes.{Codes}
use Rattle.card.specs.declared.Fixed.{Fixed}
use Rattle.card.specs.declared.Flags.{Flags}
use Rattle.card.specs.declared.Card.{Card}
use Rattle.sheet.specs.Sheet.{row_of, pause_row}
use Rattle.personalise.specs.Personalise.{value_of}

-- lines from line k on, with these values: each name, tab, value, line feed
unfoldable pub text_from : ℕ → List (List ℕ) → List ℕ
text_from k [] = []
text_from k (v ∷ vs) = (row_of k).name ++ (9 ∷ v) ++ (10 ∷ text_from (suc k) vs)

-- the values of n lines from line k on, as they stand in a text
unfoldable pub values_from : ℕ → ℕ → List ℕ → List (List ℕ)
values_from zero k s = []
values_from (suc n) k s = value_of k s ∷ values_from n (suc k) s

unfoldable pub curve_name : ℕ → List ℕ
curve_name n = cond (eqb n 1) (ascii "secp256k1") (ascii "ed25519")

unfoldable pub flag_text : ℕ → List ℕ
flag_text n = (n + 48) ∷ []

-- the values of a card's lines, in their order
abbrev pub flag_values : Flags → List (List ℕ)
flag_values g =
    flag_text g.reusable
    ∷ flag_text g.usecvc
    ∷ flag_text g.setpin1
    ∷ flag_text g.setpin2
    ∷ flag_text g.nopurge
    ∷ flag_text g.replay
    ∷ flag_text g.active
    ∷ []

abbrev pub values : Card → List (List ℕ)
values c =
    hex_of c.face.front.fixed.cid
    ∷ hex_of c.codes.pin1
    ∷ hex_of c.codes.pin2
    ∷ c.face.front.fixed.cvc
    ∷ curve_name c.face.front.fixed.curve
    ∷ decimal_of c.face.front.fixed.max
    ∷ flag_values c.face.front.flags
    ++ (hex_of c.face.front.fixed.seed ∷ [])

-- the line of a pause, which is there exactly where the pause is not 0
unfoldable pub pause_text : ℕ → List ℕ
pause_text n = cond (eqb n 0) [] (pause_row.name ++ (9 ∷ decimal_of n) ++ (10 ∷ []))

-- THE SHEET of a card
unfoldable pub sheet_text : Card → List ℕ
sheet_text c = text_from 1 (values c) ++ pause_text c.face.front.fixed.pause

-- "every value is in its range": the cards that a sheet can describe
pub record FixedInRange (x : Fixed) : Type 0 where
  pub cid : length x.cid ≡ 8
  pub cid_bytes : Bytes x.cid
  pub cvc : length x.cvc ≡ 3
  pub cvc_digits : is_digits x.cvc ≡ true
  pub curve : (1 ≤ x.curve) × (x.curve ≤ 2)
  pub max : (1 ≤ x.max) × (x.max ≤ 4294967295)
  pub seed : length x.seed ≡ 16
  pub seed_bytes : Bytes x.seed
  pub pause : x.pause ≤ 60

pub record CodesInRange (x : Codes) : Type 0 where
  pub pin1 : length x.pin1 ≡ 32
  pub pin1_bytes : Bytes x.pin1
  pub pin2 : length x.pin2 ≡ 32
  pub pin2_bytes : Bytes x.pin2

pub record FlagsInRange (g : Flags) : Type 0 where
  pub reusable : g.reusable ≤ 1
  pub usecvc : g.usecvc ≤ 1
  pub setpin1 : g.setpin1 ≤ 1
  pub setpin2 : g.setpin2 ≤ 1
  pub nopurge : g.nopurge ≤ 1
  pub replay : g.replay ≤ 1
  pub active : g.active ≤ 1

pub record InRange (c : Card) : Type 0 where
  pub fixed : FixedInRange c.face.front.fixed
  pub codes : CodesInRange c.codes
  pub flags : FlagsInRange c.face.front.flags
