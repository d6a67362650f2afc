-- WHAT A FRESH CARD TELLS, 01 "The personalisation sheet" and "The commands", F2: the fields of READ_CARD's response, from the sheet alone. Assumes nothing.
use Rattle.std.specs.Prelude.{ℕ, ◌+◌, ◌*◌, cond, List, [], ◌∷◌, eqb}
use Rattle.wire.specs.Wire.{be1, be4}
use Rattle.fields.specs.Fields.{Tagged, fld}
use Rattle.personalise.specs.Personalise.{sheet_fixed, sheet_flags}
use Rattle.manual.specs.Words.{response_room}
use Rattle.manual.specs.Tags.{CID, Status, CurveID, SignedHashes, IsActivated, ActivationSeed}
use Rattle.manual.specs.Wallet.{curve_name}

-- "CID, Status 1, curve name, no hashes"; "not activated: Is_Activated and no more"
abbrev pub active_fields : List ℕ → List Tagged
active_fields s = fld CurveID (curve_name (sheet_fixed s).curve) ∷ fld SignedHashes (be4 0) ∷ []

abbrev pub asleep_fields : List ℕ → List Tagged
asleep_fields s = fld IsActivated (be1 0) ∷ fld ActivationSeed (sheet_fixed s).seed ∷ []

abbrev pub fresh_fields : List ℕ → List Tagged
fresh_fields s = fld CID (sheet_fixed s).cid ∷ fld Status (be1 1) ∷ cond (eqb (sheet_flags s).active 1) (active_fields s) (asleep_fields s)

-- what firstread reads of its input at most; `firstanswer` has a constant of the same name
abbrev pub sheet_room : ℕ
sheet_room = 4096

-- room for any line: a response in hex and a line feed; the same
abbrev pub line_room : ℕ
line_room = 2 * response_room + 1
