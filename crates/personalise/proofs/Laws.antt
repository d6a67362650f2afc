-- The outcome of a sheet's reader, and the card of a sheet. Assumes nothing.
use Prim.Native.Nat.{ℕ, ◌≤◌}
use native.Mathlib.Omega.{arith}
use mathlib.Core.Path.{◌≡◌, refl, sym, ap, ◌∙◌}
use mathlib.Core.Bool.{Bool, true, false, cond}
use mathlib.Core.List.{List, ◌++◌}
use lib.ListN.{length, take, drop}
use lib.Seq.{take_at}
use lib.Dec.{eqb}
use borrow.Author.Tests.{le-ltb, eq-eqb, eqb-true}
use Rattle.wire.specs.Wire.{Wrote}
use Rattle.wire.proofs.Laws.{runs, front}
use Rattle.wire.proofs.Parts.{length_pad}
use Rattle.text.specs.Text.{unhex}
use Rattle.card.specs.Layout.{image_size, image_room}
use Rattle.card.specs.Shape.{Shape}
use Rattle.card.specs.Image.{encode}
use Rattle.cards.proofs.Shape.{length_encode, shape_fresh}
use Rattle.sheet.specs.Sheet.{first_bad}
use Rattle.personalise.specs.Personalise.{value_of, sheet_codes, sheet_fixed, sheet_flags, sheet_card, Outcome, personalised}

-- THE OUTCOME of a good sheet
pub outcome_good : (s out : List ℕ) → image_room ≤ length out → first_bad s ≡ 0
    → personalised s out ≡ record { answer = 0; image = encode (sheet_card s) ++ drop image_size out }
unfolding personalised
outcome_good s out h e = rw (le-ltb _ _ h, eq-eqb _ _ e)

-- what an image written from the front leaves
pub written : {v out out' : List ℕ} {r : ℕ} → Wrote out 0 v out' r → length v ≡ image_size → image_room ≤ length out → out' ≡ v ++ drop image_size out
written {v} {out} w e h = (front (runs w) (omega arith)).0 ∙ ap (λ (n : ℕ). v ++ drop n out) e

-- THE CARD OF A SHEET: its image fills the room that it has, and the reader answers the first bad line
pub sheet_shape : (s : List ℕ) → Shape (sheet_card s)
unfolding sheet_card sheet_fixed sheet_codes
sheet_shape s =
    shape_fresh (sheet_fixed s) (sheet_flags s) (sheet_codes s)
    (record { cid = length_pad 8 (unhex (value_of 1 s)); cvc = length_pad 3 (value_of 4 s); seed = length_pad 16 (unhex (value_of 14 s)) })
    (record { pin1 = length_pad 32 (unhex (value_of 2 s)); pin2 = length_pad 32 (unhex (value_of 3 s)) })

pub fresh_image : (s out : List ℕ) → image_room ≤ length out → first_bad s ≡ 0 → take image_size (personalised s out).image ≡ encode (sheet_card s)
fresh_image s out h e =
    ap (λ o. take image_size o.image) (outcome_good s out h e)
    ∙ take_at (encode (sheet_card s)) (drop image_size out) image_size (length_encode (sheet_card s) (sheet_shape s))

pub answers_first : (s out : List ℕ) → image_room ≤ length out → (personalised s out).answer ≡ first_bad s
unfolding personalised
answers_first s out h = rw (le-ltb (length out) image_room h) (go (eqb (first_bad s) 0) refl)
  where
    go :
        (b : Bool) → eqb (first_bad s) 0 ≡ b
        → (cond {A = Outcome} (eqb (first_bad s) 0) (record { answer = 0; image = encode (sheet_card s) ++ drop image_size out })
        (record { answer = first_bad s; image = out })).answer
        ≡ first_bad s
    go true e = rw e (sym (eqb-true (first_bad s) 0 e))
    go false e = rw e refl
