-- What the changes cite. Assumes nothing.
use Prim.Native.Nat.{ℕ, ◌+◌, ◌%◌, ◌≤◌}
use native.Mathlib.Omega.{arith}
use mathlib.Core.Path.{◌≡◌, refl, sym, ◌∙◌}
use mathlib.Core.List.{List, ◌++◌}
use lib.ListN.{length, drop}
use Rattle.wire.specs.Wire.{put, fit, placed, pad, Wrote}
use Rattle.wire.proofs.Laws.{has_room}
use Rattle.wire.proofs.Parts.{pad_whole}
use Rattle.fields.specs.Fields.{View}
use Rattle.card.specs.declared.Card.{Card}
use Rattle.card.specs.Layout.{pin_size, codes_at, image_size}
use Rattle.card.specs.Values.{u32, default_pin1, reset_pin1}
use Rattle.card.specs.Image.{enc_codes, decode}
use Rattle.card.specs.Shape.{Shape}
use Rattle.cards.proofs.Round.{shape_decode}
use Rattle.writing.specs.Holds.{Holds}
use Rattle.writing.proofs.Renewed.{anew_codes}
use Rattle.manual.specs.declared.Command.{Command}
use Rattle.facts.proofs.Facts.{facts}
use Rattle.changes.specs.Carried.{carried_card}

-- Signed_Hashes is kept in its width, also where the number of hashes was brought into it first
pub kept_once : (s n : ℕ) → u32 (s + n % 4294967296) ≡ u32 (s + n)
kept_once s n = omega arith

-- what stands at the front, and the rest as it was, is one write
pub fronted : (d v : List ℕ) {d' : List ℕ} (n : ℕ) → length v ≡ n → n ≤ length d → d' ≡ v ++ drop n d → Wrote d 0 v d' n
unfolding fit placed put
fronted d v n l h e =
    let z : 0 + length v ≡ n = omega arith in
    let r = has_room (length d) 0 (length v) (omega arith) in
    record { bytes = e ∙ sym (rw (r, z)); next = sym (rw (r, z)) }

-- the card after has its shape
pub carried_shape : (k : Command) (m : List ℕ) → length m ≡ image_size → (v : View) (a : List ℕ) → Shape (carried_card k (decode m) v a)
carried_shape k m l v a =
    let s = shape_decode m l in
    record { codes = (facts k).codes v (decode m).codes s.codes; face = (facts k).shape (decode m).face v a s.face }

-- PIN1 becomes its default: both codes are written anew, PIN2 as it was
pub anew_pin1 :
    {c : Card} {rest d d' : List ℕ} {r : ℕ} → Wrote d codes_at (enc_codes (record { pin1 = pad pin_size default_pin1; pin2 = pad pin_size c.codes.pin2 })) d' r
    → Holds c rest d → Holds (record { face = c.face; codes = reset_pin1 c.codes }) rest d'
anew_pin1 {c} w h =
    rw (pad_whole pin_size default_pin1 refl, pad_whole pin_size c.codes.pin2 h.shape.codes.pin2) at (anew_codes default_pin1 c.codes.pin2 w h)
