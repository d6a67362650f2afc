-- The request, its response and the line of a sheet, from what the functions that are called promise. Assumes nothing.
use Prim.Native.Nat.{ℕ, ◌≤◌}
use native.Mathlib.Omega.{arith}
use mathlib.Core.Path.{◌≡◌, sym, ap, ◌∙◌, subst}
use mathlib.Core.List.{List, [], ◌∷◌, append-nil}
use lib.ListN.{length, take, drop, replicate, length-append, length-replicate}
use lib.Seq.{take_at}
use borrow.Author.Tests.{eq-eqb, ne_eqb}
use Rattle.wire.specs.Wire.{part, put, room, fit, placed, Wrote, Wrotes}
use Rattle.wire.proofs.Laws.{wrote_one, wrote_more}
use Rattle.fields.specs.Fields.{head_of, tlv}
use Rattle.fields.proofs.Laws.{tlv_plain, length_short}
use Rattle.text.specs.Text.{hex_of}
use Rattle.card.specs.Layout.{pin_size, image_size, image_room}
use Rattle.card.specs.Values.{fresh}
use Rattle.card.specs.Image.{encode}
use Rattle.sheet.specs.Sheet.{first_bad}
use Rattle.personalise.specs.Personalise.{sheet_codes, sheet_card}
use Rattle.personalise.proofs.Laws.{written, sheet_shape}
use Rattle.manual.specs.declared.Outcome.{Outcome}
use Rattle.manual.specs.Words.{response_room, draw_size}
use Rattle.manual.specs.Tags.{PIN1}
use Rattle.manual.specs.Settle.{holding, settle_call, settled_by, settled}
use Rattle.printing.specs.Printing.{feed, bad_parts}
use Rattle.firstanswer.specs.First.{first_request, first_settled, first_response, first_parts}

-- THE REQUEST: tag, length and code, and five bytes before them
module _ (pin : List ℕ) (h : length pin ≡ pin_size) where
  pub field_size : length (tlv PIN1 pin) ≡ 34
  field_size =
      let k : length pin ≤ 65535 = omega (arith, h) in
      ap length (tlv_plain PIN1 pin k) ∙ length-append (head_of PIN1 (length pin)) pin
      ∙ omega (arith, h, length_short PIN1 (length pin) (omega (arith, h)))

  pub request_size : length (first_request pin) ≡ 39
  unfolding first_request
  request_size = omega (arith, field_size)

  pub request_written :
      first_request pin
      ≡ fit (fit (replicate {A = ℕ} 39 0) 0 (0 ∷ 242 ∷ 0 ∷ 0 ∷ 34 ∷ [])) (placed (replicate {A = ℕ} 39 0) 0 (0 ∷ 242 ∷ 0 ∷ 0 ∷ 34 ∷ [])) (tlv PIN1 pin)
  unfolding first_request fit placed room put
  request_written = rw field_size (ap (λ v. 0 ∷ 242 ∷ 0 ∷ 0 ∷ 34 ∷ v) (sym (append-nil (tlv PIN1 pin))))

-- THE RESPONSE, from what settle promises
pub response_is :
    (m pin : List ℕ) {i q out next v : List ℕ} {r : Outcome} → i ≡ m → q ≡ first_request pin
    → settled_by r out next ≡ settled (holding i) (settle_call q (replicate draw_size 0) [] (replicate response_room 0) (replicate image_room 0))
    → v ≡ part out 0 r.length → v ≡ first_response m pin
unfolding first_response first_settled
response_is m pin h e s p =
    p ∙ ap (λ x. part x.response 0 x.result.length)
    (s ∙ λ j. settled (holding (h j)) (settle_call (e j) (replicate draw_size 0) [] (replicate response_room 0) (replicate image_room 0)))

pub response_line :
    {d v w d' d'' : List ℕ} {r r' : ℕ} → v ≡ w → Wrote d 0 (hex_of v) d' r → Wrote d' r feed d'' r' → Wrotes d 0 (hex_of w ∷ feed ∷ []) d'' r'
response_line {d} {d' = d'} {r = r} e x y = wrote_more (subst (λ (l : List ℕ). Wrote d 0 (hex_of l) d' r) e x) (wrote_one y)

-- an image at the front of its room
pub at_front : {v out : List ℕ} {r : ℕ} → Wrote (replicate image_room 0) 0 v out r → length v ≡ image_size → take image_size out ≡ v
at_front {v} w h =
    let zeros : List ℕ = replicate {A = ℕ} image_room 0 in
    ap (take image_size) (written w h (omega (arith, length-replicate {A = ℕ} image_room 0))) ∙ take_at v (drop image_size zeros) image_size h

module _ (s : List ℕ) where
  pub pin_size_lem : length (sheet_codes s).pin1 ≡ pin_size
  unfolding sheet_card fresh
  pin_size_lem = (sheet_shape s).codes.pin1

  -- THE LINE, by whether the sheet is good
  pub bad_line : (first_bad s ≡ 0 → ⊥) → bad_parts (first_bad s) ≡ first_parts s
  unfolding first_parts
  bad_line h = sym (rw (ne_eqb _ _ h))

  pub good_line_lem : first_bad s ≡ 0 → hex_of (first_response (encode (sheet_card s)) (sheet_codes s).pin1) ∷ feed ∷ [] ≡ first_parts s
  unfolding first_parts
  good_line_lem e = sym (rw (eq-eqb _ _ e))
