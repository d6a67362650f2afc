-- THE BYTES THAT ARE PRINTED for a good sheet: 01, "The personalisation sheet", and F2 of "The commands". Assumes nothing.
use Rattle.std.specs.Prelude.{Some, Ok}
use Prim.Native.Nat.{ℕ, ◌≤◌}
use native.Mathlib.Omega.{arith}
use mathlib.Core.Path.{◌≡◌, refl, sym, ap, ◌∙◌}
use mathlib.Core.List.{List, [], ◌∷◌, ◌++◌, append-nil}
use mathlib.Core.Bool.{true, false}
use lib.ListN.{length, get_or, drop, replicate, length-append}
use lib.Seq.{take_at}
use Rattle.wire.specs.Wire.{part, joined, be2, alike}
use Rattle.wire.proofs.Laws.{part_plain, part_none, alike_self}
use Rattle.fields.specs.Fields.{View, head_of, tlv, well_formed, view_of, holds, twice, Tagged, fld, each, written}
use Rattle.fields.proofs.Trip.{well_formed_written, twice_written, holds_written}
use Rattle.text.specs.Text.{ascii, hex_digit, hex_of}
use Rattle.card.specs.declared.Face.{Face}
use Rattle.card.specs.declared.Card.{Card}
use Rattle.card.specs.Layout.{pin_size, held_room, image_room}
use Rattle.card.specs.Values.{request_of, no_pending, fresh}
use Rattle.card.specs.Image.{encode}
use Rattle.cards.proofs.Round.{decode_encode}
use Rattle.sheet.specs.Sheet.{first_bad}
use Rattle.personalise.specs.Personalise.{sheet_codes, sheet_fixed, sheet_flags, sheet_card}
use Rattle.personalise.proofs.Laws.{sheet_shape}
use Rattle.sheets_back.proofs.Good.{sheet_is_card}
use Rattle.manual.specs.declared.Command.TheVariants.{ReadCard}
use Rattle.manual.specs.declared.Pace.TheVariants.{Goes}
use Rattle.manual.specs.Words.{sw_process_completed, response_room, draw_size}
use Rattle.manual.specs.Tags.{PIN1}
use Rattle.manual.specs.Request.{code, lc_of, ins_of, payload}
use Rattle.manual.specs.Row.{Matched, shaped, plain, allowed}
use Rattle.manual.specs.Wallet.{read_card, curve_name}
use Rattle.manual.specs.Delay.{is_held, pace_by}
use Rattle.manual.specs.Settle.{sent_in, judged_by, judged, matched, Said, done, answered, said, pace_of, leaving, paced, paced_to}
use Rattle.manual.specs.Settle.{card_after, lent, settled_of, settled, roomy}
use Rattle.printing.specs.Printing.{feed}
use Rattle.firstbytes.specs.Bytes.{fresh_fields}
use Rattle.firstanswer.specs.First.{first_request, first_settled, first_response, first_line}
use Rattle.firstanswer.proofs.Laws.{field_size, request_size, pin_size_lem, good_line_lem}

-- CHECK 1: Lc is one byte, and the request ends at the payload's end
lc_is : (q : List ℕ) → length q ≡ 39 → get_or q 4 0 ≡ 34 → lc_of q ≡ Some 5
unfolding lc_of
lc_is q e f = rw (e, f)

-- CHECKS 2 to 12 of READ_CARD on a card that is Empty, from the bytes before the payload, its form, and its PIN1, once
passes :
    (q : List ℕ) (v : View) (m : Matched) (f : Face) → lc_of q ≡ Some 5 → get_or q 0 0 ≡ 0 → get_or q 1 0 ≡ code ReadCard → get_or q 2 0 ≡ 0 → get_or q 3 0 ≡ 0
    → twice PIN1 v ≡ false → m.pin1 ≡ true → f.front.wallet.status ≡ 1 → judged_by true v m f q ≡ Ok ReadCard
unfolding judged_by plain allowed ins_of
passes q v m f l a b c d o p s = rw (l, a, b, c, d, o, p, s)

module _ (pin : List ℕ) (h : length pin ≡ pin_size) where
  abbrev sent : List Tagged
  sent = fld PIN1 pin ∷ []

  fourth : get_or (first_request pin) 4 0 ≡ 34
  unfolding first_request
  fourth = field_size pin h

  lc : lc_of (first_request pin) ≡ Some 5
  lc = lc_is (first_request pin) (request_size pin h) fourth

  body_is : drop 5 (first_request pin) ≡ written sent
  unfolding first_request written each joined
  body_is = sym (append-nil (tlv PIN1 pin))

  payload_is : payload (first_request pin) ≡ written sent
  payload_is = rw lc body_is

  short : (length pin ≤ 65535) × Unit {0}
  short = (omega (arith, h), tt)

  formed : well_formed (payload (first_request pin)) ≡ true
  formed = ap well_formed payload_is ∙ well_formed_written sent short

  pin_once : twice PIN1 (sent_in (first_request pin)) ≡ false
  unfolding sent_in
  pin_once = ap (λ p. twice PIN1 (view_of p)) payload_is ∙ twice_written PIN1 sent short

  pin_held : holds PIN1 (sent_in (first_request pin)) pin ≡ true
  unfolding sent_in
  pin_held = ap (λ p. holds PIN1 (view_of p) pin) payload_is ∙ holds_written PIN1 sent short pin ∙ alike_self pin

  module _ (c : Card) (k : c.codes.pin1 ≡ pin) (e : c.face.front.wallet.status ≡ 1) (w : c.face.pending ≡ no_pending) (d : List ℕ) where
    abbrev q : List ℕ
    q = first_request pin

    verdict_is : judged (matched c.codes (sent_in q)) c.face q ≡ Ok ReadCard
    unfolding first_request
    verdict_is =
        ap (λ b. judged_by b (sent_in q) (matched c.codes (sent_in q)) c.face q) formed
        ∙ passes q (sent_in q) (matched c.codes (sent_in q)) c.face lc refl refl refl refl pin_once (ap (λ p. holds PIN1 (sent_in q) p) k ∙ pin_held) e

    -- 02 Ask 7: with nothing held and nothing counted READ_CARD, which needs no PIN2, does not wait
    none_held : is_held c.face q ≡ false
    unfolding is_held request_of alike first_request
    none_held = rw (w, part_none (replicate held_room 0) 0)

    goes : pace_of (matched c.codes (sent_in q)) c.face q ≡ Goes
    unfolding pace_of pace_by first_request ins_of
    goes = rw (verdict_is, none_held, w)

    paced_is : paced_to c q d [] ≡ leaving no_pending (done read_card (matched c.codes (sent_in q)) c.face (sent_in q) d [])
    unfolding paced said answered shaped
    paced_is = rw (goes, verdict_is)

-- WHAT SETTLE LEAVES of what is said with number 0: its length, and so many bytes at the front of the buffer
pub part_over : (v rest : List ℕ) → part (v ++ rest) 0 (length v) ≡ v
part_over v rest = part_plain (v ++ rest) 0 (length v) (omega (arith, length-append v rest)) ∙ take_at v rest (length v) refl

told : (z : Said) (c : Card) (out next : List ℕ) → z.number ≡ 0
    → part (lent z c out next).response 0 (lent z c out next).result.length ≡ z.response
unfolding lent
told z c out next e = rw e (part_over z.response (drop (length z.response) out))

-- THE RESPONSE for a good sheet, to the byte
module _ (s : List ℕ) where
  abbrev request : List ℕ
  request = first_request (sheet_codes s).pin1

  abbrev zeros : List ℕ
  zeros = replicate draw_size 0

  fresh_said :
      paced_to (sheet_card s) request zeros []
      ≡ leaving no_pending (done read_card (matched (sheet_card s).codes (sent_in request)) (sheet_card s).face (sent_in request) zeros [])
  unfolding sheet_card fresh
  fresh_said = paced_is (sheet_codes s).pin1 (pin_size_lem s) (sheet_card s) refl refl refl zeros

  fresh_number : (paced_to (sheet_card s) request zeros []).number ≡ 0
  unfolding done
  fresh_number = ap (λ (z : Said). z.number) fresh_said

  fresh_tells : (paced_to (sheet_card s) request zeros []).response ≡ written (fresh_fields s) ++ be2 sw_process_completed
  unfolding done sheet_card fresh
  fresh_tells = ap (λ (z : Said). z.response) fresh_said

  pub fresh_response : first_bad s ≡ 0 → first_response (encode (sheet_card s)) (sheet_codes s).pin1 ≡ written (fresh_fields s) ++ be2 sw_process_completed
  unfolding first_response first_settled settled settled_of roomy
  fresh_response e =
      let c : Card = sheet_card s in
      let z : Said = paced_to c request zeros [] in
      let t = told z (card_after z c.codes request) (replicate response_room 0) (replicate image_room 0) fresh_number in
      rw (sheet_is_card s e, decode_encode c (sheet_shape s)) (t ∙ fresh_tells)

  -- and the line
  pub fresh_line : first_bad s ≡ 0 → first_line s ≡ hex_of (written (fresh_fields s) ++ be2 sw_process_completed) ++ feed
  unfolding first_line joined
  fresh_line e = ap joined (sym (good_line_lem s e)) ∙ ap (λ v. hex_of v ++ feed) (fresh_response e)

  -- 01's EXAMPLE: "For cid AA00000000016675, curve secp256k1, active 1 it prints exactly", whatever the other lines say
  pub example :
      first_bad s ≡ 0 → (sheet_fixed s).cid ≡ 0xAA ∷ 0x00 ∷ 0x00 ∷ 0x00 ∷ 0x00 ∷ 0x01 ∷ 0x66 ∷ 0x75 ∷ [] → (sheet_fixed s).curve ≡ 1 → (sheet_flags s).active ≡ 1
      → first_line s ≡ ascii "0108AA000000000166750201010509736563703235366B316304000000009000" ++ feed
  unfolding written each joined tlv head_of curve_name hex_of hex_digit
  example e cid curve active = fresh_line e ∙ rw (cid, curve, active)
