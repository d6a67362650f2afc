-- AN ACTIVATION WORKED OUT BY HAND, 02 Ask 1: what a card by post tells, asks and answers, to the byte. Assumes nothing.
use Rattle.std.specs.Prelude.{ℕ, ◌≡◌, refl, List, [], ◌∷◌, ◌++◌, true, length, take, replicate}
use Rattle.wire.specs.Wire.{part, put, fit, room, joined, alike, all_zero}
use Rattle.fields.specs.Fields.{rest_from, run_n, step_at, field_at, well_formed, view_of, has, val, holds, twice}
use Rattle.fields.specs.Fields.{Tagged, fld, head_of, tlv, each, written}
use Rattle.card.specs.declared.Card.{Card}
use Rattle.card.specs.Layout.{pin_size, cvc_size, signature_size, image_size, image_room}
use Rattle.card.specs.Values.{default_pin1, fresh, request_of}
use Rattle.card.specs.Image.{encode, enc_codes, enc_front, enc_held, enc_face, enc_fixed, enc_flags}
use Rattle.card.specs.Image.{enc_wallet, enc_key, enc_counters, enc_block, enc_issuer, enc_wait, enc_pending, enc_last, decode}
use Rattle.card.specs.Valid.{is_card, ok_face, ok_front, ok_held, ok_flags, ok_ranges, ok_state, ok_key, key_size, ok_block, ok_issuer, ok_pending, ok_last}
use Rattle.manual.specs.Words.{questions_room, response_room, draw_size}
use Rattle.manual.specs.Tags.{CID, PIN1, ActivationSignature, ResetPIN1}
use Rattle.manual.specs.Request.{lc_of, ins_of}
use Rattle.manual.specs.Row.{plain, allowed, shaped, asked, each_asked}
use Rattle.manual.specs.Wallet.{curve_name}
use Rattle.manual.specs.Delay.{is_held, pace_by}
use Rattle.manual.specs.Settle.{judged_by, sent_in, done, answered, said, pace_of, paced, holding, settle_call, Settled, lent, roomy, settled_of, settled}
use Rattle.manual.specs.Settle.{ask_call, Posed, asked_of, asked_for}

abbrev pub cid : List ℕ
cid = 0xAA ∷ 0x00 ∷ 0x00 ∷ 0x00 ∷ 0x00 ∷ 0x01 ∷ 0x66 ∷ 0x75 ∷ []

abbrev pub seed : List ℕ
seed =
    0x00 ∷ 0x11 ∷ 0x22 ∷ 0x33 ∷ 0x44 ∷ 0x55 ∷ 0x66 ∷ 0x77 ∷ 0x88 ∷ 0x99 ∷ 0xAA ∷ 0xBB ∷ 0xCC ∷ 0xDD ∷ 0xEE ∷ 0xFF
    ∷ []

-- a card of secp256k1, or, once it is activated, with the default PIN1
abbrev card : ℕ → List ℕ → Card
card active pin1 =
    fresh (record { cid = cid; cvc = replicate cvc_size 48; curve = 1; max = 100; seed = seed; pause = 0 })
    (record { reusable = 1; usecvc = 0; setpin1 = 0; setpin2 = 1; nopurge = 0; replay = 1; active = active })
    (record { pin1 = pin1; pin2 = replicate pin_size 2 })

abbrev posted : Card
posted = card 0 (replicate pin_size 1)

abbrev pub request : ℕ → List Tagged → List ℕ
request ins fs =
    let p : List ℕ = written (fld PIN1 (replicate pin_size 1) ∷ fld CID cid ∷ fs) in
    0 ∷ ins ∷ 0 ∷ 0 ∷ length p ∷ p

abbrev activation : List ℕ
activation = request 0xFE (fld ResetPIN1 (1 ∷ []) ∷ fld ActivationSignature (replicate signature_size 0x11) ∷ [])

abbrev pub draw : List ℕ
draw = replicate draw_size 0

abbrev asking : Posed
asking = asked_for (holding (encode posted)) (ask_call activation draw (replicate questions_room 0))

abbrev settling : List ℕ → List ℕ → Settled
settling q a = settled (holding (encode posted)) (settle_call q draw a (replicate response_room 0) (replicate image_room 0))

abbrev pub told : Settled → List ℕ
told x = take x.result.length x.response

abbrev pub left : Settled → Card
left x = decode (take image_size x.next)

pub by_hand :
    (is_card (encode posted) ≡ true)
    -- READ_CARD before: CID, Status 1, not activated, the seed, 9000
    × (told (settling (request 0xF2 []) []) ≡ 0x01 ∷ 0x08 ∷ (cid ++ (0x02 ∷ 0x01 ∷ 0x01 ∷ 0x3A ∷ 0x01 ∷ 0x00 ∷ 0x3B ∷ 0x10 ∷ (seed ++ (0x90 ∷ 0x00 ∷ [])))))
    -- the question: kind 6, wallet 0, secp256k1, 89 bytes
    × (take asking.result.length asking.questions
    ≡ 0x06 ∷ 0x00 ∷ 0x00 ∷ 0x01 ∷ 0x00 ∷ 0x59 ∷ (replicate signature_size 0x11 ++ (cid ++ (seed ++ (1 ∷ [])))))
    -- the issuer says no: 6286, and nothing has changed
    × (told (settling activation (0 ∷ [])) ≡ 0x62 ∷ 0x86 ∷ []) × (left (settling activation (0 ∷ [])) ≡ posted)
    -- it says yes: CID, Status 1, secp256k1, no hashes, 9000; activated, with the default PIN1
    × (told (settling activation (1 ∷ []))
    ≡ 0x01 ∷ 0x08 ∷ (cid
    ++ (0x02 ∷ 0x01 ∷ 0x01 ∷ 0x05 ∷ 0x09 ∷ 0x73 ∷ 0x65 ∷ 0x63 ∷ 0x70 ∷ 0x32 ∷ 0x35 ∷ 0x36 ∷ 0x6B ∷ 0x31
    ∷ 0x63 ∷ 0x04 ∷ 0x00 ∷ 0x00 ∷ 0x00 ∷ 0x00 ∷ 0x90 ∷ 0x00 ∷ [])))
    × (left (settling activation (1 ∷ [])) ≡ card 1 default_pin1)
unfolding rest_from run_n step_at field_at well_formed view_of sent_in judged_by has val holds twice part alike written each joined tlv head_of put fit room lc_of
    ins_of plain allowed said paced pace_of pace_by is_held request_of answered done shaped settled settled_of lent roomy asked each_asked asked_for asked_of curve_name fresh encode enc_codes enc_front
    enc_held enc_face enc_fixed enc_flags enc_wallet enc_key enc_counters enc_block enc_issuer enc_wait enc_pending enc_last decode is_card ok_face ok_front ok_held ok_flags ok_ranges ok_state
    ok_key key_size ok_block ok_issuer ok_pending ok_last all_zero
by_hand = (refl, refl, refl, refl, refl, refl, refl)
