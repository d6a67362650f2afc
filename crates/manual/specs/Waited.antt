-- A WAIT WORKED OUT BY HAND, 02 Ask 7, to the byte: a pause of 3 seconds, a wrong PIN2, the default one, number 4, a power-off. Assumes nothing.
use Rattle.std.specs.Prelude.{ℕ, ◌≡◌, refl, List, [], ◌∷◌, length, take, replicate}
use Rattle.wire.specs.Wire.{part, put, fit, room, joined, alike, all_zero}
use Rattle.fields.specs.Fields.{rest_from, run_n, step_at, field_at, well_formed, view_of, has, val, holds, twice}
use Rattle.fields.specs.Fields.{fld, head_of, tlv, each, written}
use Rattle.card.specs.declared.Card.{Card}
use Rattle.card.specs.declared.Wait.{Wait}
use Rattle.card.specs.Layout.{pin_size, cvc_size, image_size, image_room}
use Rattle.card.specs.Values.{default_pin2, no_wait, fresh, request_of}
use Rattle.card.specs.Image.{encode, enc_codes, enc_front, enc_held, enc_face, enc_fixed, enc_flags}
use Rattle.card.specs.Image.{enc_wallet, enc_key, enc_counters, enc_block, enc_issuer, enc_wait, enc_pending, enc_last, decode}
use Rattle.card.specs.Valid.{is_card, ok_face, ok_front, ok_held, ok_flags, ok_ranges, ok_state, ok_key, key_size, ok_block, ok_issuer, ok_pending, ok_last}
use Rattle.manual.specs.Words.{questions_room, response_room}
use Rattle.manual.specs.Tags.{PIN2}
use Rattle.manual.specs.Request.{lc_of, ins_of}
use Rattle.manual.specs.Row.{plain, allowed, shaped, asked, each_asked}
use Rattle.manual.specs.Wallet.{curve_name}
use Rattle.manual.specs.Delay.{is_held, pace_by}
use Rattle.manual.specs.Settle.{judged_by, sent_in, done, answered, said, pace_of, paced, holding, settle_call, Settled, outcome, lent, roomy, settled_of, settled}
use Rattle.manual.specs.Settle.{ask_call, asked_of, asked_for, powered_off}
use Rattle.manual.specs.ByHand.{cid, seed, request, draw, told}

abbrev card : Card
card =
    fresh (record { cid = cid; cvc = replicate cvc_size 48; curve = 1; max = 100; seed = seed; pause = 3 })
    (record { reusable = 1; usecvc = 0; setpin1 = 0; setpin2 = 1; nopurge = 0; replay = 1; active = 1 })
    (record { pin1 = replicate pin_size 1; pin2 = replicate pin_size 2 })

-- CREATE_WALLET with this PIN2, and READ_CARD
abbrev creating : List ℕ → List ℕ
creating pin2 = request 0xF8 (fld PIN2 pin2 ∷ [])

abbrev reading : List ℕ
reading = request 0xF2 []

-- sent to the card of an image, with these answers
abbrev sent : List ℕ → List ℕ → List ℕ → Settled
sent m q a = settled (holding m) (settle_call q draw a (replicate response_room 0) (replicate image_room 0))

abbrev after : Settled → List ℕ
after x = take image_size x.next

abbrev first : Settled
first = sent (encode card) (creating (replicate pin_size 2)) []

abbrev second : Settled
second = sent (after first) (creating (replicate pin_size 2)) []

abbrev third : Settled
third = sent (after second) (creating (replicate pin_size 2)) []

abbrev fourth : List ℕ → Settled
fourth a = sent (after third) (creating (replicate pin_size 2)) a

-- another PIN2
abbrev wrong : List ℕ → Settled
wrong pin2 = sent (encode card) (creating pin2) []

abbrev wait_left : List ℕ → Wait
wait_left m = (decode m).face.pending.wait

pub waited :
    (length (creating (replicate pin_size 2)) ≡ 83)
    -- three seconds: 300, 200 and 100 units of 10 ms
    × (first.result ≡ outcome 0 0 0x9789 6) × (told first ≡ 0x1C ∷ 0x02 ∷ 0x01 ∷ 0x2C ∷ 0x97 ∷ 0x89 ∷ [])
    × (wait_left (after first) ≡ record { wrong = 0; left = 3; size = 83 })
    × (told second ≡ 0x1C ∷ 0x02 ∷ 0x00 ∷ 0xC8 ∷ 0x97 ∷ 0x89 ∷ []) × (told third ≡ 0x1C ∷ 0x02 ∷ 0x00 ∷ 0x64 ∷ 0x97 ∷ 0x89 ∷ [])
    -- ask says 9789 and asks nothing; after the third sending it asks for the key
    × ((asked_for (holding (encode card)) (ask_call (creating (replicate pin_size 2)) draw (replicate questions_room 0))).result ≡ outcome 0 0 0x9789 0)
    × ((asked_for (holding (after third)) (ask_call (creating (replicate pin_size 2)) draw (replicate questions_room 0))).result ≡ outcome 0 0 0x9000 6)
    -- the fourth goes on, unless its answers have another shape, and nothing is held then
    × ((fourth (4 ∷ replicate 64 9)).result.word ≡ 0x9000) × (wait_left (after (fourth (4 ∷ replicate 64 9))) ≡ no_wait)
    × ((fourth []).result ≡ outcome 4 0 0 0)
    -- a READ_CARD in between needs no PIN2, goes on, and the request is dropped
    × ((sent (after first) reading []).result.word ≡ 0x9000) × (wait_left (after (sent (after first) reading [])) ≡ no_wait)
    -- a wrong PIN2 counts, the default one does not; after it even READ_CARD waits a second
    × ((wrong (replicate pin_size 5)).result ≡ outcome 0 10 0x6A86 2) × (wait_left (after (wrong (replicate pin_size 5))) ≡ record { wrong = 1; left = 0; size = 0 })
    × ((wrong default_pin2).result ≡ outcome 0 10 0x6A86 2) × (wait_left (after (wrong default_pin2)) ≡ no_wait)
    × (told (sent (after (wrong (replicate pin_size 5))) reading []) ≡ 0x1C ∷ 0x02 ∷ 0x00 ∷ 0x64 ∷ 0x97 ∷ 0x89 ∷ [])
    -- a power-off drops the request that waits, and keeps the count
    × (wait_left (take image_size (powered_off (holding (after first)) (replicate image_room 0)).next) ≡ no_wait)
    × (wait_left (take image_size (powered_off (holding (after (wrong (replicate pin_size 5)))) (replicate image_room 0)).next) ≡ record { wrong = 1; left = 0; size = 0 })
unfolding rest_from run_n step_at field_at well_formed view_of sent_in judged_by has val holds twice part alike written each joined tlv head_of put fit room lc_of
    ins_of plain allowed said paced pace_of pace_by is_held request_of answered done shaped settled settled_of lent roomy powered_off asked each_asked asked_for asked_of curve_name fresh encode enc_codes enc_front
    enc_held enc_face enc_fixed enc_flags enc_wallet enc_key enc_counters enc_block enc_issuer enc_wait enc_pending enc_last decode is_card ok_face ok_front ok_held ok_flags ok_ranges ok_state
    ok_key key_size ok_block ok_issuer ok_pending ok_last all_zero
waited = (refl, refl, refl, refl, refl, refl, refl, refl, refl, refl, refl, refl, refl, refl, refl, refl, refl, refl, refl, refl)
