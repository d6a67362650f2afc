-- A sheet, calls under it, and a story that they tell: what demand 3 speaks of, computed. Assumes nothing.
use Prim.Native.Nat.{ℕ, ◌*◌}
use mathlib.Core.Path.{◌≡◌, refl}
use mathlib.Core.List.{List, [], ◌∷◌, ◌++◌}
use mathlib.Core.Bool.{true}
use lib.ListN.{length, replicate}
use Rattle.wire.specs.Wire.{be2, be4, joined, part, put, room, fit, placed, alike, all_zero}
use Rattle.fields.specs.Fields.{Tagged, fld, written, each, tlv, head_of, well_formed, rest_from, run_n, step_at, field_at, view_of, has, val, holds, twice}
use Rattle.card.specs.declared.Codes.{Codes}
use Rattle.card.specs.declared.Card.{Card}
use Rattle.card.specs.Layout.{pin_size, cid_size, cvc_size, seed_size, signature_size, image_room}
use Rattle.card.specs.Image.{encode, enc_codes, enc_fixed, enc_flags, enc_wallet, enc_key, enc_counters, enc_block, enc_issuer, enc_wait, enc_pending, enc_last}
use Rattle.card.specs.Image.{enc_front, enc_held, enc_face, decode}
use Rattle.card.specs.Valid.{is_card, ok_face, ok_front, ok_held, ok_flags, ok_ranges, ok_state, ok_key, key_size, ok_block, ok_issuer, ok_pending, ok_last}
use Rattle.card.specs.Values.{default_pin1, fresh, key_of, block_of, request_of, last_of}
use Rattle.manual.specs.Words.{questions_room, response_room, draw_size, hash_size}
use Rattle.manual.specs.Tags.{CID, PIN1, PIN2, Challenge, ActivationSignature, ResetPIN1}
use Rattle.manual.specs.Tags.{IssuerData, IssuerDataSignature, IssuerDataCounter, TransactionHash, TransactionHashSize}
use Rattle.manual.specs.declared.Command.{Command}
use Rattle.manual.specs.declared.Command.TheVariants.{ReadCard, CreateWallet, Sign, VerifyCard, PurgeWallet, WriteIssuerData, ActivateCard}
use Rattle.manual.specs.Request.{code, lc_of, ins_of}
use Rattle.manual.specs.Row.{plain, allowed, shaped, asked, each_asked}
use Rattle.manual.specs.Wallet.{curve_name, hash_questions}
use Rattle.manual.specs.Checking.{salt_size}
use Rattle.manual.specs.Delay.{pace_by, is_held}
use Rattle.manual.specs.Settle.{State, holding, Call, sent_in, judged_by, said, pace_of, paced, done, answered, lent, settled_of, settled, Settled, roomy}
use Rattle.manual.specs.Settle.{asked_of, asked_for}
use Rattle.story.specs.Sums.{Sheet, History, accepted, active, codes, made, total, wallets, status, ever_purged}
use Rattle.history.specs.Demands.{AnyCard, given, taps_of, left, played, Fresh}
use Rattle.history.proofs.Images.{model}

-- a call as it runs: to unfold this is to unfold all that a call computes with
unfoldable pub run : AnyCard → State → Call → Settled
unfolding settled settled_of lent paced pace_of pace_by is_held said judged_by sent_in view_of answered done roomy asked_for asked_of asked each_asked accepted
    lc_of ins_of plain allowed shaped well_formed holds has val twice rest_from run_n step_at field_at written each joined tlv head_of part put room fit placed
    alike all_zero fresh key_of block_of request_of last_of curve_name hash_questions encode enc_codes enc_front enc_held enc_face enc_fixed enc_flags enc_wallet
    enc_key enc_counters enc_block enc_issuer enc_wait enc_pending enc_last decode is_card ok_face ok_front ok_held ok_flags ok_ranges ok_state ok_key key_size ok_block
    ok_issuer ok_pending ok_last
run f m i = f.taps.settle m i

-- THE SHEET, of a card that is reusable or not, activated or not: no CVC, PIN1 may not change, five signatures, replay protection
abbrev sheet_of : ℕ → ℕ → Sheet
sheet_of reusable active =
    record {
      fixed = record { cid = replicate cid_size 7; cvc = replicate cvc_size 48; curve = 1; max = 5; seed = replicate seed_size 2; pause = 0 };
      flags = record { reusable = reusable; usecvc = 0; setpin1 = 0; setpin2 = 1; nopurge = 0; replay = 1; active = active };
      codes = record { pin1 = replicate pin_size 1; pin2 = replicate pin_size 2 };
    }

abbrev image_of : Sheet → List ℕ
image_of sh = encode (fresh sh.fixed sh.flags sh.codes)

-- reusable and activated
abbrev pub sheet0 : Sheet
sheet0 = sheet_of 1 1

abbrev pub image0 : List ℕ
image0 = image_of sheet0

pub fresh0 : Fresh sheet0 image0
unfolding run
fresh0 = record { card = refl; spells = refl }

-- not reusable
abbrev pub sheet1 : Sheet
sheet1 = sheet_of 0 1

abbrev pub image1 : List ℕ
image1 = image_of sheet1

pub fresh1 : Fresh sheet1 image1
unfolding run
fresh1 = record { card = refl; spells = refl }

-- not activated, as a card goes by post
abbrev pub sheet2 : Sheet
sheet2 = sheet_of 1 0

abbrev pub image2 : List ℕ
image2 = image_of sheet2

pub fresh2 : Fresh sheet2 image2
unfolding run
fresh2 = record { card = refl; spells = refl }

-- CALLS, under these codes or others
abbrev pub codes1 : Codes
codes1 = record { pin1 = replicate pin_size 3; pin2 = replicate pin_size 4 }

abbrev pub request : Codes → Command → List Tagged → List ℕ
request x k fs =
    let p : List ℕ = written (fld PIN1 x.pin1 ∷ fld CID sheet0.fixed.cid ∷ fld PIN2 x.pin2 ∷ fs) in
    0 ∷ code k ∷ 0 ∷ 0 ∷ 0 ∷ (be2 (length p) ++ p)

abbrev pub call : List ℕ → List ℕ → Call
call q a =
    record {
      request = q;
      draw = replicate draw_size 0;
      answers = a;
      buffers = record { page = replicate questions_room 0; out = replicate response_room 0; next = replicate image_room 0 };
    }

abbrev pub ask0 : Command → List Tagged → List ℕ → Call
ask0 k fs a = call (request sheet0.codes k fs) a

abbrev pub reads : Call
reads = ask0 ReadCard [] []

abbrev pub creates : Call
creates = ask0 CreateWallet [] (4 ∷ replicate 64 9)

-- so many hashes, made of one byte
abbrev pub hashes : ℕ → ℕ → List Tagged
hashes n x = fld TransactionHash (replicate (n * hash_size) x) ∷ fld TransactionHashSize (hash_size ∷ []) ∷ []

-- SIGN over them; the provider makes the signature of a hash of that byte, always the same
abbrev pub signs : ℕ → ℕ → Call
signs n x = ask0 Sign (hashes n x) (replicate (n * signature_size) x)

abbrev pub repeats : Call
repeats = ask0 Sign [] []

abbrev pub purges : Call
purges = ask0 PurgeWallet [] []

abbrev pub verifies : Call
verifies = ask0 VerifyCard (fld Challenge (replicate salt_size 4) ∷ []) (replicate signature_size 5)

-- a note with this counter, which the issuer's key confirms
abbrev pub notes : ℕ → Call
notes n =
    ask0 WriteIssuerData
    (fld IssuerData (replicate 3 8) ∷ fld IssuerDataSignature (replicate signature_size 6) ∷ fld IssuerDataCounter (be4 n) ∷ [])
    (1 ∷ [])

-- an activation with this Reset_PIN1, and the issuer's word on it
abbrev pub wakes : ℕ → ℕ → Call
wakes reset word = ask0 ActivateCard (fld ResetPIN1 (reset ∷ []) ∷ fld ActivationSignature (replicate signature_size 3) ∷ []) (word ∷ [])

-- A STORY: a wallet made, a READ_CARD with a stray answer (number 4), five hashes signed, the same again, a purge, a second wallet
abbrev pub story : List Call
story = creates ∷ ask0 ReadCard [] (1 ∷ []) ∷ signs 5 5 ∷ repeats ∷ purges ∷ creates ∷ []

abbrev lived : History
lived = played model (holding image0) [] (taps_of story)

-- up to the purge, without the stray answer
abbrev signed : History
signed = played model (holding image0) [] (taps_of (creates ∷ signs 5 5 ∷ repeats ∷ []))

abbrev ended : Card
ended = decode (left model (holding image0) (taps_of story)).image

pub examples :
    (length lived ≡ 6)
    × (made lived ≡ 0)
    × (total lived ≡ 5)
    × (wallets lived ≡ 2)
    × (status sheet0 lived ≡ 2)
    × (ever_purged lived ≡ true)
    × (given signed ≡ replicate 320 5)
    × (given lived ≡ [])
    × (ended.face.front.wallet.remaining ≡ 5)
    × (ended.face.front.wallet.signed ≡ 5)
unfolding run
examples = (refl, refl, refl, refl, refl, refl, refl, refl, refl, refl)

-- ANOTHER: a card by post, asked for a wallet too early, its activation refused by the issuer, then confirmed with PIN1 reset; and the same with PIN1 kept
abbrev posted : ℕ → List Call
posted reset = creates ∷ wakes reset 0 ∷ wakes reset 1 ∷ []

abbrev woken : ℕ → History
woken reset = played model (holding image2) [] (taps_of (posted reset))

pub wakings :
    (length (woken 1) ≡ 3)
    × (active sheet2 (woken 1) ≡ 1)
    × (wallets (woken 1) ≡ 0)
    × ((codes sheet2 (woken 1)).pin1 ≡ default_pin1)
    × ((codes sheet2 (woken 1)).pin2 ≡ sheet2.codes.pin2)
    × (codes sheet2 (woken 0) ≡ sheet2.codes)
    × (active sheet2 (played model (holding image2) [] (taps_of (creates ∷ wakes 1 0 ∷ []))) ≡ 0)
unfolding run
wakings = (refl, refl, refl, refl, refl, refl, refl)
