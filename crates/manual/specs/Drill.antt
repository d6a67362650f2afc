-- The drill sheet, 01 "Drill sheet", all twelve rows as one table of the definitions. Assumes nothing.
use Rattle.std.specs.Prelude.{ℕ, ◌≡◌, refl, List, [], ◌∷◌, ◌++◌, true, false, length, take, replicate}
use Rattle.wire.specs.Wire.{part, put, fit, room, joined, alike, all_zero, be2, be4}
use Rattle.fields.specs.Fields.{ended, one, rest_from, run_n, step_at, field_at, well_formed, view_of, has, val, holds, twice}
use Rattle.fields.specs.Fields.{Tagged, fld, head_of, tlv, each, written}
use Rattle.fields.specs.Drill.{item}
use Rattle.card.specs.declared.Flags.{Flags}
use Rattle.card.specs.declared.Codes.{Codes}
use Rattle.card.specs.declared.Face.{Face}
use Rattle.card.specs.declared.Card.{Card}
use Rattle.card.specs.Layout.{pin_size, cid_size, cvc_size, seed_size, signature_size, image_size, image_room}
use Rattle.card.specs.Values.{held_key, no_block, no_pending, no_last, block_of, request_of}
use Rattle.card.specs.Image.{encode, enc_codes, enc_front, enc_held, enc_face, enc_fixed, enc_flags}
use Rattle.card.specs.Image.{enc_wallet, enc_key, enc_counters, enc_block, enc_issuer, enc_wait, enc_pending, enc_last, decode}
use Rattle.card.specs.Valid.{is_card, ok_face, ok_front, ok_held, ok_flags, ok_ranges, ok_state, ok_key, key_size, ok_block, ok_issuer, ok_pending, ok_last}
use Rattle.manual.specs.Words.{response_room}
use Rattle.manual.specs.Tags.{CID, PIN1, PIN2, IssuerData, IssuerDataSignature, IssuerDataCounter, TransactionHash, TransactionHashSize}
use Rattle.manual.specs.Row.{Matched, stop}
use Rattle.manual.specs.Request.{lc_of, ins_of}
use Rattle.manual.specs.Row.{plain, allowed, shaped}
use Rattle.manual.specs.Wallet.{hash_questions}
use Rattle.manual.specs.Delay.{is_held, pace_by}
use Rattle.manual.specs.Settle.{judged, judged_by, sent_in, done, answered, said, pace_of, paced, holding, settle_call, Settled, lent, roomy, settled_of, settled}

-- A CARD to drill on: Loaded, with replay protection, wallet number 1
abbrev cid0 : List ℕ
cid0 = replicate cid_size 7

abbrev codes0 : Codes
codes0 = record { pin1 = replicate pin_size 1; pin2 = replicate pin_size 2 }

abbrev flags0 : Flags
flags0 = record { reusable = 1; usecvc = 0; setpin1 = 1; setpin2 = 1; nopurge = 0; replay = 1; active = 1 }

-- both user counters stand at `counted`, the stored counter at `stored`
abbrev card0 : ℕ → ℕ → ℕ → ℕ → Card
card0 remaining signed counted stored =
    record {
      face = record {
        front = record {
          fixed = record { cid = cid0; cvc = replicate cvc_size 48; curve = 1; max = 100; seed = replicate seed_size 0; pause = 0 };
          flags = flags0;
          wallet = record { status = 2; number = 1; remaining = remaining; signed = signed };
          key = held_key (4 ∷ replicate 64 8);
          counters = record { checks = 0; validations = 0; user = counted; protected = counted };
        };
        held = record {
          user = no_block;
          protected = no_block;
          issuer = record { block = no_block; signature = replicate signature_size 0; counter = stored };
        };
        pending = no_pending;
        last = no_last;
      };
      codes = codes0;
    }

-- a request under its codes
abbrev request : ℕ → List Tagged → List ℕ
request ins fs =
    let p : List ℕ = written (fld PIN1 codes0.pin1 ∷ fld CID cid0 ∷ fld PIN2 codes0.pin2 ∷ fs) in
    0 ∷ ins ∷ 0 ∷ 0 ∷ 0 ∷ (be2 (length p) ++ p)

-- a note with a counter, and a SIGN over n hashes
abbrev note : ℕ → List ℕ
note n = request 0xF6 (fld IssuerData (0x4F ∷ 0x4B ∷ []) ∷ fld IssuerDataSignature (replicate signature_size 9) ∷ fld IssuerDataCounter (be4 n) ∷ [])

abbrev signing : ℕ → List ℕ
signing size = request 0xFB (fld TransactionHash (replicate size 3) ∷ fld TransactionHashSize (32 ∷ []) ∷ [])

abbrev draw0 : List ℕ
draw0 = replicate 32 0

-- what settle leaves of the card's image, and the card that the next image is
abbrev settling : Card → List ℕ → List ℕ → Settled
settling c q a = settled (holding (encode c)) (settle_call q draw0 a (replicate response_room 0) (replicate image_room 0))

abbrev next : Settled → Card
next x = decode (take image_size x.next)

-- a note and its answer, and a SIGN over five hashes
abbrev noted : Settled
noted = settling (card0 5 0 0 9) (note 10) (1 ∷ [])

abbrev five : ℕ → ℕ → ℕ → Settled
five remaining signed counted = settling (card0 remaining signed counted 0) (signing 160) (replicate 320 5)

pub drill :
    -- (1) `1000` is a field of length 0
    (rest_from (0x10 ∷ 0x00 ∷ []) 0 ≡ one (item 0x10 2 0 2) ended)
    -- (2) `10FF0000` the same
    × (rest_from (0x10 ∷ 0xFF ∷ 0x00 ∷ 0x00 ∷ []) 0 ≡ one (item 0x10 4 0 4) ended)
    -- (3) `10FF` malformed
    × (well_formed (0x10 ∷ 0xFF ∷ []) ≡ false)
    -- (4) the empty payload has no field
    × (rest_from [] 0 ≡ ended)
    -- (5) a request of 5 bytes ending in Lc 00: 6700
    × ((m : Matched) (f : Face) → judged m f (0x00 ∷ 0xF2 ∷ 0x00 ∷ 0x00 ∷ 0x00 ∷ []) ≡ stop 1 0x6700)
    -- (6) the lowest wrong of CLA 80 and INS 00: 6E00
    × ((m : Matched) (f : Face) → judged m f (0x80 ∷ 0x00 ∷ 0x00 ∷ 0x00 ∷ 0x02 ∷ 0x10 ∷ 0x00 ∷ []) ≡ stop 2 0x6E00)
    -- (7) P1 01 with P2 02: 6982
    × ((m : Matched) (f : Face) → judged m f (0x00 ∷ 0xF2 ∷ 0x01 ∷ 0x02 ∷ 0x02 ∷ 0x10 ∷ 0x00 ∷ []) ≡ stop 4 0x6982)
    -- the rest on a card, by its image
    × (is_card (encode (card0 5 0 0 9)) ≡ true)
    -- (8) protected, stored counter 9, sent 9: 6985
    × ((settling (card0 5 0 0 9) (note 9) (1 ∷ [])).result.word ≡ 0x6985)
    -- (9) the same, sent 10, answer 1: stored, with its signature
    × (noted.result.word ≡ 0x9000) × ((next noted).face.held.issuer.counter ≡ 10)
    × (block_of (next noted).face.held.issuer.block ≡ 0x4F ∷ 0x4B ∷ []) × ((next noted).face.held.issuer.signature ≡ replicate signature_size 9)
    -- (10) five hashes at Remaining 1: Remaining 0, Signed_Hashes up 5
    × ((five 1 20 0).result.word ≡ 0x9000) × ((next (five 1 20 0)).face.front.wallet.remaining ≡ 0)
    × ((next (five 1 20 0)).face.front.wallet.signed ≡ 25)
    -- (11) six at Signed_Hashes 4,294,967,290: 6985; five: done
    × ((settling (card0 5 4294967290 0 0) (signing 192) (replicate 384 5)).result.word ≡ 0x6985)
    × ((five 5 4294967290 0).result.word ≡ 0x9000) × ((next (five 5 4294967290 0)).face.front.wallet.signed ≡ 4294967295)
    -- (12) user counters at 4,294,967,295 after a SIGN: 0
    × ((next (five 5 0 4294967295)).face.front.counters.user ≡ 0) × ((next (five 5 0 4294967295)).face.front.counters.protected ≡ 0)
unfolding rest_from run_n step_at field_at well_formed view_of sent_in judged_by has val holds twice part alike written each joined tlv head_of put fit room block_of lc_of
    ins_of plain allowed said paced pace_of pace_by is_held request_of answered done shaped hash_questions settled settled_of lent roomy encode enc_codes enc_front enc_held enc_face enc_fixed enc_flags
    enc_wallet enc_key enc_counters enc_block enc_issuer enc_wait enc_pending enc_last decode is_card ok_face ok_front ok_held ok_flags ok_ranges ok_state ok_key key_size ok_block ok_issuer
    ok_pending ok_last all_zero
drill =
    (refl, refl, refl, refl, (λ m f. refl), (λ m f. refl), (λ m f. refl), refl, refl, refl, refl, refl, refl, refl, refl, refl, refl, refl, refl, refl, refl)
