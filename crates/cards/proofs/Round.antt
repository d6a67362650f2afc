-- ROUND TRIPS: an image spells its card, and bytes as many as an image has are the image of the card that they spell. Assumes nothing.
use mathlib.Core.Path.{◌≡◌, refl, sym, ap, ◌∙◌}
use mathlib.Core.Bool.{true}
use mathlib.Core.List.{List, ◌++◌, append_assoc, append-nil}
use Prim.Native.Nat.{ℕ, ◌+◌, ◌-◌, ◌≤◌}
use native.Mathlib.Omega.{arith}
use lib.ListN.{length, take, drop, get_or}
use lib.Dec.{lit<, lit≤, eqb}
use borrow.Author.Tests.{eq-eqb, eqb-true}
use Rattle.wire.specs.Wire.{part, num16, num32, be1, be2, be4, Bytes}
use Rattle.wire.proofs.Laws.{length_part, part_plain, both_true}
use Rattle.wire.proofs.Parts.{peel, peel8, peel16, peel32, beside, whole_part, part8, part16, part32}
use Rattle.card.specs.declared.Codes.{Codes}
use Rattle.card.specs.declared.Fixed.{Fixed}
use Rattle.card.specs.declared.Flags.{Flags}
use Rattle.card.specs.declared.Wallet.{Wallet}
use Rattle.card.specs.declared.Key.{Key}
use Rattle.card.specs.declared.Counters.{Counters}
use Rattle.card.specs.declared.Block.{Block}
use Rattle.card.specs.declared.Issuer.{Issuer}
use Rattle.card.specs.declared.Wait.{Wait}
use Rattle.card.specs.declared.Pending.{Pending}
use Rattle.card.specs.declared.Last.{Last}
use Rattle.card.specs.declared.Front.{Front}
use Rattle.card.specs.declared.Held.{Held}
use Rattle.card.specs.declared.Face.{Face}
use Rattle.card.specs.declared.Card.{Card}
use Rattle.card.specs.Layout.{pin_size, cid_size, cvc_size, seed_size, key_room, data_room, signature_size, held_room, last_room}
use Rattle.card.specs.Layout.{codes_width, fixed_width, flags_width, wallet_width, key_width, counters_width, block_width, issuer_width, pending_width, last_width}
use Rattle.card.specs.Layout.{codes_at, fixed_at, pause_at, flags_at, wallet_at, key_at, counters_at, user_at, protected_at, issuer_at, pending_at, last_at, image_size}
use Rattle.card.specs.Image.{enc_codes, enc_fixed, enc_flags, enc_wallet, enc_key, enc_counters, enc_block, enc_issuer, enc_wait, enc_pending, enc_last}
use Rattle.card.specs.Image.{enc_front, enc_held, enc_face, encode}
use Rattle.card.specs.Image.{dec_codes, dec_fixed, dec_flags, dec_wallet, dec_key, dec_counters, dec_block, dec_issuer, dec_wait, dec_pending, dec_last}
use Rattle.card.specs.Image.{dec_front, dec_held, dec_face, decode}
use Rattle.card.specs.Valid.{ok_face, is_card}
use Rattle.card.specs.Shape.{ShapeCodes, ShapeFixed, ShapeIssuer, ShapeFront, ShapeHeld, ShapeFace, Shape}
use Rattle.cards.proofs.Shape.{length_encode}

-- READING BACK: where a group's bytes stand at its place, the group is what is read there, and what follows stands at the next place
module _ (l : List ℕ) where
  codes : (x : Codes) (s : ShapeCodes x) (rest : List ℕ) → drop codes_at l ≡ enc_codes x ++ rest → (dec_codes l ≡ x) × (drop fixed_at l ≡ rest)
  unfolding enc_codes
  codes x s rest e =
      let p1 = peel l codes_at pin_size x.pin1 _ (simp append_assoc at e) s.pin1 (lit< tt) in
      let p2 = peel l (codes_at + pin_size) pin_size x.pin2 _ p1.1 s.pin2 (lit< tt) in
      (λ i. record { pin1 = p1.0 i; pin2 = p2.0 i }, p2.1)

  fixed : (x : Fixed) (s : ShapeFixed x) (rest : List ℕ) → drop fixed_at l ≡ enc_fixed x ++ rest → (dec_fixed l ≡ x) × (drop flags_at l ≡ rest)
  unfolding enc_fixed
  fixed x s rest e =
      let p1 = peel l fixed_at cid_size x.cid _ (simp append_assoc at e) s.cid (lit< tt) in
      let p2 = peel l (fixed_at + 8) cvc_size x.cvc _ p1.1 s.cvc (lit< tt) in
      let p3 = peel8 l (fixed_at + 11) x.curve _ p2.1 in
      let p4 = peel32 l (fixed_at + 12) x.max _ p3.1 in
      let p5 = peel l (fixed_at + 16) seed_size x.seed _ p4.1 s.seed (lit< tt) in
      let p6 = peel8 l pause_at x.pause _ p5.1 in
      (λ i. record { cid = p1.0 i; cvc = p2.0 i; curve = p3.0 i; max = p4.0 i; seed = p5.0 i; pause = p6.0 i }, p6.1)

  flags : (x : Flags) (rest : List ℕ) → drop flags_at l ≡ enc_flags x ++ rest → (dec_flags l ≡ x) × (drop wallet_at l ≡ rest)
  unfolding enc_flags
  flags x rest e =
      let p1 = peel8 l flags_at x.reusable _ e in
      let p2 = peel8 l (flags_at + 1) x.usecvc _ p1.1 in
      let p3 = peel8 l (flags_at + 2) x.setpin1 _ p2.1 in
      let p4 = peel8 l (flags_at + 3) x.setpin2 _ p3.1 in
      let p5 = peel8 l (flags_at + 4) x.nopurge _ p4.1 in
      let p6 = peel8 l (flags_at + 5) x.replay _ p5.1 in
      let p7 = peel8 l (flags_at + 6) x.active _ p6.1 in (
        λ i.
            record {
              reusable = p1.0 i;
              usecvc = p2.0 i;
              setpin1 = p3.0 i;
              setpin2 = p4.0 i;
              nopurge = p5.0 i;
              replay = p6.0 i;
              active = p7.0 i;
            },
        p7.1,
      )

  wallet : (x : Wallet) (rest : List ℕ) → drop wallet_at l ≡ enc_wallet x ++ rest → (dec_wallet l ≡ x) × (drop key_at l ≡ rest)
  unfolding enc_wallet
  wallet x rest e =
      let p1 = peel8 l wallet_at x.status _ e in
      let p2 = peel16 l (wallet_at + 1) x.number _ p1.1 in
      let p3 = peel32 l (wallet_at + 3) x.remaining _ p2.1 in
      let p4 = peel32 l (wallet_at + 7) x.signed _ p3.1 in
      (λ i. record { status = p1.0 i; number = p2.0 i; remaining = p3.0 i; signed = p4.0 i }, p4.1)

  key : (x : Key) → length x.bytes ≡ key_room → (rest : List ℕ) → drop key_at l ≡ enc_key x ++ rest → (dec_key l ≡ x) × (drop counters_at l ≡ rest)
  unfolding enc_key
  key x s rest e =
      let p1 = peel8 l key_at x.size _ e in
      let p2 = peel l (key_at + 1) key_room x.bytes _ p1.1 s (lit< tt) in
      (λ i. record { size = p1.0 i; bytes = p2.0 i }, p2.1)

  counters : (x : Counters) (rest : List ℕ) → drop counters_at l ≡ enc_counters x ++ rest → (dec_counters l ≡ x) × (drop user_at l ≡ rest)
  unfolding enc_counters
  counters x rest e =
      let p1 = peel32 l counters_at x.checks _ e in
      let p2 = peel16 l (counters_at + 4) x.validations _ p1.1 in
      let p3 = peel32 l (counters_at + 6) x.user _ p2.1 in
      let p4 = peel32 l (counters_at + 10) x.protected _ p3.1 in
      (λ i. record { checks = p1.0 i; validations = p2.0 i; user = p3.0 i; protected = p4.0 i }, p4.1)

  block :
      (at : ℕ) (x : Block) → length x.bytes ≡ data_room → (rest : List ℕ) → drop at l ≡ enc_block x ++ rest
      → (dec_block at l ≡ x) × (drop (at + block_width) l ≡ rest)
  unfolding enc_block
  block at x s rest e =
      let p1 = peel16 l at x.size _ e in
      let p2 = peel l (at + 2) data_room x.bytes _ p1.1 s (lit< tt) in
      let z : at + block_width ≡ at + 2 + data_room = omega arith in
      (λ i. record { size = p1.0 i; bytes = p2.0 i }, ap (λ n. drop n l) z ∙ p2.1)

  issuer : (x : Issuer) → ShapeIssuer x → (rest : List ℕ) → drop issuer_at l ≡ enc_issuer x ++ rest → (dec_issuer l ≡ x) × (drop pending_at l ≡ rest)
  unfolding enc_issuer
  issuer x s rest e =
      let p1 = block issuer_at x.block s.block _ (simp append_assoc at e) in
      let p2 = peel l (issuer_at + block_width) signature_size x.signature _ p1.1 s.signature (lit< tt) in
      let p3 = peel32 l (issuer_at + block_width + signature_size) x.counter _ p2.1 in
      (λ i. record { block = p1.0 i; signature = p2.0 i; counter = p3.0 i }, p3.1)

  wait : (x : Wait) (rest : List ℕ) → drop pending_at l ≡ enc_wait x ++ rest → (dec_wait l ≡ x) × (drop (pending_at + 4) l ≡ rest)
  unfolding enc_wait
  wait x rest e =
      let p1 = peel8 l pending_at x.wrong _ e in
      let p2 = peel8 l (pending_at + 1) x.left _ p1.1 in
      let p3 = peel16 l (pending_at + 2) x.size _ p2.1 in
      (λ i. record { wrong = p1.0 i; left = p2.0 i; size = p3.0 i }, p3.1)

  pending :
      (x : Pending) → length x.request ≡ held_room → (rest : List ℕ) → drop pending_at l ≡ enc_pending x ++ rest
      → (dec_pending l ≡ x) × (drop last_at l ≡ rest)
  unfolding enc_pending
  pending x s rest e =
      let p1 = wait x.wait _ (simp append_assoc at e) in
      let p2 = peel l (pending_at + 4) held_room x.request _ p1.1 s (lit< tt) in
      (λ i. record { wait = p1.0 i; request = p2.0 i }, p2.1)

  last : (x : Last) → length x.signatures ≡ last_room → (rest : List ℕ) → drop last_at l ≡ enc_last x ++ rest → dec_last l ≡ x
  unfolding enc_last
  last x s rest e =
      let p1 = peel8 l last_at x.count _ e in
      let p2 = peel l (last_at + 1) last_room x.signatures _ p1.1 s (lit< tt) in
      λ i. record { count = p1.0 i; signatures = p2.0 i }

  front : (x : Front) → ShapeFront x → (rest : List ℕ) → drop fixed_at l ≡ enc_front x ++ rest → (dec_front l ≡ x) × (drop user_at l ≡ rest)
  unfolding enc_front
  front x s rest e =
      let p1 = fixed x.fixed s.fixed _ (simp append_assoc at e) in
      let p2 = flags x.flags _ p1.1 in
      let p3 = wallet x.wallet _ p2.1 in
      let p4 = key x.key s.key _ p3.1 in
      let p5 = counters x.counters _ p4.1 in
      (λ i. record { fixed = p1.0 i; flags = p2.0 i; wallet = p3.0 i; key = p4.0 i; counters = p5.0 i }, p5.1)

  held : (x : Held) → ShapeHeld x → (rest : List ℕ) → drop user_at l ≡ enc_held x ++ rest → (dec_held l ≡ x) × (drop pending_at l ≡ rest)
  unfolding enc_held
  held x s rest e =
      let p1 = block user_at x.user s.user _ (simp append_assoc at e) in
      let p2 = block protected_at x.protected s.protected _ p1.1 in
      let p3 = issuer x.issuer s.issuer _ p2.1 in
      (λ i. record { user = p1.0 i; protected = p2.0 i; issuer = p3.0 i }, p3.1)

  face : (x : Face) → ShapeFace x → (rest : List ℕ) → drop fixed_at l ≡ enc_face x ++ rest → dec_face l ≡ x
  unfolding enc_face
  face x s rest e =
      let p1 = front x.front s.front _ (simp append_assoc at e) in
      let p2 = held x.held s.held _ p1.1 in
      let p3 = pending x.pending s.pending _ p2.1 in
      λ i. record { front = p1.0 i; held = p2.0 i; pending = p3.0 i; last = last x.last s.last _ p3.1 i }

-- the image of a card spells that card
pub decode_encode : (c : Card) → Shape c → decode (encode c) ≡ c
unfolding encode decode
decode_encode c s =
    let l = encode c in
    let f = enc_face c.face in
    let p = codes l c.codes s.codes f refl in
    λ i. record { codes = p.0 i; face = face l c.face s.face _ (p.1 ∙ sym (append-nil f)) i }

-- THE BYTES of what is read at a place are those that stand there
module _ (l : List ℕ) (long : length l ≡ image_size) (b : Bytes l) where
  array : (at n : ℕ) → at + n ≤ image_size → part l at n ≡ take n (drop at l)
  array at n h = part_plain l at n (omega arith)

  byte : (at : ℕ) → at + 1 ≤ image_size → be1 (get_or l at 0) ≡ take 1 (drop at l)
  byte at h = part8 l at b (omega arith)

  pair : (at : ℕ) → at + 2 ≤ image_size → be2 (num16 l at) ≡ take 2 (drop at l)
  pair at h = part16 l at b (omega arith)

  four : (at : ℕ) → at + 4 ≤ image_size → be4 (num32 l at) ≡ take 4 (drop at l)
  four at h = part32 l at b (omega arith)

  of_codes : enc_codes (dec_codes l) ≡ take codes_width (drop codes_at l)
  unfolding enc_codes
  of_codes = beside l codes_at pin_size pin_size (array codes_at pin_size (lit≤ tt)) (array (codes_at + pin_size) pin_size (lit≤ tt))

  of_fixed : enc_fixed (dec_fixed l) ≡ take fixed_width (drop fixed_at l)
  unfolding enc_fixed
  of_fixed =
      let p1 = beside l fixed_at cid_size cvc_size (array fixed_at cid_size (lit≤ tt)) (array (fixed_at + 8) cvc_size (lit≤ tt)) in
      let p2 = beside l fixed_at 11 1 p1 (byte (fixed_at + 11) (lit≤ tt)) in
      let p3 = beside l fixed_at 12 4 p2 (four (fixed_at + 12) (lit≤ tt)) in
      let p4 = beside l fixed_at 16 seed_size p3 (array (fixed_at + 16) seed_size (lit≤ tt)) in
      beside l fixed_at (pause_at - fixed_at) 1 p4 (byte pause_at (lit≤ tt))

  of_flags : enc_flags (dec_flags l) ≡ take flags_width (drop flags_at l)
  unfolding enc_flags
  of_flags =
      let p1 = beside l flags_at 1 1 (byte flags_at (lit≤ tt)) (byte (flags_at + 1) (lit≤ tt)) in
      let p2 = beside l flags_at 2 1 p1 (byte (flags_at + 2) (lit≤ tt)) in
      let p3 = beside l flags_at 3 1 p2 (byte (flags_at + 3) (lit≤ tt)) in
      let p4 = beside l flags_at 4 1 p3 (byte (flags_at + 4) (lit≤ tt)) in
      let p5 = beside l flags_at 5 1 p4 (byte (flags_at + 5) (lit≤ tt)) in
      beside l flags_at 6 1 p5 (byte (flags_at + 6) (lit≤ tt))

  of_wallet : enc_wallet (dec_wallet l) ≡ take wallet_width (drop wallet_at l)
  unfolding enc_wallet
  of_wallet =
      let p1 = beside l wallet_at 1 2 (byte wallet_at (lit≤ tt)) (pair (wallet_at + 1) (lit≤ tt)) in
      let p2 = beside l wallet_at 3 4 p1 (four (wallet_at + 3) (lit≤ tt)) in
      beside l wallet_at 7 4 p2 (four (wallet_at + 7) (lit≤ tt))

  of_key : enc_key (dec_key l) ≡ take key_width (drop key_at l)
  unfolding enc_key
  of_key = beside l key_at 1 key_room (byte key_at (lit≤ tt)) (array (key_at + 1) key_room (lit≤ tt))

  of_counters : enc_counters (dec_counters l) ≡ take counters_width (drop counters_at l)
  unfolding enc_counters
  of_counters =
      let p1 = beside l counters_at 4 2 (four counters_at (lit≤ tt)) (pair (counters_at + 4) (lit≤ tt)) in
      let p2 = beside l counters_at 6 4 p1 (four (counters_at + 6) (lit≤ tt)) in
      beside l counters_at 10 4 p2 (four (counters_at + 10) (lit≤ tt))

  of_block : (at : ℕ) → at + block_width ≤ image_size → enc_block (dec_block at l) ≡ take block_width (drop at l)
  unfolding enc_block
  of_block at h = beside l at 2 data_room (pair at (omega arith)) (array (at + 2) data_room (omega arith))

  of_issuer : enc_issuer (dec_issuer l) ≡ take issuer_width (drop issuer_at l)
  unfolding enc_issuer
  of_issuer =
      let p1 = beside l issuer_at block_width signature_size (of_block issuer_at (lit≤ tt)) (array (issuer_at + block_width) signature_size (lit≤ tt)) in
      beside l issuer_at (block_width + signature_size) 4 p1 (four (issuer_at + block_width + signature_size) (lit≤ tt))

  of_wait : enc_wait (dec_wait l) ≡ take 4 (drop pending_at l)
  unfolding enc_wait
  of_wait =
      let p1 = beside l pending_at 1 1 (byte pending_at (lit≤ tt)) (byte (pending_at + 1) (lit≤ tt)) in
      beside l pending_at 2 2 p1 (pair (pending_at + 2) (lit≤ tt))

  of_pending : enc_pending (dec_pending l) ≡ take pending_width (drop pending_at l)
  unfolding enc_pending
  of_pending = beside l pending_at 4 held_room of_wait (array (pending_at + 4) held_room (lit≤ tt))

  of_last : enc_last (dec_last l) ≡ take last_width (drop last_at l)
  unfolding enc_last
  of_last = beside l last_at 1 last_room (byte last_at (lit≤ tt)) (array (last_at + 1) last_room (lit≤ tt))

  of_front : enc_front (dec_front l) ≡ take (user_at - fixed_at) (drop fixed_at l)
  unfolding enc_front
  of_front =
      let p1 = beside l fixed_at fixed_width flags_width of_fixed of_flags in
      let p2 = beside l fixed_at (wallet_at - fixed_at) wallet_width p1 of_wallet in
      let p3 = beside l fixed_at (key_at - fixed_at) key_width p2 of_key in
      beside l fixed_at (counters_at - fixed_at) counters_width p3 of_counters

  of_held : enc_held (dec_held l) ≡ take (pending_at - user_at) (drop user_at l)
  unfolding enc_held
  of_held =
      let p1 = beside l user_at block_width block_width (of_block user_at (lit≤ tt)) (of_block protected_at (lit≤ tt)) in
      beside l user_at (issuer_at - user_at) issuer_width p1 of_issuer

  of_face : enc_face (dec_face l) ≡ take (image_size - fixed_at) (drop fixed_at l)
  unfolding enc_face
  of_face =
      let p1 = beside l fixed_at (user_at - fixed_at) (pending_at - user_at) of_front of_held in
      let p2 = beside l fixed_at (pending_at - fixed_at) pending_width p1 of_pending in
      beside l fixed_at (last_at - fixed_at) last_width p2 of_last

-- bytes as many as an image has are the image of the card that they spell
pub encode_decode : (l : List ℕ) → length l ≡ image_size → Bytes l → encode (decode l) ≡ l
unfolding encode decode
encode_decode l long b = beside l codes_at codes_width (image_size - fixed_at) (of_codes l long b) (of_face l long b) ∙ whole_part l image_size long

-- and that card has its shape
pub shape_decode : (l : List ℕ) → length l ≡ image_size → Shape (decode l)
unfolding decode
shape_decode l long =
    record {
      codes = record { pin1 = of codes_at pin_size (lit≤ tt); pin2 = of (codes_at + pin_size) pin_size (lit≤ tt) };
      face = record {
        front = record {
          fixed = record { cid = of fixed_at cid_size (lit≤ tt); cvc = of (fixed_at + 8) cvc_size (lit≤ tt); seed = of (fixed_at + 16) seed_size (lit≤ tt) };
          key = of (key_at + 1) key_room (lit≤ tt);
        };
        held = record {
          user = of (user_at + 2) data_room (lit≤ tt);
          protected = of (protected_at + 2) data_room (lit≤ tt);
          issuer = record { block = of (issuer_at + 2) data_room (lit≤ tt); signature = of (issuer_at + block_width) signature_size (lit≤ tt) };
        };
        pending = of (pending_at + 4) held_room (lit≤ tt);
        last = of (last_at + 1) last_room (lit≤ tt);
      };
    }
  where
    of : (at n : ℕ) → at + n ≤ image_size → length (part l at n) ≡ n
    of at n h = length_part l at n (omega arith)

-- WHEN AN IMAGE IS A CARD
pub is_card_length : (l : List ℕ) → is_card l ≡ true → length l ≡ image_size
unfolding is_card
is_card_length l e = eqb-true _ _ (both_true (eqb (length l) image_size) (ok_face (decode l).face) e).0

pub is_card_face : (l : List ℕ) → is_card l ≡ true → ok_face (decode l).face ≡ true
unfolding is_card
is_card_face l e = (both_true (eqb (length l) image_size) (ok_face (decode l).face) e).1

-- an image that is a card is written back as it was
pub card_image : (l : List ℕ) → is_card l ≡ true → Bytes l → encode (decode l) ≡ l
card_image l e b = encode_decode l (is_card_length l e) b

-- a card that passes the tests has an image that is a card
pub is_card_encode : (c : Card) → Shape c → ok_face c.face ≡ true → is_card (encode c) ≡ true
unfolding is_card
is_card_encode c s e =
    let k = eq-eqb _ _ (length_encode c s) in
    let d = ap (λ (x : Card). ok_face x.face) (decode_encode c s) in
    rw (k, d, e)
