-- LENGTHS: those of a card's groups, from its shape; the shape of what is held, and of a face with one group anew. Assumes nothing.
use Rattle.std.proofs.Common.{rules}
use mathlib.Core.Path.{◌≡◌, refl}
use mathlib.Core.List.{List, []}
use Prim.Native.Nat.{ℕ, ◌-◌}
use native.Mathlib.Omega.{arith}
use lib.ListN.{length, length-append}
use Rattle.wire.specs.Wire.{pad}
use Rattle.wire.proofs.Laws.{padded}
use Rattle.wire.proofs.Parts.{length_pad}
use Rattle.card.specs.declared.Codes.{Codes}
use Rattle.card.specs.declared.Fixed.{Fixed}
use Rattle.card.specs.declared.Flags.{Flags}
use Rattle.card.specs.declared.Wallet.{Wallet}
use Rattle.card.specs.declared.Key.{Key}
use Rattle.card.specs.declared.Counters.{Counters}
use Rattle.card.specs.declared.Block.{Block}
use Rattle.card.specs.declared.Issuer.{Issuer}
use Rattle.card.specs.declared.Wait.{Wait}
use Rattle.card.specs.declared.Pending.{Pending}
use Rattle.card.specs.declared.Last.{Last}
use Rattle.card.specs.declared.Front.{Front}
use Rattle.card.specs.declared.Held.{Held}
use Rattle.card.specs.declared.Face.{Face}
use Rattle.card.specs.declared.Card.{Card}
use Rattle.card.specs.Layout.{pin_size, key_room, data_room, signature_size, held_room, last_room}
use Rattle.card.specs.Layout.{codes_width, fixed_width, flags_width, wallet_width, key_width, counters_width, block_width, issuer_width, pending_width, last_width}
use Rattle.card.specs.Layout.{fixed_at, user_at, pending_at, image_size}
use Rattle.card.specs.Values.{held_key, held_block, held_issuer, held_request, held_last, idle, fresh}
use Rattle.card.specs.Values.{with_pause, with_flags, with_wallet, with_key, with_counters, with_user, with_protected, with_issuer, with_pending, with_last}
use Rattle.card.specs.Image.{enc_codes, enc_fixed, enc_flags, enc_wallet, enc_key, enc_counters, enc_block, enc_issuer, enc_wait, enc_pending, enc_last}
use Rattle.card.specs.Image.{enc_front, enc_held, enc_face, encode}
use Rattle.card.specs.Shape.{ShapeCodes, ShapeFixed, ShapeIssuer, ShapeFront, ShapeHeld, ShapeFace, Shape}

pub long_codes : (x : Codes) → ShapeCodes x → length (enc_codes x) ≡ codes_width
unfolding enc_codes
long_codes x s = simp length-append (omega arith)

pub long_fixed : (x : Fixed) → ShapeFixed x → length (enc_fixed x) ≡ fixed_width
unfolding enc_fixed
long_fixed x s = simp length-append (omega arith)

pub long_flags : (x : Flags) → length (enc_flags x) ≡ flags_width
unfolding enc_flags
long_flags x = refl

pub long_wallet : (x : Wallet) → length (enc_wallet x) ≡ wallet_width
unfolding enc_wallet
long_wallet x = refl

pub long_key : (x : Key) → length x.bytes ≡ key_room → length (enc_key x) ≡ key_width
unfolding enc_key
long_key x s = simp length-append (omega arith)

pub long_counters : (x : Counters) → length (enc_counters x) ≡ counters_width
unfolding enc_counters
long_counters x = refl

pub long_block : (x : Block) → length x.bytes ≡ data_room → length (enc_block x) ≡ block_width
unfolding enc_block
long_block x s = simp length-append (omega arith)

pub long_issuer : (x : Issuer) → ShapeIssuer x → length (enc_issuer x) ≡ issuer_width
unfolding enc_issuer
long_issuer x s = simp length-append (omega (arith, long_block x.block s.block, s.signature))

long_wait : (x : Wait) → length (enc_wait x) ≡ 4
unfolding enc_wait
long_wait x = refl

pub long_pending : (x : Pending) → length x.request ≡ held_room → length (enc_pending x) ≡ pending_width
unfolding enc_pending
long_pending x s = simp length-append (omega (arith, long_wait x.wait))

pub long_last : (x : Last) → length x.signatures ≡ last_room → length (enc_last x) ≡ last_width
unfolding enc_last
long_last x s = simp length-append (omega arith)

long_front : (x : Front) → ShapeFront x → length (enc_front x) ≡ user_at - fixed_at
unfolding enc_front
long_front x s =
    simp length-append
    (omega (arith, long_fixed x.fixed s.fixed, long_flags x.flags, long_wallet x.wallet, long_key x.key s.key, long_counters x.counters))

long_held : (x : Held) → ShapeHeld x → length (enc_held x) ≡ pending_at - user_at
unfolding enc_held
long_held x s =
    simp length-append (omega (arith, long_block x.user s.user, long_block x.protected s.protected, long_issuer x.issuer s.issuer))

long_face : (x : Face) → ShapeFace x → length (enc_face x) ≡ image_size - fixed_at
unfolding enc_face
long_face x s =
    simp length-append
    (omega (arith, long_front x.front s.front, long_held x.held s.held, long_pending x.pending s.pending, long_last x.last s.last))

pub length_encode : (c : Card) → Shape c → length (encode c) ≡ image_size
unfolding encode
length_encode c s = simp length-append (omega (arith, long_codes c.codes s.codes, long_face c.face s.face))

-- WHAT IS HELD has its lengths, whatever was given
pub held_codes_long : (a b : List ℕ) → ShapeCodes (record { pin1 = pad pin_size a; pin2 = pad pin_size b })
held_codes_long a b = record { pin1 = length_pad pin_size a; pin2 = length_pad pin_size b }

pub held_key_long : (k : List ℕ) → length (held_key k).bytes ≡ key_room
held_key_long k = length_pad key_room k

pub held_block_long : (d : List ℕ) → length (held_block d).bytes ≡ data_room
held_block_long d = length_pad data_room d

pub held_issuer_long : (d s : List ℕ) (n : ℕ) → ShapeIssuer (held_issuer d s n)
held_issuer_long d s n = record { block = length_pad data_room d; signature = length_pad signature_size s }

pub held_request_long : (w : Wait) (q : List ℕ) → length (held_request w q).request ≡ held_room
held_request_long w q = length_pad held_room q

-- a wait that holds no bytes
pub held_no_request : (w : Wait) → held_request w [] ≡ idle w
held_no_request w = λ i. record { wait = w; request = padded held_room [] (omega arith) i }

pub held_last_long : (s : List ℕ) → length (held_last s).signatures ≡ last_room
held_last_long s = length_pad last_room s

-- so its bytes have their width
pub held_codes_wide : (a b : List ℕ) → length (enc_codes (record { pin1 = pad pin_size a; pin2 = pad pin_size b })) ≡ codes_width
held_codes_wide a b = long_codes _ (held_codes_long a b)

pub held_key_wide : (k : List ℕ) → length (enc_key (held_key k)) ≡ key_width
held_key_wide k = long_key (held_key k) (held_key_long k)

pub held_block_wide : (d : List ℕ) → length (enc_block (held_block d)) ≡ block_width
held_block_wide d = long_block (held_block d) (held_block_long d)

pub held_issuer_wide : (d s : List ℕ) (n : ℕ) → length (enc_issuer (held_issuer d s n)) ≡ issuer_width
held_issuer_wide d s n = long_issuer (held_issuer d s n) (held_issuer_long d s n)

pub held_request_wide : (w : Wait) (q : List ℕ) → length (enc_pending (held_request w q)) ≡ pending_width
held_request_wide w q = long_pending (held_request w q) (held_request_long w q)

pub held_last_wide : (s : List ℕ) → length (enc_last (held_last s)) ≡ last_width
held_last_wide s = long_last (held_last s) (held_last_long s)

-- A FACE with one group anew
module _ (f : Face) (s : ShapeFace f) where
  pub shape_with_pause : (n : ℕ) → ShapeFace (with_pause n f)
  shape_with_pause n = search rules

  pub shape_with_flags : (x : Flags) → ShapeFace (with_flags x f)
  shape_with_flags x = search rules

  pub shape_with_wallet : (x : Wallet) → ShapeFace (with_wallet x f)
  shape_with_wallet x = search rules

  pub shape_with_key : (x : Key) → length x.bytes ≡ key_room → ShapeFace (with_key x f)
  shape_with_key x e = search rules

  pub shape_with_counters : (x : Counters) → ShapeFace (with_counters x f)
  shape_with_counters x = search rules

  pub shape_with_user : (x : Block) → length x.bytes ≡ data_room → ShapeFace (with_user x f)
  shape_with_user x e = search rules

  pub shape_with_protected : (x : Block) → length x.bytes ≡ data_room → ShapeFace (with_protected x f)
  shape_with_protected x e = search rules

  pub shape_with_issuer : (x : Issuer) → ShapeIssuer x → ShapeFace (with_issuer x f)
  shape_with_issuer x e = search rules

  pub shape_with_pending : (x : Pending) → length x.request ≡ held_room → ShapeFace (with_pending x f)
  shape_with_pending x e = search rules

  pub shape_with_last : (x : Last) → length x.signatures ≡ last_room → ShapeFace (with_last x f)
  shape_with_last x e = search rules

-- A FRESH CARD
pub shape_fresh : (x : Fixed) (g : Flags) (k : Codes) → ShapeFixed x → ShapeCodes k → Shape (fresh x g k)
unfolding fresh
shape_fresh x g k fixed codes =
    record {
      codes = codes;
      face = record {
        front = record { fixed = fixed; key = refl };
        held = record { user = refl; protected = refl; issuer = record { block = refl; signature = refl } };
        pending = refl;
        last = refl;
      };
    }
