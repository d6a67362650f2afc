-- The image of a card, docs/IMAGE.md: its groups one after the other, each value at its place, counted from the image's first byte. Assumes nothing.
use Rattle.std.specs.Prelude.{ℕ, ◌+◌, List, ◌++◌, slice_index}
use Rattle.wire.specs.Wire.{part, num16, num32, be1, be2, be4}
use Rattle.card.specs.declared.Codes.{Codes}
use Rattle.card.specs.declared.Fixed.{Fixed}
use Rattle.card.specs.declared.Flags.{Flags}
use Rattle.card.specs.declared.Wallet.{Wallet}
use Rattle.card.specs.declared.Key.{Key}
use Rattle.card.specs.declared.Counters.{Counters}
use Rattle.card.specs.declared.Block.{Block}
use Rattle.card.specs.declared.Issuer.{Issuer}
use Rattle.card.specs.declared.Wait.{Wait}
use Rattle.card.specs.declared.Pending.{Pending}
use Rattle.card.specs.declared.Last.{Last}
use Rattle.card.specs.declared.Front.{Front}
use Rattle.card.specs.declared.Held.{Held}
use Rattle.card.specs.declared.Face.{Face}
use Rattle.card.specs.declared.Card.{Card}
use Rattle.card.specs.Layout.{pin_size, cid_size, cvc_size, seed_size, key_room, data_room, signature_size, held_room, last_room, block_width}
use Rattle.card.specs.Layout.{codes_at, fixed_at, pause_at, flags_at, wallet_at, key_at, counters_at, user_at, protected_at, issuer_at, pending_at, last_at}

unfoldable pub enc_codes : Codes → List ℕ
enc_codes x = x.pin1 ++ x.pin2

abbrev pub dec_codes : List ℕ → Codes
dec_codes l = record { pin1 = part l codes_at pin_size; pin2 = part l (codes_at + pin_size) pin_size }

unfoldable pub enc_fixed : Fixed → List ℕ
enc_fixed x = x.cid ++ x.cvc ++ be1 x.curve ++ be4 x.max ++ x.seed ++ be1 x.pause

abbrev pub dec_fixed : List ℕ → Fixed
dec_fixed l =
    record {
      cid = part l fixed_at cid_size;
      cvc = part l (fixed_at + 8) cvc_size;
      curve = slice_index l (fixed_at + 11);
      max = num32 l (fixed_at + 12);
      seed = part l (fixed_at + 16) seed_size;
      pause = slice_index l pause_at;
    }

unfoldable pub enc_flags : Flags → List ℕ
enc_flags x =
    be1 x.reusable ++ be1 x.usecvc ++ be1 x.setpin1 ++ be1 x.setpin2 ++ be1 x.nopurge ++ be1 x.replay ++ be1 x.active

abbrev pub dec_flags : List ℕ → Flags
dec_flags l =
    record {
      reusable = slice_index l flags_at;
      usecvc = slice_index l (flags_at + 1);
      setpin1 = slice_index l (flags_at + 2);
      setpin2 = slice_index l (flags_at + 3);
      nopurge = slice_index l (flags_at + 4);
      replay = slice_index l (flags_at + 5);
      active = slice_index l (flags_at + 6);
    }

unfoldable pub enc_wallet : Wallet → List ℕ
enc_wallet x = be1 x.status ++ be2 x.number ++ be4 x.remaining ++ be4 x.signed

abbrev pub dec_wallet : List ℕ → Wallet
dec_wallet l =
    record { status = slice_index l wallet_at; number = num16 l (wallet_at + 1); remaining = num32 l (wallet_at + 3); signed = num32 l (wallet_at + 7) }

unfoldable pub enc_key : Key → List ℕ
enc_key x = be1 x.size ++ x.bytes

abbrev pub dec_key : List ℕ → Key
dec_key l = record { size = slice_index l key_at; bytes = part l (key_at + 1) key_room }

unfoldable pub enc_counters : Counters → List ℕ
enc_counters x = be4 x.checks ++ be2 x.validations ++ be4 x.user ++ be4 x.protected

abbrev pub dec_counters : List ℕ → Counters
dec_counters l =
    record {
      checks = num32 l counters_at;
      validations = num16 l (counters_at + 4);
      user = num32 l (counters_at + 6);
      protected = num32 l (counters_at + 10);
    }

unfoldable pub enc_block : Block → List ℕ
enc_block x = be2 x.size ++ x.bytes

-- the block at a place
abbrev pub dec_block : ℕ → List ℕ → Block
dec_block at l = record { size = num16 l at; bytes = part l (at + 2) data_room }

unfoldable pub enc_issuer : Issuer → List ℕ
enc_issuer x = enc_block x.block ++ x.signature ++ be4 x.counter

abbrev pub dec_issuer : List ℕ → Issuer
dec_issuer l =
    record {
      block = dec_block issuer_at l;
      signature = part l (issuer_at + block_width) signature_size;
      counter = num32 l (issuer_at + block_width + signature_size);
    }

unfoldable pub enc_wait : Wait → List ℕ
enc_wait x = be1 x.wrong ++ be1 x.left ++ be2 x.size

abbrev pub dec_wait : List ℕ → Wait
dec_wait l = record { wrong = slice_index l pending_at; left = slice_index l (pending_at + 1); size = num16 l (pending_at + 2) }

unfoldable pub enc_pending : Pending → List ℕ
enc_pending x = enc_wait x.wait ++ x.request

abbrev pub dec_pending : List ℕ → Pending
dec_pending l = record { wait = dec_wait l; request = part l (pending_at + 4) held_room }

unfoldable pub enc_last : Last → List ℕ
enc_last x = be1 x.count ++ x.signatures

abbrev pub dec_last : List ℕ → Last
dec_last l = record { count = slice_index l last_at; signatures = part l (last_at + 1) last_room }

unfoldable pub enc_front : Front → List ℕ
enc_front x = enc_fixed x.fixed ++ enc_flags x.flags ++ enc_wallet x.wallet ++ enc_key x.key ++ enc_counters x.counters

abbrev pub dec_front : List ℕ → Front
dec_front l = record { fixed = dec_fixed l; flags = dec_flags l; wallet = dec_wallet l; key = dec_key l; counters = dec_counters l }

unfoldable pub enc_held : Held → List ℕ
enc_held x = enc_block x.user ++ enc_block x.protected ++ enc_issuer x.issuer

abbrev pub dec_held : List ℕ → Held
dec_held l = record { user = dec_block user_at l; protected = dec_block protected_at l; issuer = dec_issuer l }

unfoldable pub enc_face : Face → List ℕ
enc_face x = enc_front x.front ++ enc_held x.held ++ enc_pending x.pending ++ enc_last x.last

abbrev pub dec_face : List ℕ → Face
dec_face l = record { front = dec_front l; held = dec_held l; pending = dec_pending l; last = dec_last l }

-- THE IMAGE of a card, and the card that bytes spell; whether it is one says `is_card`
unfoldable pub encode : Card → List ℕ
encode c = enc_codes c.codes ++ enc_face c.face

unfoldable pub decode : List ℕ → Card
decode l = record { codes = dec_codes l; face = dec_face l }
