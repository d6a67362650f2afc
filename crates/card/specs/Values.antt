-- What becomes of a card's values, 01 "What the card is made of" and "The commands". Total: a number is kept in its width, and the conditions of
-- the commands see to it that nothing is lost. Assumes nothing.
use Rattle.std.specs.Prelude.{ℕ, ◌+◌, ◌-◌, ◌*◌, ◌/◌, ◌%◌, cond, List, [], ◌∷◌, length, replicate, ◌==◌, nat_lt}
use Rattle.wire.specs.Wire.{part, pad}
use Rattle.card.specs.declared.Codes.{Codes}
use Rattle.card.specs.declared.Fixed.{Fixed}
use Rattle.card.specs.declared.Flags.{Flags}
use Rattle.card.specs.declared.Wallet.{Wallet}
use Rattle.card.specs.declared.Key.{Key}
use Rattle.card.specs.declared.Counters.{Counters}
use Rattle.card.specs.declared.Block.{Block}
use Rattle.card.specs.declared.Issuer.{Issuer}
use Rattle.card.specs.declared.Wait.{Wait}
use Rattle.card.specs.declared.Pending.{Pending}
use Rattle.card.specs.declared.Last.{Last}
use Rattle.card.specs.declared.Face.{Face}
use Rattle.card.specs.declared.Front.{Front}
use Rattle.card.specs.declared.Held.{Held}
use Rattle.card.specs.declared.Card.{Card}
use Rattle.card.specs.Layout.{key_room, data_room, signature_size, held_room, last_room, most_wrong, top32}

-- THE DEFAULT PIN1: SHA-256 of `000000`, worked out by tests/default-pins.py
abbrev pub default_pin1 : List ℕ
default_pin1 =
    0x91 ∷ 0xB4 ∷ 0xD1 ∷ 0x42 ∷ 0x82 ∷ 0x3F ∷ 0x7D ∷ 0x20 ∷ 0xC5 ∷ 0xF0 ∷ 0x8D ∷ 0xF6 ∷ 0x91 ∷ 0x22 ∷ 0xDE ∷ 0x43 ∷
    0xF3 ∷ 0x5F ∷ 0x05 ∷ 0x7A ∷ 0x98 ∷ 0x8D ∷ 0x96 ∷ 0x19 ∷ 0xF6 ∷ 0xD3 ∷ 0x13 ∷ 0x84 ∷ 0x85 ∷ 0xC9 ∷ 0xA2 ∷ 0x03 ∷ []

-- THE DEFAULT PIN2: SHA-256 of `000`, worked out by tests/default-pins.py
abbrev pub default_pin2 : List ℕ
default_pin2 =
    0x2A ∷ 0xC9 ∷ 0xA6 ∷ 0x74 ∷ 0x6A ∷ 0xCA ∷ 0x54 ∷ 0x3A ∷ 0xF8 ∷ 0xDF ∷ 0xF3 ∷ 0x98 ∷ 0x94 ∷ 0xCF ∷ 0xE8 ∷ 0x17 ∷
    0x3A ∷ 0xFB ∷ 0xA2 ∷ 0x1E ∷ 0xB0 ∷ 0x1C ∷ 0x6F ∷ 0xAE ∷ 0x33 ∷ 0xD5 ∷ 0x29 ∷ 0x47 ∷ 0x22 ∷ 0x28 ∷ 0x55 ∷ 0xEF ∷ []

-- kept in one, two or four bytes
abbrev pub u8 : ℕ → ℕ
u8 n = n % 256

abbrev pub u16 : ℕ → ℕ
u16 n = n % 65536

abbrev pub u32 : ℕ → ℕ
u32 n = n % 4294967296

-- THE WALLET. F8: Loaded, number one more, Remaining is Max
abbrev pub created : ℕ → Wallet → Wallet
created max w = record w { status = 2; number = u16 (w.number + 1); remaining = max }

-- FB: Remaining falls by one, Signed_Hashes rises by the number of hashes
abbrev pub spent : ℕ → Wallet → Wallet
spent n w = record w { remaining = w.remaining - 1; signed = u32 (w.signed + n) }

-- FC: Remaining 0, Empty if reusable, else Purged
abbrev pub after_purge : ℕ → ℕ
after_purge reusable = cond (reusable == 1) 1 3

abbrev pub purged : ℕ → Wallet → Wallet
purged reusable w = record w { status = after_purge reusable; remaining = 0 }

-- COUNTERS. FB: both user counters rise by one, going from 4,294,967,295 to 0
abbrev pub risen : Counters → Counters
risen x = record x { user = u32 (x.user + 1); protected = u32 (x.protected + 1) }

-- F9: the counter rises by one and stays at its top
abbrev pub checked_once : Counters → Counters
checked_once x = record x { checks = cond (nat_lt x.checks top32) (x.checks + 1) x.checks }

-- F4: it rises
abbrev pub validated_once : Counters → Counters
validated_once x = record x { validations = u16 (x.validations + 1) }

-- THE FLAGS. FE: activated, for good
abbrev pub activated : Flags → Flags
activated g = record g { active = 1 }

-- THE CODES. FE with Reset_PIN1: PIN1 becomes its default
abbrev pub reset_pin1 : Codes → Codes
reset_pin1 x = record x { pin1 = default_pin1 }

-- THE WAIT (02 Ask 7): wrong codes counted, and of the request that is held the seconds left and the size. Nothing counted and nothing held
abbrev pub no_wait : Wait
no_wait = record { wrong = 0; left = 0; size = 0 }

-- nothing held, the count as it was
abbrev pub dropped : Wait → Wait
dropped w = record w { left = 0; size = 0 }

-- one more, "at 60 it stays"
abbrev pub counted : Wait → Wait
counted w = record w { wrong = cond (nat_lt w.wrong most_wrong) (w.wrong + 1) w.wrong }

-- a request of so many bytes held for so many seconds, the count as it was
abbrev pub held_for : ℕ → ℕ → Wait → Wait
held_for seconds size w = record w { left = seconds; size = size }

-- WHAT IS HELD: bytes with their size, and room that is zero after them
abbrev pub held_key : List ℕ → Key
held_key k = record { size = u8 (length k); bytes = pad key_room k }

abbrev pub held_block : List ℕ → Block
held_block d = record { size = u16 (length d); bytes = pad data_room d }

abbrev pub held_issuer : List ℕ → List ℕ → ℕ → Issuer
held_issuer d s n = record { block = held_block d; signature = pad signature_size s; counter = n }

-- a wait, and the bytes of the request that it holds
abbrev pub held_request : Wait → List ℕ → Pending
held_request w q = record { wait = w; request = pad held_room q }

abbrev pub held_last : List ℕ → Last
held_last s = record { count = u8 (length s / signature_size); signatures = pad last_room s }

-- and the bytes of it
unfoldable pub key_of : Key → List ℕ
key_of k = part k.bytes 0 k.size

unfoldable pub block_of : Block → List ℕ
block_of b = part b.bytes 0 b.size

unfoldable pub request_of : Pending → List ℕ
request_of p = part p.request 0 p.wait.size

unfoldable pub last_of : Last → List ℕ
last_of l = part l.signatures 0 (l.count * signature_size)

-- A FRESH CARD is Empty with Signed_Hashes, the wallet number and every counter 0, no last signatures and all data empty; nothing is held or counted (02 Ask 7)
abbrev pub no_wallet : Wallet
no_wallet = record { status = 1; number = 0; remaining = 0; signed = 0 }

abbrev pub no_key : Key
no_key = record { size = 0; bytes = replicate key_room 0 }

abbrev pub no_counters : Counters
no_counters = record { checks = 0; validations = 0; user = 0; protected = 0 }

abbrev pub no_block : Block
no_block = record { size = 0; bytes = replicate data_room 0 }

abbrev pub no_issuer : Issuer
no_issuer = record { block = no_block; signature = replicate signature_size 0; counter = 0 }

abbrev pub idle : Wait → Pending
idle w = record { wait = w; request = replicate held_room 0 }

abbrev pub no_pending : Pending
no_pending = idle no_wait

abbrev pub no_last : Last
no_last = record { count = 0; signatures = replicate last_room 0 }

unfoldable pub fresh : Fixed → Flags → Codes → Card
fresh x g k =
    record {
      face = record {
        front = record { fixed = x; flags = g; wallet = no_wallet; key = no_key; counters = no_counters };
        held = record { user = no_block; protected = no_block; issuer = no_issuer };
        pending = no_pending;
        last = no_last;
      };
      codes = k;
    }

abbrev pub faced : Face → Card → Card
faced f c = record c { face = f }

-- A FACE with one group anew
abbrev pub fronted : Front → Face → Face
fronted x f = record f { front = x }

abbrev pub holding : Held → Face → Face
holding x f = record f { held = x }

-- what is fixed, but for the pause
abbrev pub paused_by : ℕ → Fixed → Fixed
paused_by n x = record x { pause = n }

abbrev pub with_pause : ℕ → Face → Face
with_pause n f = fronted (record f.front { fixed = paused_by n f.front.fixed }) f

abbrev pub with_flags : Flags → Face → Face
with_flags x f = fronted (record f.front { flags = x }) f

abbrev pub with_wallet : Wallet → Face → Face
with_wallet x f = fronted (record f.front { wallet = x }) f

abbrev pub with_key : Key → Face → Face
with_key x f = fronted (record f.front { key = x }) f

abbrev pub with_counters : Counters → Face → Face
with_counters x f = fronted (record f.front { counters = x }) f

abbrev pub with_user : Block → Face → Face
with_user x f = holding (record f.held { user = x }) f

abbrev pub with_protected : Block → Face → Face
with_protected x f = holding (record f.held { protected = x }) f

abbrev pub with_issuer : Issuer → Face → Face
with_issuer x f = holding (record f.held { issuer = x }) f

abbrev pub with_pending : Pending → Face → Face
with_pending x f = record f { pending = x }

abbrev pub with_last : Last → Face → Face
with_last x f = record f { last = x }
