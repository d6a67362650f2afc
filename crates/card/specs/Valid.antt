-- When an image is a card, 01 "What the card is made of": one list of tests, each a clause of that sentence, one of 02 Ask 2, and those of
-- 02 Ask 7. Assumes nothing.
use Rattle.std.specs.Prelude.{ℕ, ◌*◌, Bool, true, cond, not, ◌&&◌, ◌||◌, List, [], ◌∷◌, length, drop, ◌==◌, nat_le, slice_index}
use Rattle.wire.specs.Wire.{all_zero}
use Rattle.card.specs.declared.Fixed.{Fixed}
use Rattle.card.specs.declared.Flags.{Flags}
use Rattle.card.specs.declared.Wallet.{Wallet}
use Rattle.card.specs.declared.Key.{Key}
use Rattle.card.specs.declared.Block.{Block}
use Rattle.card.specs.declared.Issuer.{Issuer}
use Rattle.card.specs.declared.Wait.{Wait}
use Rattle.card.specs.declared.Pending.{Pending}
use Rattle.card.specs.declared.Last.{Last}
use Rattle.card.specs.declared.Front.{Front}
use Rattle.card.specs.declared.Held.{Held}
use Rattle.card.specs.declared.Face.{Face}
use Rattle.card.specs.Layout.{key_room, key_short, data_room, signature_size, most_hashes, least_held, held_room, most_pause, most_wrong, most_left, image_size}
use Rattle.card.specs.Image.{decode}

abbrev pub every : List Bool → Bool
every [] = true
every (a ∷ []) = a
every (a ∷ b ∷ bs) = a && every (b ∷ bs)

abbrev pub is_empty : Wallet → Bool
is_empty w = w.status == 1

abbrev pub is_loaded : Wallet → Bool
is_loaded w = w.status == 2

abbrev pub is_purged : Wallet → Bool
is_purged w = w.status == 3

-- "every value is in its range": the seven flags
abbrev pub flag_tests : Flags → List Bool
flag_tests g =
    nat_le g.reusable 1 ∷ nat_le g.usecvc 1 ∷ nat_le g.setpin1 1 ∷ nat_le g.setpin2 1 ∷ nat_le g.nopurge 1 ∷ nat_le g.replay 1 ∷ nat_le g.active 1 ∷ []

-- "every value is in its range": curve, Max_Signatures, Status; "Remaining is at most Max and 0 unless Loaded"
abbrev pub curve_known : Fixed → Bool
curve_known x = x.curve == 1 || x.curve == 2

abbrev pub status_known : Wallet → Bool
status_known w = is_empty w || (is_loaded w || is_purged w)

abbrev pub range_tests : Fixed → Wallet → List Bool
range_tests x w =
    curve_known x
    ∷ nat_le 1 x.max
    ∷ status_known w
    ∷ nat_le w.remaining x.max
    ∷ (is_loaded w || w.remaining == 0)
    ∷ []

-- "the wallet number is at least 1 when Loaded or Purged, and on a card that is not reusable 0 when Empty and 1 otherwise, Purged occurs only when not
-- reusable, and a card not activated is Empty with wallet number 0"
abbrev pub state_tests : Flags → Wallet → List Bool
state_tests g w =
    (is_empty w || nat_le 1 w.number)
    ∷ (g.reusable == 1 || w.number == cond (is_empty w) 0 1)
    ∷ (g.reusable == 0 || (is_empty w || is_loaded w))
    ∷ (g.active == 1 || (is_empty w && w.number == 0))
    ∷ []

-- "a public key is present exactly when Loaded": secp256k1, 65 bytes starting 04, or ed25519, 32; unused room is zero
unfoldable pub key_size : ℕ → ℕ → ℕ
key_size curve status = cond (status == 2) (cond (curve == 1) key_room key_short) 0

abbrev pub key_tests : ℕ → ℕ → Key → List Bool
key_tests curve status k =
    (k.size == key_size curve status)
    ∷ (not (k.size == key_room) || slice_index k.bytes 0 == 4)
    ∷ all_zero (drop k.size k.bytes)
    ∷ []

-- data of 0 to 512 bytes; unused room is zero
abbrev pub block_tests : Block → List Bool
block_tests b = nat_le b.size data_room ∷ all_zero (drop b.size b.bytes) ∷ []

unfoldable pub ok_block : Block → Bool
ok_block b = every (block_tests b)

-- "the issuer signature too while no data is held"
abbrev pub issuer_tests : Issuer → List Bool
issuer_tests x = ok_block x.block ∷ (nat_le 1 x.block.size || all_zero (drop 0 x.signature)) ∷ []

-- 02 Ask 7: "0 to 60" wrong codes; "the seconds left (1 to 120 if held, else 0)" of a request of 6 to 1,024 bytes; unused room is zero
abbrev pub is_holding : Wait → Bool
is_holding w = nat_le 1 w.left && (nat_le w.left most_left && (nat_le least_held w.size && nat_le w.size held_room))

abbrev pub is_idle : Wait → Bool
is_idle w = w.left == 0 && w.size == 0

abbrev pub pending_tests : Pending → List Bool
pending_tests p = nat_le p.wait.wrong most_wrong ∷ (is_idle p.wait || is_holding p.wait) ∷ all_zero (drop p.wait.size p.request) ∷ []

-- 02 Ask 7: a pause of "0 to 60 seconds"
abbrev pub pause_known : Fixed → Bool
pause_known x = nat_le x.pause most_pause

-- 0 to 10 last signatures; unused room is zero
abbrev pub last_tests : Last → List Bool
last_tests l = nat_le l.count most_hashes ∷ all_zero (drop (l.count * signature_size) l.signatures) ∷ []

-- 02 Ask 2, "an Empty or Purged card holds none": signatures only with a wallet
abbrev pub last_owned : Wallet → Last → Bool
last_owned w l = is_loaded w || l.count == 0

unfoldable pub ok_flags : Flags → Bool
ok_flags g = every (flag_tests g)

unfoldable pub ok_ranges : Fixed → Wallet → Bool
ok_ranges x w = every (range_tests x w)

unfoldable pub ok_state : Flags → Wallet → Bool
ok_state g w = every (state_tests g w)

unfoldable pub ok_key : ℕ → ℕ → Key → Bool
ok_key curve status k = every (key_tests curve status k)

unfoldable pub ok_issuer : Issuer → Bool
ok_issuer x = every (issuer_tests x)

unfoldable pub ok_pending : Pending → Bool
ok_pending p = every (pending_tests p)

unfoldable pub ok_last : Last → Bool
ok_last l = every (last_tests l)

-- THE TESTS of a card; the codes may be any
abbrev pub front_tests : Front → List Bool
front_tests x =
    ok_flags x.flags
    ∷ ok_ranges x.fixed x.wallet
    ∷ ok_state x.flags x.wallet
    ∷ ok_key x.fixed.curve x.wallet.status x.key
    ∷ pause_known x.fixed
    ∷ []

abbrev pub held_tests : Held → List Bool
held_tests x = ok_block x.user ∷ ok_block x.protected ∷ ok_issuer x.issuer ∷ []

unfoldable pub ok_front : Front → Bool
ok_front x = every (front_tests x)

unfoldable pub ok_held : Held → Bool
ok_held x = every (held_tests x)

abbrev pub face_tests : Face → List Bool
face_tests f =
    ok_front f.front ∷ ok_held f.held ∷ ok_pending f.pending ∷ ok_last f.last ∷ last_owned f.front.wallet f.last ∷ []

unfoldable pub ok_face : Face → Bool
ok_face f = every (face_tests f)

-- an image is a card
unfoldable pub is_card : List ℕ → Bool
is_card img = length img == image_size && ok_face (decode img).face
