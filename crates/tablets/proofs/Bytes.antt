-- WHAT AN E0 LEAVES IS BYTES, where the card's image and the request are. Assumes nothing.
use Prim.Native.Nat.{ℕ}
use native.Mathlib.Omega.{arith}
use mathlib.Core.Path.{◌≡◌, sym, subst}
use mathlib.Core.List.{List, [], ◌∷◌, append_assoc, append-nil}
use lib.ListN.{length, drop, replicate}
use Rattle.std.specs.Prelude.{Option, Some, None}
use Rattle.wire.specs.Wire.{be2, be4, pad, joined, Bytes}
use Rattle.wire.proofs.Laws.{by_cases}
use Rattle.wire.proofs.Bytes.{bytes_none, bytes_append, bytes_left, bytes_right, bytes_drop, bytes_part, bytes_zeros, bytes_pad}
use Rattle.wire.proofs.Bytes.{bytes_be2, bytes_be4, num32_most}
use Rattle.fields.specs.Fields.{View, has, val, view_of, value_of, Found}
use Rattle.card.specs.declared.Block.{Block}
use Rattle.card.specs.declared.Card.{Card}
use Rattle.card.specs.Layout.{data_room, held_room}
use Rattle.card.specs.Values.{u16, no_pending}
use Rattle.card.specs.Image.{encode, enc_codes, enc_fixed, enc_flags, enc_wallet, enc_key, enc_counters, enc_block, enc_issuer, enc_wait, enc_pending, enc_last}
use Rattle.card.specs.Image.{enc_front, enc_held, enc_face}
use Rattle.manual.specs.Request.{lc_of, payload_by, payload}
use Rattle.manual.specs.Tags.{UserData, UserProtectedData, UserCounter, UserProtectedCounter}
use Rattle.manual.specs.Settle.{sent_in}
use Rattle.tablets.proofs.Written.{kept, block_in, number_in, wrote}

-- parts one after the other
abbrev Each : List (List ℕ) → Type 0
Each [] = Unit {0}
Each (g ∷ gs) = Bytes g × Each gs

together : (gs : List (List ℕ)) → Each gs → Bytes (joined gs)
unfolding joined
together [] e = bytes_none
together (g ∷ gs) e = bytes_append g (joined gs) e.0 (together gs e.1)

one_by_one : (gs : List (List ℕ)) → Bytes (joined gs) → Each gs
unfolding joined
one_by_one [] b = tt
one_by_one (g ∷ gs) b = (bytes_left g (joined gs) b, one_by_one gs (bytes_right g (joined gs) b))

-- WHAT A REQUEST SENDS
pub bytes_sent : (t : ℕ) (q : List ℕ) → Bytes q → Bytes (val t (sent_in q))
unfolding val sent_in view_of
bytes_sent t q b = found ((sent_in q).at t)
  where
    body : (z : Option ℕ) → Bytes (payload_by z q)
    body (Some n) = bytes_drop n q b
    body None = bytes_none

    found : (z : Found) → Bytes (value_of (payload q) z)
    found (Some at) = bytes_part (payload q) at.0 at.1 (body (lc_of q))
    found None = bytes_none

-- THE GROUPS of an image, the counters one by one
abbrev groups : Card → List (List ℕ)
groups c =
    let x = c.face.front in
    let y = c.face.held in
    enc_codes c.codes ∷ enc_fixed x.fixed ∷ enc_flags x.flags ∷ enc_wallet x.wallet ∷ enc_key x.key
    ∷ be4 x.counters.checks ∷ be2 x.counters.validations ∷ be4 x.counters.user ∷ be4 x.counters.protected
    ∷ enc_block y.user ∷ enc_block y.protected ∷ enc_issuer y.issuer ∷ enc_pending c.face.pending ∷ enc_last c.face.last ∷ []

in_groups : (c : Card) → encode c ≡ joined (groups c)
unfolding encode enc_face enc_front enc_held enc_counters joined
in_groups c = simp (append_assoc, append-nil)

-- what is stored under a tag
module _ (t : ℕ) (v : View) (b : Bytes (val t v)) where
  number_bytes : (n : ℕ) → Bytes (be4 n) → Bytes (be4 (kept t (number_in t) v n))
  number_bytes n old = by_cases (λ (k : ℕ). Bytes (be4 k)) (has t v) (λ _. bytes_be4 (number_in t v) (num32_most (val t v) b)) (λ _. old)

  block_bytes : (x : Block) → Bytes (enc_block x) → Bytes (enc_block (kept t (block_in t) v x))
  unfolding enc_block
  block_bytes x old =
      by_cases (λ (y : Block). Bytes (enc_block y)) (has t v)
      (λ _.
      let d = val t v in
      bytes_append (be2 (u16 (length d))) (pad data_room d) (bytes_be2 (u16 (length d)) (omega arith)) (bytes_pad data_room d b))
      (λ _. old)

no_pending_bytes : Bytes (enc_pending no_pending)
unfolding enc_pending enc_wait
no_pending_bytes = bytes_append (0 ∷ 0 ∷ 0 ∷ 0 ∷ []) (replicate held_room 0) (bytes_zeros 4) (bytes_zeros held_room)

pub bytes_wrote : (v : View) (c : Card) → ((t : ℕ) → Bytes (val t v)) → Bytes (encode c) → Bytes (encode (wrote v c))
bytes_wrote v c s b =
    let e = one_by_one (groups c) (subst Bytes (in_groups c) b) in
    let k = e.1.1.1.1 in
    let n = k.1 in
    let d = n.1.1.1.1 in
    let x = c.face.front.counters in
    let y = c.face.held in
    let user = number_bytes UserCounter v (s UserCounter) x.user n.1.1.0 in
    let protected = number_bytes UserProtectedCounter v (s UserProtectedCounter) x.protected n.1.1.1.0 in
    let block = block_bytes UserData v (s UserData) y.user d.0 in
    let hidden = block_bytes UserProtectedData v (s UserProtectedData) y.protected d.1.0 in
    let gs = groups (wrote v c) in
    let last : Each (drop 9 gs) = (block, (hidden, (d.1.1.0, (no_pending_bytes, (d.1.1.1.1.0, tt))))) in
    let numbers : Each (drop 5 gs) = (n.0, (n.1.0, (user, (protected, last)))) in
    subst Bytes (sym (in_groups (wrote v c))) (together gs (e.0, (e.1.0, (e.1.1.0, (e.1.1.1.0, (k.0, numbers))))))
