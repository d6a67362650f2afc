-- The tests of a card, by name, and back. Assumes nothing.
use Rattle.std.proofs.Common.{rules}
use mathlib.Core.Path.{◌≡◌, refl}
use mathlib.Core.Bool.{Bool, true, false, cond, ◌&&◌, ◌||◌}
use mathlib.Core.List.{List, [], ◌∷◌}
use lib.ListN.{drop}
use lib.Dec.{leb, eqb}
use Rattle.wire.specs.Wire.{all_zero}
use Rattle.wire.proofs.Laws.{both_true}
use Rattle.card.specs.declared.Fixed.{Fixed}
use Rattle.card.specs.declared.Flags.{Flags}
use Rattle.card.specs.declared.Wallet.{Wallet}
use Rattle.card.specs.declared.Pending.{Pending}
use Rattle.card.specs.declared.Face.{Face}
use Rattle.card.specs.Layout.{most_wrong}
use Rattle.card.specs.Valid.{every, is_empty, is_loaded, flag_tests, curve_known, status_known, range_tests, state_tests, is_holding, is_idle, pending_tests, pause_known}
use Rattle.card.specs.Valid.{front_tests, held_tests, face_tests}
use Rattle.card.specs.Valid.{ok_flags, ok_ranges, ok_state, ok_key, ok_block, ok_issuer, ok_pending, ok_last, last_owned, ok_front, ok_held, ok_face}

-- what `every` says, as a product that computes, and back
abbrev pub Every : List Bool → Type 0
Every [] = Unit {0}
Every (a ∷ []) = a ≡ true
Every (a ∷ b ∷ bs) = (a ≡ true) × Every (b ∷ bs)

and_true : {a b : Bool} → a ≡ true → b ≡ true → (a && b) ≡ true
and_true p q = rw (p, q)

pub or_true : (a : Bool) {b : Bool} → b ≡ true → (a || b) ≡ true
or_true true e = refl
or_true false e = e

pub split : (bs : List Bool) → every bs ≡ true → Every bs
split [] e = tt
split (a ∷ []) e = e
split (a ∷ b ∷ bs) e = let p = both_true a (every (b ∷ bs)) e in (p.0, split (b ∷ bs) p.1)

pub join : (bs : List Bool) → Every bs → every bs ≡ true
join [] e = refl
join (a ∷ []) e = e
join (a ∷ b ∷ bs) e = and_true e.0 (join (b ∷ bs) e.1)

-- THE FLAGS
pub record Flagged (g : Flags) : Type 0 where
  pub reusable : leb g.reusable 1 ≡ true
  pub usecvc : leb g.usecvc 1 ≡ true
  pub setpin1 : leb g.setpin1 1 ≡ true
  pub setpin2 : leb g.setpin2 1 ≡ true
  pub nopurge : leb g.nopurge 1 ≡ true
  pub replay : leb g.replay 1 ≡ true
  pub active : leb g.active 1 ≡ true

pub flagged : (g : Flags) → ok_flags g ≡ true → Flagged g
unfolding ok_flags
flagged g e =
    let s = split (flag_tests g) e in search rules

-- THE RANGES
pub record Ranged (x : Fixed) (w : Wallet) : Type 0 where
  pub curve : curve_known x ≡ true
  pub max : leb 1 x.max ≡ true
  pub status : status_known w ≡ true
  pub remaining : leb w.remaining x.max ≡ true
  pub idle : (is_loaded w || eqb w.remaining 0) ≡ true

pub ranged : (x : Fixed) (w : Wallet) → ok_ranges x w ≡ true → Ranged x w
unfolding ok_ranges
ranged x w e =
    let s = split (range_tests x w) e in search rules

pub is_ranged : (x : Fixed) (w : Wallet) → Ranged x w → ok_ranges x w ≡ true
unfolding ok_ranges
is_ranged x w v = join (range_tests x w) (search rules)

-- THE STATE
pub record Stated (g : Flags) (w : Wallet) : Type 0 where
  pub begun : (is_empty w || leb 1 w.number) ≡ true
  pub once : (eqb g.reusable 1 || eqb w.number (cond (is_empty w) 0 1)) ≡ true
  pub purges : (eqb g.reusable 0 || (is_empty w || is_loaded w)) ≡ true
  pub asleep : (eqb g.active 1 || (is_empty w && eqb w.number 0)) ≡ true

pub stated : (g : Flags) (w : Wallet) → ok_state g w ≡ true → Stated g w
unfolding ok_state
stated g w e =
    let s = split (state_tests g w) e in search rules

pub is_stated : (g : Flags) (w : Wallet) → Stated g w → ok_state g w ≡ true
unfolding ok_state
is_stated g w v = join (state_tests g w) (search rules)

-- THE WAIT
pub record Waited (p : Pending) : Type 0 where
  pub wrong : leb p.wait.wrong most_wrong ≡ true
  pub held : (is_idle p.wait || is_holding p.wait) ≡ true
  pub room : all_zero (drop p.wait.size p.request) ≡ true

pub waited : (p : Pending) → ok_pending p ≡ true → Waited p
unfolding ok_pending
waited p e =
    let s = split (pending_tests p) e in search rules

pub is_waited : (p : Pending) → Waited p → ok_pending p ≡ true
unfolding ok_pending
is_waited p v = join (pending_tests p) (search rules)

-- THE FACE
pub record Valid (f : Face) : Type 0 where
  pub flags : ok_flags f.front.flags ≡ true
  pub ranges : ok_ranges f.front.fixed f.front.wallet ≡ true
  pub state : ok_state f.front.flags f.front.wallet ≡ true
  pub key : ok_key f.front.fixed.curve f.front.wallet.status f.front.key ≡ true
  pub pause : pause_known f.front.fixed ≡ true
  pub user : ok_block f.held.user ≡ true
  pub protected : ok_block f.held.protected ≡ true
  pub issuer : ok_issuer f.held.issuer ≡ true
  pub pending : ok_pending f.pending ≡ true
  pub last : ok_last f.last ≡ true
  pub owned : last_owned f.front.wallet f.last ≡ true

pub valid : (f : Face) → ok_face f ≡ true → Valid f
unfolding ok_face ok_front ok_held
valid f e =
    let s = split (face_tests f) e in
    let x = split (front_tests f.front) s.0 in
    let y = split (held_tests f.held) s.1.0 in
    search rules

pub is_valid : (f : Face) → Valid f → ok_face f ≡ true
unfolding ok_face ok_front ok_held
is_valid f v =
    let x = join (front_tests f.front) (search rules) in
    let y = join (held_tests f.held) (search rules) in
    join (face_tests f) (search rules)
