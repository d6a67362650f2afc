-- WHAT MAKES AN IMAGE A CARD IS KEPT: by each method of the wallet, by what is held, and so by a face with a group anew. Assumes nothing.
use Prim.Native.Nat.{ℕ, ◌+◌, ◌-◌, ◌*◌, ◌/◌, ◌≤◌, ◌<◌}
use native.Mathlib.Omega.{arith}
use mathlib.Core.Path.{◌≡◌, refl, sym, ap, ap₂, ◌∙◌}
use mathlib.Core.Bool.{Bool, true, false, cond, not, ◌||◌}
use mathlib.Core.List.{List, [], ◌∷◌}
use lib.ListN.{length, get_or, replicate}
use lib.Dec.{leb, eqb}
use borrow.Author.Tests.{le-leb, leb-true, eq-eqb, eqb-true, eqb-false}
use Rattle.wire.specs.Wire.{pad, all_zero}
use Rattle.wire.proofs.Laws.{both_true}
use Rattle.wire.proofs.Parts.{pad_whole, pad_room, part_pad}
use Rattle.card.specs.declared.Fixed.{Fixed}
use Rattle.card.specs.declared.Flags.{Flags}
use Rattle.card.specs.declared.Wallet.{Wallet}
use Rattle.card.specs.declared.Last.{Last}
use Rattle.card.specs.declared.Face.{Face}
use Rattle.card.specs.Layout.{key_room, key_short, data_room, signature_size, most_hashes, last_room, top16}
use Rattle.card.specs.Values.{u8, u16, activated, created, spent, purged, after_purge, held_key, held_block, held_issuer, held_last, last_of, no_last}
use Rattle.card.specs.Valid.{is_loaded, key_size, key_tests, block_tests, issuer_tests, last_tests}
use Rattle.card.specs.Valid.{ok_flags, ok_ranges, ok_state, ok_key, ok_block, ok_issuer, ok_last, last_owned, ok_face}
use Rattle.kept.proofs.Tests.{or_true, split, join, flagged, ranged, is_ranged, stated, is_stated, valid}

or_left : (a : Bool) → (a || false) ≡ true → a ≡ true
or_left true e = refl
or_left false e = e

-- THE WALLET, F8: Empty before, and a number that may rise
once_more : (a : Bool) (n : ℕ) → (a || eqb n 0) ≡ true → (a || eqb (u16 (n + 1)) 1) ≡ true
once_more true n e = refl
once_more false n e = let z : n ≡ 0 = eqb-true n 0 e in eq-eqb (u16 (n + 1)) 1 (omega arith)

module _ (x : Fixed) (g : Flags) (w : Wallet) (ranges : ok_ranges x w ≡ true) (state : ok_state g w ≡ true) where
  pub keeps_create :
      w.status ≡ 1 → w.number < top16 → g.active ≡ 1
      → (ok_ranges x (created x.max w) ≡ true) × (ok_state g (created x.max w) ≡ true) × ((l : Last) → last_owned (created x.max w) l ≡ true)
  keeps_create empty low awake =
      let r = ranged x w ranges in
      let s = stated g w state in
      let next = created x.max w in
      let one : 1 ≤ next.number = omega arith in
      let once : (eqb g.reusable 1 || eqb w.number 0) ≡ true = rw (eq-eqb _ _ empty) at s.once in (
        is_ranged x next (record { curve = r.curve; max = r.max; status = refl; remaining = le-leb x.max x.max (omega arith); idle = refl }),
        is_stated g next
            (record {
              begun = le-leb 1 next.number one;
              once = once_more (eqb g.reusable 1) w.number once;
              purges = or_true (eqb g.reusable 0) refl;
              asleep = rw (eq-eqb _ _ awake);
            }),
        λ l. refl,
      )

-- FB: whatever the number of hashes
or_less : (a : Bool) (n : ℕ) → (a || eqb n 0) ≡ true → (a || eqb (n - 1) 0) ≡ true
or_less true n e = refl
or_less false n e = let z : n ≡ 0 = eqb-true n 0 e in eq-eqb (n - 1) 0 (omega arith)

module _ (x : Fixed) (g : Flags) (n : ℕ) (w : Wallet) where
  pub keeps_sign : ok_ranges x w ≡ true → ok_state g w ≡ true → (ok_ranges x (spent n w) ≡ true) × (ok_state g (spent n w) ≡ true)
  keeps_sign ranges state =
      let r = ranged x w ranges in
      let s = stated g w state in
      let low = leb-true w.remaining x.max r.remaining in (
        is_ranged x (spent n w)
            (record {
              curve = r.curve;
              max = r.max;
              status = r.status;
              remaining = le-leb (w.remaining - 1) x.max (omega arith);
              idle = or_less (eqb w.status 2) w.remaining r.idle;
            }),
        is_stated g (spent n w) (record { begun = s.begun; once = s.once; purges = s.purges; asleep = s.asleep }),
      )

-- FC: Loaded before; Empty after where the card is reusable, and else Purged
after_known : (b : Bool) → (eqb (cond b 1 3) 1 || (eqb (cond b 1 3) 2 || eqb (cond b 1 3) 3)) ≡ true
after_known true = refl
after_known false = refl

after_once : (b : Bool) (n : ℕ) → (b || eqb n 1) ≡ true → (b || eqb n (cond (eqb (cond b 1 3) 1) 0 1)) ≡ true
after_once true n e = refl
after_once false n e = e

after_purges : (m : ℕ) → m ≤ 1 → (b : Bool) → eqb m 1 ≡ b → (eqb m 0 || (eqb (cond b 1 3) 1 || eqb (cond b 1 3) 2)) ≡ true
after_purges m h true e = or_true (eqb m 0) refl
after_purges m h false e = let n = eqb-false m 1 e in let z : m ≡ 0 = omega arith in rw (eq-eqb m 0 z)

module _ (x : Fixed) (g : Flags) (w : Wallet) (ranges : ok_ranges x w ≡ true) (state : ok_state g w ≡ true) where
  pub keeps_purge :
      w.status ≡ 2 → g.reusable ≤ 1
      → (ok_ranges x (purged g.reusable w) ≡ true) × (ok_state g (purged g.reusable w) ≡ true)
      × (last_owned (purged g.reusable w) (held_last []) ≡ true)
  keeps_purge loaded flag =
      let r = ranged x w ranges in
      let s = stated g w state in
      let again = eqb g.reusable 1 in
      let next = purged g.reusable w in
      let begun : leb 1 w.number ≡ true = rw loaded at s.begun in
      let once : (again || eqb w.number 1) ≡ true = rw loaded at s.once in
      let awake : eqb g.active 1 ≡ true = or_left (eqb g.active 1) (rw loaded at s.asleep) in (
        is_ranged x next
            (record {
              curve = r.curve;
              max = r.max;
              status = after_known again;
              remaining = le-leb 0 x.max (omega arith);
              idle = or_true (eqb next.status 2) refl;
            }),
        is_stated g next
            (record {
              begun = or_true (eqb next.status 1) begun;
              once = after_once again w.number once;
              purges = after_purges g.reusable flag again refl;
              asleep = rw awake;
            }),
        or_true (eqb next.status 2) refl,
      )

-- FE: activated, in whatever state
module _ (g : Flags) (w : Wallet) where
  pub keeps_activate : ok_flags g ≡ true → ok_state g w ≡ true → (ok_flags (activated g) ≡ true) × (ok_state (activated g) w ≡ true)
  unfolding ok_flags
  keeps_activate flags state =
      let x = flagged g flags in
      let s = stated g w state in (
        rw (x.reusable, x.usecvc, x.setpin1, x.setpin2, x.nopurge, x.replay),
        is_stated (activated g) w (record { begun = s.begun; once = s.once; purges = s.purges; asleep = refl }),
      )

-- WHAT IS HELD: a key of the size that curve and status ask for, where it fills its room only with 04 in front
key_small : (curve status : ℕ) → key_size curve status ≤ key_room
unfolding key_size
key_small curve status = go (eqb status 2) (eqb curve 1)
  where
    go : (a b : Bool) → cond a (cond b key_room key_short) 0 ≤ key_room
    go true true = omega arith
    go true false = omega arith
    go false b = omega arith

four :
    (n : ℕ) (x : List ℕ) → length x ≤ key_room → (length x ≡ key_room → get_or x 0 0 ≡ 4) → n ≡ length x → (b : Bool) → eqb n key_room ≡ b
    → (not b || eqb (get_or (pad key_room x) 0 0) 4) ≡ true
four n x h k e false b = refl
four n x h k e true b =
    let z : length x ≡ key_room = sym e ∙ eqb-true n key_room b in
    rw (pad_whole key_room x z) (eq-eqb (get_or x 0 0) 4 (k z))

module _ (curve status : ℕ) (k : List ℕ) (long : length k ≡ key_size curve status) (start : length k ≡ key_room → get_or k 0 0 ≡ 4) where
  pub held_key_ok : ok_key curve status (held_key k) ≡ true
  unfolding ok_key
  held_key_ok =
      let n = u8 (length k) in
      let h : length k ≤ key_room = omega (arith, key_small curve status) in
      let e : n ≡ length k = omega arith in
      join (key_tests curve status (held_key k))
      (eq-eqb n (key_size curve status) (e ∙ long), (four n k h start e (eqb n key_room) refl, rw e (pad_room key_room k h)))

pub held_block_ok : (d : List ℕ) → length d ≤ data_room → ok_block (held_block d) ≡ true
unfolding ok_block
held_block_ok d h =
    let e : u16 (length d) ≡ length d = omega arith in
    let i : u16 (length d) ≤ data_room = omega arith in
    join (block_tests (held_block d)) (le-leb (u16 (length d)) data_room i, rw e (pad_room data_room d h))

pub held_issuer_ok : (d s : List ℕ) (n : ℕ) → 1 ≤ length d → length d ≤ data_room → ok_issuer (held_issuer d s n) ≡ true
unfolding ok_issuer
held_issuer_ok d s n l h =
    let i : 1 ≤ u16 (length d) = omega arith in
    join (issuer_tests (held_issuer d s n)) (held_block_ok d h, rw (le-leb 1 (u16 (length d)) i))

pub held_last_ok : (s : List ℕ) (n : ℕ) → length s ≡ n * signature_size → n ≤ most_hashes → ok_last (held_last s) ≡ true
unfolding ok_last
held_last_ok s n l h =
    let e : u8 (length s / signature_size) ≡ n = omega arith in
    let i : u8 (length s / signature_size) ≤ most_hashes = omega arith in
    let z : u8 (length s / signature_size) * signature_size ≡ length s = omega arith in
    let k : length s ≤ last_room = omega arith in
    join (last_tests (held_last s)) (le-leb (u8 (length s / signature_size)) most_hashes i, rw z (pad_room last_room s k))

-- and the last signatures are what was given
pub last_of_held : (s : List ℕ) (n : ℕ) → length s ≡ n * signature_size → n ≤ most_hashes → last_of (held_last s) ≡ s
unfolding last_of
last_of_held s n l h =
    let z : u8 (length s / signature_size) * signature_size ≡ length s = omega arith in
    let k : length s ≤ last_room = omega arith in
    rw z (part_pad last_room s k)

-- no key where the card is not Loaded, as after a purge
key_none : (curve status : ℕ) → eqb status 2 ≡ false → 0 ≡ key_size curve status
unfolding key_size
key_none curve status e = rw e

no_key_ok : (curve status : ℕ) → eqb status 2 ≡ false → ok_key curve status (held_key []) ≡ true
no_key_ok curve status e = held_key_ok curve status [] (key_none curve status e) (λ z. absurd (let n : ◌≡◌ {A = ℕ} 0 key_room = z in omega arith))

pub purged_key_ok : (curve reusable : ℕ) → ok_key curve (after_purge reusable) (held_key []) ≡ true
purged_key_ok curve reusable = no_key_ok curve (after_purge reusable) (go (eqb reusable 1))
  where
    go : (b : Bool) → eqb (cond b 1 3) 2 ≡ false
    go true = refl
    go false = refl

-- AN EMPTY OR PURGED CARD HOLDS NO SIGNATURES, and their room is zero
pub zeros : (l : List ℕ) → all_zero l ≡ true → l ≡ replicate (length l) 0
unfolding all_zero
zeros [] e = refl
zeros (x ∷ l) e = let y = both_true (eqb x 0) (all_zero l) e in ap₂ ◌∷◌ (eqb-true x 0 y.0) (zeros l y.1)

pub holds_none : (f : Face) → ok_face f ≡ true → length f.last.signatures ≡ last_room → is_loaded f.front.wallet ≡ false → f.last ≡ no_last
unfolding ok_last
holds_none f ok long none =
    let v = valid f ok in
    let count : f.last.count ≡ 0 = eqb-true f.last.count 0 (rw none at v.owned) in
    let zero : all_zero f.last.signatures ≡ true = rw count at (split (last_tests f.last) v.last).1 in
    λ i. record { count = count i; signatures = (zeros f.last.signatures zero ∙ ap (λ n. replicate n 0) long) i }
