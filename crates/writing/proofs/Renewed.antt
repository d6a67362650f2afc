-- A GROUP WRITTEN ANEW: bytes that hold the image of a card hold, after a write of one group at its place, that of the card with this group anew.
-- Assumes nothing.
use Prim.Native.Nat.{ℕ, zero, suc, ◌+◌, ◌-◌, ◌≤◌, ◌<◌}
use native.Mathlib.Omega.{arith}
use mathlib.Core.Path.{◌≡◌, refl, sym, ap, ap₂, ◌∙◌}
use mathlib.Core.List.{List, [], ◌∷◌, ◌++◌, append_assoc, append-nil}
use lib.ListN.{length, take, drop, get_or, length-append, take-append-drop}
use lib.Seq.{take_at, drop_at, drop-cons}
use lib.Dec.{lit<}
use Rattle.wire.specs.Wire.{be1, be4, put, pad, Wrote, joined}
use Rattle.wire.proofs.Laws.{runs, joined_append}
use Rattle.card.specs.declared.Fixed.{Fixed}
use Rattle.card.specs.declared.Flags.{Flags}
use Rattle.card.specs.declared.Wallet.{Wallet}
use Rattle.card.specs.declared.Counters.{Counters}
use Rattle.card.specs.declared.Wait.{Wait}
use Rattle.card.specs.declared.Front.{Front}
use Rattle.card.specs.declared.Held.{Held}
use Rattle.card.specs.declared.Face.{Face}
use Rattle.card.specs.declared.Card.{Card}
use Rattle.card.specs.Layout.{pin_size, codes_at, fixed_at, pause_at, flags_at, wallet_at, key_at, counters_at, user_at, protected_at, issuer_at, pending_at, last_at}
use Rattle.card.specs.Layout.{codes_width, flags_width, wallet_width, key_width, counters_width, block_width, issuer_width, pending_width, last_width}
use Rattle.card.specs.Values.{held_key, held_block, held_issuer, held_request, held_last, faced}
use Rattle.card.specs.Values.{with_pause, with_flags, with_wallet, with_key, with_counters, with_user, with_protected, with_issuer, with_pending, with_last}
use Rattle.card.specs.Image.{enc_codes, enc_fixed, enc_flags, enc_wallet, enc_key, enc_counters, enc_block, enc_issuer, enc_pending, enc_last}
use Rattle.card.specs.Image.{enc_front, enc_held, enc_face, encode}
use Rattle.card.specs.Shape.{ShapeFixed, ShapeFace, Shape}
use Rattle.writing.specs.Holds.{Holds}
use Rattle.cards.proofs.Shape.{long_codes, long_flags, long_wallet, long_key, long_counters, long_block, long_issuer, long_pending, long_last}
use Rattle.cards.proofs.Shape.{held_codes_long, held_key_long, held_block_long, held_issuer_long, held_request_long, held_last_long}
use Rattle.cards.proofs.Shape.{held_codes_wide, held_key_wide, held_block_wide, held_issuer_wide, held_request_wide, held_last_wide}
use Rattle.cards.proofs.Shape.{shape_with_pause, shape_with_flags, shape_with_wallet, shape_with_key, shape_with_counters, shape_with_user}
use Rattle.cards.proofs.Shape.{shape_with_protected, shape_with_issuer, shape_with_pending, shape_with_last}

-- A SPLICE: a write over bytes of the same length changes them alone
splice : (a b z v : List ℕ) → length b ≡ length v → put (a ++ b ++ z) (length a) v ≡ a ++ v ++ z
unfolding put
splice a b z v e =
    let k : length (a ++ b) ≡ length a + length v = length-append a b ∙ ap (λ n. length a + n) e in
    ap₂ (λ x y. x ++ v ++ y)
    (ap (take (length a)) (append_assoc a b z) ∙ take_at a (b ++ z) (length a) refl)
    (drop_at (a ++ b) z (length a + length v) k)

spliced : {d v d' : List ℕ} {at r : ℕ} (a b z : List ℕ) → Wrote d at v d' r → d ≡ a ++ b ++ z → length a ≡ at → length b ≡ length v → d' ≡ a ++ v ++ z
spliced {d} {v} {at = at} a b z w e l k =
    let n : length d ≡ length a + length b + length z = ap length e ∙ length-append (a ++ b) z ∙ ap (λ m. m + length z) (length-append a b) in
    let h : at + length v ≤ length d = omega arith in
    (runs w h).bytes ∙ ap₂ (λ x m. put x m v) e (sym l) ∙ splice a b z v k

-- what is fixed, but for the pause at its end, which is a group of its own here
abbrev unpaused : Fixed → List ℕ
unpaused x = x.cid ++ x.cvc ++ be1 x.curve ++ be4 x.max ++ x.seed

long_unpaused : (x : Fixed) → ShapeFixed x → length (unpaused x) ≡ pause_at - fixed_at
long_unpaused x s = simp length-append (omega arith)

-- THE GROUPS of an image, and how long they are
abbrev groups : Card → List (List ℕ)
groups c =
    let x : Front = c.face.front in
    let y : Held = c.face.held in
    enc_codes c.codes ∷ unpaused x.fixed ∷ be1 x.fixed.pause ∷ enc_flags x.flags ∷ enc_wallet x.wallet ∷ enc_key x.key
    ∷ enc_counters x.counters ∷ enc_block y.user ∷ enc_block y.protected ∷ enc_issuer y.issuer
    ∷ enc_pending c.face.pending ∷ enc_last c.face.last ∷ []

abbrev widths : List ℕ
widths =
    codes_width ∷ (pause_at - fixed_at) ∷ 1 ∷ flags_width ∷ wallet_width ∷ key_width ∷ counters_width
    ∷ block_width ∷ block_width ∷ issuer_width ∷ pending_width ∷ last_width ∷ []

abbrev lengths : List (List ℕ) → List ℕ
lengths [] = []
lengths (v ∷ vs) = length v ∷ lengths vs

abbrev total : List ℕ → ℕ
total [] = 0
total (n ∷ ns) = n + total ns

in_groups : (c : Card) → encode c ≡ joined (groups c)
unfolding encode enc_face enc_front enc_fixed enc_held joined
in_groups c = simp (append_assoc, append-nil)

lengths_groups : (c : Card) → Shape c → lengths (groups c) ≡ widths
lengths_groups c s =
    let x : Front = c.face.front in
    let y : Held = c.face.held in
    let t = s.face.front in
    let u = s.face.held in
    λ i.
    long_codes c.codes s.codes i
    ∷ long_unpaused x.fixed t.fixed i
    ∷ 1
    ∷ long_flags x.flags i
    ∷ long_wallet x.wallet i
    ∷ long_key x.key t.key i
    ∷ long_counters x.counters i
    ∷ long_block y.user u.user i
    ∷ long_block y.protected u.protected i
    ∷ long_issuer y.issuer u.issuer i
    ∷ long_pending c.face.pending s.face.pending i
    ∷ long_last c.face.last s.face.last i
    ∷ []

-- where a group stands, and how long it is
place : (n : ℕ) (gs : List (List ℕ)) → length (joined (take n gs)) ≡ total (take n (lengths gs))
unfolding joined
place zero gs = refl
place (suc n) [] = refl
place (suc n) (g ∷ gs) = length-append g (joined (take n gs)) ∙ ap (λ m. length g + m) (place n gs)

width : (n : ℕ) (gs : List (List ℕ)) → length (get_or gs n []) ≡ get_or (lengths gs) n 0
width n [] = refl
width zero (g ∷ gs) = refl
width (suc n) (g ∷ gs) = width n gs

apart : (xs ys : List (List ℕ)) (b rest : List ℕ) → joined (xs ++ (b ∷ ys)) ++ rest ≡ joined xs ++ b ++ (joined ys ++ rest)
unfolding joined
apart xs ys b rest = rw (joined_append xs (b ∷ ys)) (simp append_assoc)

-- THE LAW: the n-th group written anew
renewed :
    {c : Card} {rest d v d' : List ℕ} {r : ℕ} (n : ℕ) → n < length widths → Wrote d (total (take n widths)) v d' r → Holds c rest d
    → length v ≡ get_or widths n 0
    → d' ≡ joined (take n (groups c) ++ (v ∷ drop (suc n) (groups c))) ++ rest
renewed {c} {rest} {v = v} n h w x l =
    let gs = groups c in
    let xs = take n gs in
    let ys = drop (suc n) gs in
    let b = get_or gs n [] in
    let m = lengths_groups c x.shape in
    let g = in_groups c ∙ ap joined (sym (take-append-drop n gs) ∙ ap (λ y. xs ++ y) (drop-cons gs n [] h)) in
    let e = x.bytes ∙ ap (λ y. y ++ rest) g ∙ apart xs ys b rest in
    let at = place n gs ∙ ap (λ y. total (take n y)) m in
    let long = width n gs ∙ ap (λ y. get_or y n 0) m ∙ sym l in
    spliced (joined xs) b (joined ys ++ rest) w e at long ∙ sym (apart xs ys v rest)

-- so the card that has v there is held
turned :
    {c : Card} {rest d v d' : List ℕ} {r : ℕ} (n : ℕ) → n < length widths → (c' : Card) → Shape c'
    → groups c' ≡ take n (groups c) ++ (v ∷ drop (suc n) (groups c))
    → length v ≡ get_or widths n 0 → Wrote d (total (take n widths)) v d' r → Holds c rest d → Holds c' rest d'
turned {rest = rest} n h c' s e l w x =
    record { shape = s; bytes = renewed n h w x l ∙ ap (λ y. y ++ rest) (ap joined (sym e) ∙ sym (in_groups c')) }

refaced :
    {c : Card} {rest d v d' : List ℕ} {r : ℕ} (n : ℕ) → n < length widths → (f : Face) → ShapeFace f
    → groups (faced f c) ≡ take n (groups c) ++ (v ∷ drop (suc n) (groups c))
    → length v ≡ get_or widths n 0 → Wrote d (total (take n widths)) v d' r → Holds c rest d → Holds (faced f c) rest d'
refaced {c} n h f s e l w x = turned n h (faced f c) (record { codes = x.shape.codes; face = s }) e l w x

module _ {c : Card} {rest d d' : List ℕ} {r : ℕ} where
  pub anew_codes :
      (a b : List ℕ) → Wrote d codes_at (enc_codes (record { pin1 = pad pin_size a; pin2 = pad pin_size b })) d' r → Holds c rest d
      → Holds (record { face = c.face; codes = record { pin1 = pad pin_size a; pin2 = pad pin_size b } }) rest d'
  anew_codes a b w x = turned 0 (lit< tt) _ (record { codes = held_codes_long a b; face = x.shape.face }) refl (held_codes_wide a b) w x

  pub anew_pause : (n : ℕ) → Wrote d pause_at (be1 n) d' r → Holds c rest d → Holds (faced (with_pause n c.face) c) rest d'
  anew_pause n w x = refaced 2 (lit< tt) _ (shape_with_pause c.face x.shape.face n) refl refl w x

  pub anew_flags : (y : Flags) → Wrote d flags_at (enc_flags y) d' r → Holds c rest d → Holds (faced (with_flags y c.face) c) rest d'
  anew_flags y w x = refaced 3 (lit< tt) _ (shape_with_flags c.face x.shape.face y) refl (long_flags y) w x

  pub anew_wallet : (y : Wallet) → Wrote d wallet_at (enc_wallet y) d' r → Holds c rest d → Holds (faced (with_wallet y c.face) c) rest d'
  anew_wallet y w x = refaced 4 (lit< tt) _ (shape_with_wallet c.face x.shape.face y) refl (long_wallet y) w x

  pub anew_key : (k : List ℕ) → Wrote d key_at (enc_key (held_key k)) d' r → Holds c rest d → Holds (faced (with_key (held_key k) c.face) c) rest d'
  anew_key k w x = refaced 5 (lit< tt) _ (shape_with_key c.face x.shape.face _ (held_key_long k)) refl (held_key_wide k) w x

  pub anew_counters : (y : Counters) → Wrote d counters_at (enc_counters y) d' r → Holds c rest d → Holds (faced (with_counters y c.face) c) rest d'
  anew_counters y w x = refaced 6 (lit< tt) _ (shape_with_counters c.face x.shape.face y) refl (long_counters y) w x

  pub anew_user : (b : List ℕ) → Wrote d user_at (enc_block (held_block b)) d' r → Holds c rest d → Holds (faced (with_user (held_block b) c.face) c) rest d'
  anew_user b w x = refaced 7 (lit< tt) _ (shape_with_user c.face x.shape.face _ (held_block_long b)) refl (held_block_wide b) w x

  pub anew_protected :
      (b : List ℕ) → Wrote d protected_at (enc_block (held_block b)) d' r → Holds c rest d → Holds (faced (with_protected (held_block b) c.face) c) rest d'
  anew_protected b w x = refaced 8 (lit< tt) _ (shape_with_protected c.face x.shape.face _ (held_block_long b)) refl (held_block_wide b) w x

  pub anew_issuer :
      (b s : List ℕ) (n : ℕ) → Wrote d issuer_at (enc_issuer (held_issuer b s n)) d' r → Holds c rest d
      → Holds (faced (with_issuer (held_issuer b s n) c.face) c) rest d'
  anew_issuer b s n w x = refaced 9 (lit< tt) _ (shape_with_issuer c.face x.shape.face _ (held_issuer_long b s n)) refl (held_issuer_wide b s n) w x

  pub anew_pending :
      (y : Wait) (q : List ℕ) → Wrote d pending_at (enc_pending (held_request y q)) d' r → Holds c rest d
      → Holds (faced (with_pending (held_request y q) c.face) c) rest d'
  anew_pending y q w x = refaced 10 (lit< tt) _ (shape_with_pending c.face x.shape.face _ (held_request_long y q)) refl (held_request_wide y q) w x

  pub anew_last : (s : List ℕ) → Wrote d last_at (enc_last (held_last s)) d' r → Holds c rest d → Holds (faced (with_last (held_last s) c.face) c) rest d'
  anew_last s w x = refaced 11 (lit< tt) _ (shape_with_last c.face x.shape.face _ (held_last_long s)) refl (held_last_wide s) w x
