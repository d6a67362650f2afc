-- THE CONDUCT of a command that is carried out: what it reports, and what of card and history it keeps, as one record; whatever holds of all commands cites
-- that. Assumes nothing.
use Prim.Native.Nat.{ℕ, ◌≤◌}
use native.Mathlib.Omega.{arith}
use mathlib.Core.Path.{◌≡◌, refl, sym, ap, ◌∙◌}
use mathlib.Core.List.{List, [], ◌∷◌, ◌++◌}
use mathlib.Core.Bool.{Bool, true, false, cond, not, ◌&&◌, ◌||◌}
use lib.Dec.{eqb}
use borrow.Author.Tests.{eqb-true}
use Rattle.wire.specs.Wire.{be1, be4}
use Rattle.fields.specs.Fields.{View, val, Tagged, among, first_of}
use Rattle.card.specs.declared.Codes.{Codes}
use Rattle.card.specs.declared.Face.{Face}
use Rattle.card.specs.Valid.{ok_face}
use Rattle.manual.specs.Tags.{Status, Signature, Remaining, SignedHashes}
use Rattle.manual.specs.declared.Command.{Command}
use Rattle.manual.specs.declared.Needs.{Needs}
use Rattle.manual.specs.Request.{code}
use Rattle.manual.specs.Row.{allowed, shaped}
use Rattle.manual.specs.Storage.{guarded}
use Rattle.manual.specs.Commands.{row}
use Rattle.manual.specs.Settle.{sent_in, fields_of}
use Rattle.story.specs.Sums.{Sheet, History, tap, told_in, uses_wallet}
use Rattle.history.specs.Demands.{all_kinds, may_ask}
use Rattle.history.proofs.Choice.{both_true, clash, Did}
use Rattle.history.proofs.Seen.{look, Watched, watch, Inv}

-- what is told of Status, Remaining and Signed_Hashes is what the card after holds; Remaining, of a live wallet only
pub record Reports (f : Watched) (fs : List Tagged) : Type 0 where
  pub state : among Status fs ≡ true → first_of Status fs ≡ be1 f.wallet.status
  pub signed : among SignedHashes fs ≡ true → first_of SignedHashes fs ≡ be4 f.wallet.signed
  pub remaining : among Remaining fs ≡ true → (first_of Remaining fs ≡ be4 f.wallet.remaining) × (f.wallet.status ≡ 2)

-- the stored counter of a protected card never falls
pub record Climbs (f g : Face) : Type 0 where
  pub replay : g.front.flags.replay ≡ f.front.flags.replay
  pub counter : f.held.issuer.counter ≤ g.held.issuer.counter

-- k, asked for by q on a card with face f, with draw d and answers a
module _ (k : Command) (f : Face) (q d a : List ℕ) where
  abbrev v : View
  v = sent_in q

  -- the face after
  abbrev g : Face
  g = (row k).next f v a

  pub record Conduct : Type 0 where
    pub reports : Reports (watch g) (fields_of (row k) g v d a)
    -- what it asks it may ask
    pub asks : all_kinds (may_ask (code k) f.front.wallet.status) ((row k).questions f v d) ≡ true
    -- card and history stay in step
    pub keeps :
        (sh : Sheet) (x : Codes) (h : History) (r : List ℕ) → Inv sh (watch f) x (look sh h) → Did k (tap q r)
        → first_of Signature (fields_of (row k) g v d a) ≡ val Signature (told_in r) → Inv sh (watch g) ((row k).recode v x) (look sh (tap q r ∷ h))
    -- what is left of a card is a card
    pub stays : ok_face f ≡ true → shaped ((row k).questions f v d) a ≡ true → ok_face g ≡ true
    -- not on a purged card, where it makes a wallet or a wallet signature
    pub alive : uses_wallet (code k) ≡ true → f.front.wallet.status ≡ 3 → ⊥
    pub climbs : guarded f ≡ true → Climbs f g

-- FOR THE COMMANDS. Fields with none of these tags
abbrev counts : ℕ → Bool
counts t = eqb t Status || (eqb t SignedHashes || eqb t Remaining)

abbrev pub quiet : List Tagged → Bool
quiet [] = true
quiet (f ∷ fs) = not (counts f.tag) && quiet fs

not_among : (t : ℕ) → counts t ≡ true → (fs : List Tagged) → quiet fs ≡ true → among t fs ≡ false
not_among t c [] e = refl
not_among t c (f ∷ fs) e =
    let y = both_true (not (counts f.tag)) (quiet fs) e in
    rw (other (eqb f.tag t) refl y.0) (not_among t c fs y.1)
  where
    other : (b : Bool) → eqb f.tag t ≡ b → not (counts f.tag) ≡ true → b ≡ false
    other true h n = clash (ap (λ x. not (counts x)) (sym (eqb-true f.tag t h)) ∙ n) (ap not c)
    other false h n = refl

pub quietly : (f : Watched) (fs : List Tagged) → quiet fs ≡ true → Reports f fs
quietly f fs n =
    record {
      state = λ e. clash e (not_among Status refl fs n);
      signed = λ e. clash e (not_among SignedHashes refl fs n);
      remaining = λ e. clash e (not_among Remaining refl fs n);
    }

pub quiet_join : (fs gs : List Tagged) → quiet fs ≡ true → quiet gs ≡ true → quiet (fs ++ gs) ≡ true
quiet_join [] gs x y = y
quiet_join (f ∷ fs) gs x y = let z = both_true (not (counts f.tag)) (quiet fs) x in rw z.0 (quiet_join fs gs z.1 y)

-- a command for a live wallet alone, or for an Empty card alone
module _ (n : Needs) (s : ℕ) (e : allowed n s ≡ true) where
  pub loaded : n.empty ≡ false → n.purged ≡ false → s ≡ 2
  unfolding allowed
  loaded x y = go (eqb s 1) (eqb s 2) e (eqb-true s 2)
    where
      go : (a b : Bool) → cond a n.empty (cond b n.loaded n.purged) ≡ true → (b ≡ true → s ≡ 2) → s ≡ 2
      go true b e h = clash e x
      go false true e h = h refl
      go false false e h = clash e y

  pub emptied : n.loaded ≡ false → n.purged ≡ false → s ≡ 1
  unfolding allowed
  emptied x y = go (eqb s 1) (eqb s 2) e (eqb-true s 1)
    where
      go : (a b : Bool) → cond a n.empty (cond b n.loaded n.purged) ≡ true → (a ≡ true → s ≡ 1) → s ≡ 1
      go true b e h = h refl
      go false true e h = clash e x
      go false false e h = clash e y

  -- a command that a Purged card does not allow
  pub not_purged : n.purged ≡ false → s ≡ 3 → ⊥
  unfolding allowed
  not_purged x z = clash (rw z at e) x

pub same : {f g : Face} → g.front.flags.replay ≡ f.front.flags.replay → g.held.issuer ≡ f.held.issuer → Climbs f g
same {f} {g} e i = record { replay = e; counter = omega (arith, ap (λ x. x.counter) i) }
