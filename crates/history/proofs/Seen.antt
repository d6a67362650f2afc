-- What a history shows, together, and THE INVARIANT of a card and its history. Assumes nothing.
use Prim.Native.Nat.{ℕ, zero, suc, ◌+◌, ◌≤◌, ◌<◌}
use native.Mathlib.Omega.{arith}
use mathlib.Core.Path.{◌≡◌, refl, sym, ap, ◌∙◌}
use mathlib.Core.List.{List, [], ◌∷◌}
use mathlib.Core.Bool.{Bool, true, false}
use lib.Dec.{eqb}
use Rattle.wire.proofs.Laws.{part_none}
use Rattle.card.specs.declared.Codes.{Codes}
use Rattle.card.specs.declared.Fixed.{Fixed}
use Rattle.card.specs.declared.Flags.{Flags}
use Rattle.card.specs.declared.Wallet.{Wallet}
use Rattle.card.specs.declared.Last.{Last}
use Rattle.card.specs.declared.Face.{Face}
use Rattle.card.specs.Layout.{top32}
use Rattle.card.specs.Values.{last_of, fresh}
use Rattle.story.specs.Sums.{Sheet, Tap, History, accepted, active, wallets, status, ever_purged, made, total, codes}
use Rattle.history.specs.Demands.{flags_by, given}
use Rattle.history.proofs.Choice.{clash}

pub record Seen : Type 0 where
  pub active : ℕ
  pub codes : Codes
  pub status : ℕ
  pub ever_purged : Bool
  pub number : ℕ
  pub made : ℕ
  pub total : ℕ
  pub given : List ℕ

abbrev pub look : Sheet → History → Seen
look sh h =
    record {
      active = active sh h;
      codes = codes sh h;
      status = status sh h;
      ever_purged = ever_purged h;
      number = wallets h;
      made = made h;
      total = total h;
      given = given h;
    }

-- a tap that was not accepted adds nothing
pub look_none : (sh : Sheet) (t : Tap) (h : History) → accepted t.response ≡ false → look sh (t ∷ h) ≡ look sh h
look_none sh t h e = rw (e, e)

-- the part of the card that histories speak of
pub record Watched : Type 0 where
  pub fixed : Fixed
  pub flags : Flags
  pub wallet : Wallet
  pub last : Last

abbrev pub watch : Face → Watched
watch f = record { fixed = f.front.fixed; flags = f.front.flags; wallet = f.front.wallet; last = f.last }

-- THE INVARIANT: what is watched of the card, its codes, and what its history shows
pub record Inv (sh : Sheet) (f : Watched) (x : Codes) (s : Seen) : Type 0 where
  pub fixed : f.fixed ≡ sh.fixed
  pub flags : f.flags ≡ flags_by s.active sh.flags
  pub codes : x ≡ s.codes
  pub status : f.wallet.status ≡ s.status
  pub number : f.wallet.number ≡ s.number
  pub total : f.wallet.signed ≡ s.total
  pub fits : f.wallet.signed ≤ top32
  pub last : last_of f.last ≡ s.given
  pub held : 0 < f.last.count → (s.status ≡ 2) × (1 ≤ s.made)
  pub balance : s.status ≡ 2 → f.wallet.remaining + s.made ≡ sh.fixed.max
  pub asleep : eqb s.active 1 ≡ false → s.status ≡ 1
  pub purged : sh.flags.reusable ≡ 0 → s.ever_purged ≡ true → s.status ≡ 3

module _ (sh : Sheet) where
  pub at_first_lem : Inv sh (watch (fresh sh.fixed sh.flags sh.codes).face) (fresh sh.fixed sh.flags sh.codes).codes (look sh [])
  unfolding fresh last_of
  at_first_lem =
      record {
        fixed = refl;
        flags = refl;
        codes = refl;
        status = refl;
        number = refl;
        total = refl;
        fits = omega arith;
        last = part_none _ 0;
        held = λ e. absurd (omega arith);
        balance = λ e. absurd (omega arith);
        asleep = λ _. refl;
        purged = λ r e. clash e refl;
      }

-- a card is activated where its history is
pub awake : {sh : Sheet} {f : Watched} {x : Codes} {s : Seen} → Inv sh f x s → {b : Bool} → eqb f.flags.active 1 ≡ b → eqb s.active 1 ≡ b
awake i e = ap (λ (g : Flags). eqb g.active 1) (sym i.flags) ∙ e

-- no signatures are held where no wallet lives, and none held is none told
pub none_held : {sh : Sheet} {f : Watched} {x : Codes} {s : Seen} → Inv sh f x s → (s.status ≡ 2 → ⊥) → f.last.count ≡ 0
none_held {sh} {f} {x} {s} i n = go f.last.count i.held
  where
    go : (k : ℕ) → (0 < k → (s.status ≡ 2) × (1 ≤ s.made)) → k ≡ 0
    go zero h = refl
    go (suc k) h = absurd (n (h (omega arith)).0)

pub none_told : (l : Last) → l.count ≡ 0 → last_of l ≡ []
unfolding last_of
none_told l e = rw e (part_none l.signatures 0)
