-- Laws of choices, and of the INS byte. Assumes nothing.
use Prim.Native.Nat.{ℕ}
use native.Mathlib.Omega.{arith}
use mathlib.Core.Path.{◌≡◌, refl, sym, ap, ◌∙◌}
use mathlib.Core.List.{List, [], ◌∷◌}
use mathlib.Core.Bool.{Bool, true, false, ◌&&◌, ◌||◌}
use lib.Dec.{eqb}
use borrow.Author.Tests.{eq-eqb, eqb-true}
use Rattle.std.specs.Prelude.{Result, Ok, Err}
pub use Rattle.wire.proofs.Laws.{by_cases, both_true}
use Rattle.manual.specs.declared.Command.{Command}
use Rattle.manual.specs.declared.Command.TheVariants.{ReadCard, CreateWallet, CheckWallet, SetPin, Sign, PurgeWallet, WriteIssuerData, ActivateCard}
use Rattle.manual.specs.declared.Unlisted.{Unlisted}
use Rattle.manual.specs.Request.{code, commands, listed_in, ins_of, listed, command_of, command}
use Rattle.history.specs.Demands.{is_card_kind, may_ask}
use Rattle.story.specs.Sums.{Tap, tap, accepted, ins, did, uses_wallet}

pub clash : {A : Type 0} {b : Bool} → b ≡ true → b ≡ false → A
clash p q = let z : ◌≡◌ {A = ℕ} 0 1 = cc in absurd (omega arith)

pub or_false : (a b : Bool) → (a || b) ≡ true → a ≡ false → b ≡ true
or_false true b e h = cc
or_false false b e h = e

pub or_other : (a b : Bool) → (a || b) ≡ true → b ≡ false → a ≡ true
or_other true b e h = refl
or_other false b e h = clash e h

-- A REQUEST FOR A COMMAND has its INS; READ_CARD stands for what is not listed too
abbrev Known : ℕ → Result Command Unlisted → Type 0
Known i (Ok k) = i ≡ code k
Known i (Err e) = Unit {0}

known : (ks : List Command) (i : ℕ) → Known i (listed_in ks i)
known [] i = tt
known (k ∷ ks) i = by_cases (Known i) (eqb i (code k)) (λ e. eqb-true i (code k) e) (λ _. known ks i)

pub listed_ins : (q : List ℕ) → listed (ins_of (ins q)) ≡ true → ins q ≡ code (command q)
unfolding ins_of
listed_ins q = go (ins_of (ins q)) (known commands (ins q))
  where
    go : (z : Result Command Unlisted) → Known (ins q) z → listed z ≡ true → ins q ≡ code (command_of z)
    go (Ok k) h e = h
    go (Err _) h e = clash e refl

-- of a command that is listed, and is not READ_CARD
module _ (k : Command) (listed : listed_in commands (code k) ≡ Ok k) where
  pub by_ins : (q : List ℕ) → ins q ≡ code k → command q ≡ k
  unfolding ins_of
  by_ins q e = ap (λ i. command_of (ins_of i)) e ∙ ap command_of listed

  ins_is : eqb (code ReadCard) (code k) ≡ false → (q : List ℕ) → eqb (ins q) (code k) ≡ eqb (code (command q)) (code k)
  unfolding ins_of
  ins_is other q = go (eqb (ins q) (code k)) refl
    where
      unlike : (z : Result Command Unlisted) → Known (ins q) z → eqb (ins q) (code k) ≡ false → eqb (code (command_of z)) (code k) ≡ false
      unlike (Ok j) h e = ap (λ i. eqb i (code k)) (sym h) ∙ e
      unlike (Err _) h e = other

      go : (b : Bool) → eqb (ins q) (code k) ≡ b → b ≡ eqb (code (command q)) (code k)
      go true e = sym (ap (λ j. eqb (code j) (code k)) (by_ins q (eqb-true (ins q) (code k) e)) ∙ eq-eqb (code k) (code k) refl)
      go false e = sym (unlike (ins_of (ins q)) (known commands (ins q)) e)

  -- the command of a tap that did it
  did_is : (t : Tap) → did k t ≡ true → (accepted t.response ≡ true) × (command t.request ≡ k)
  did_is t e =
      let y = both_true (accepted t.response) (eqb (ins t.request) (code k)) e in
      (y.0, by_ins t.request (eqb-true (ins t.request) (code k) y.1))

-- an accepted command has one INS
pub one_ins : (t : Tap) (j k : Command) → eqb (code j) (code k) ≡ false → did j t ≡ true → did k t ≡ false
one_ins t j k n e =
    let z = both_true (accepted t.response) (eqb (ins t.request) (code j)) e in
    let w : ins t.request ≡ code j = eqb-true _ _ z.1 in
    rw (z.0, w) n

-- which sums a tap that was accepted counts in, by its command
pub record Did (k : Command) (t : Tap) : Type 0 where
  pub create : did CreateWallet t ≡ eqb (code k) (code CreateWallet)
  pub pin : did SetPin t ≡ eqb (code k) (code SetPin)
  pub sign : did Sign t ≡ eqb (code k) (code Sign)
  pub purge : did PurgeWallet t ≡ eqb (code k) (code PurgeWallet)
  pub activate : did ActivateCard t ≡ eqb (code k) (code ActivateCard)

pub did_by : (q r : List ℕ) → accepted r ≡ true → Did (command q) (tap q r)
did_by q r e =
    record {
      create = rw e (ins_is CreateWallet refl refl q);
      pin = rw e (ins_is SetPin refl refl q);
      sign = rw e (ins_is Sign refl refl q);
      purge = rw e (ins_is PurgeWallet refl refl q);
      activate = rw e (ins_is ActivateCard refl refl q);
    }

pub did_read : (t : Tap) → did ReadCard t ≡ true → (accepted t.response ≡ true) × (command t.request ≡ ReadCard)
did_read = did_is ReadCard refl

pub did_sign : (t : Tap) → did Sign t ≡ true → (accepted t.response ≡ true) × (command t.request ≡ Sign)
did_sign = did_is Sign refl

pub did_purge : (t : Tap) → did PurgeWallet t ≡ true → (accepted t.response ≡ true) × (command t.request ≡ PurgeWallet)
did_purge = did_is PurgeWallet refl

pub did_activate : (t : Tap) → did ActivateCard t ≡ true → (accepted t.response ≡ true) × (command t.request ≡ ActivateCard)
did_activate = did_is ActivateCard refl

pub did_note : (t : Tap) → did WriteIssuerData t ≡ true → (accepted t.response ≡ true) × (command t.request ≡ WriteIssuerData)
did_note = did_is WriteIssuerData refl

-- what a request may ask is what its command may ask
pub may_ask_lem : (q : List ℕ) (state k : ℕ) → may_ask (ins q) state k ≡ may_ask (code (command q)) state k
may_ask_lem q state k = rw (ins_is CreateWallet refl refl q, ins_is CheckWallet refl refl q, ins_is Sign refl refl q)

-- and of a purged card: what is the card key's or the issuer's
pub may_ask_purged : (n k : ℕ) → may_ask n 3 k ≡ is_card_kind k
may_ask_purged n k =
    rw (never (eqb k 1) (eqb n (code CreateWallet)), never (eqb k 2) (eqb n (code Sign)), never (eqb k 3) (eqb n (code CheckWallet)))
    (or_never (is_card_kind k))
  where
    never : (a b : Bool) → (a && (b && false)) ≡ false
    never true true = refl
    never true false = refl
    never false b = refl

    or_never : (a : Bool) → (a || false) ≡ a
    or_never true = refl
    or_never false = refl

pub uses_by : (q : List ℕ) → uses_wallet (ins q) ≡ true → uses_wallet (code (command q)) ≡ true
uses_by q u = rw (← ins_is CreateWallet refl refl q, ← ins_is CheckWallet refl refl q, ← ins_is Sign refl refl q) u
