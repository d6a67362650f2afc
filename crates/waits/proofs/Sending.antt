-- A CALL, by any card that meets demand 2: what settle returns and the image that it leaves, by what is said. Assumes nothing.
use Prim.Native.Nat.{ℕ}
use mathlib.Core.Path.{◌≡◌, refl, sym, ap, ◌∙◌}
use mathlib.Core.List.{List}
use mathlib.Core.Bool.{Bool, true, false}
use lib.ListN.{length}
use lib.Dec.{eqb}
use borrow.Author.Tests.{le-leb, eq-eqb, eqb-true}
use Rattle.card.specs.declared.Codes.{Codes}
use Rattle.card.specs.declared.Pending.{Pending}
use Rattle.card.specs.declared.Card.{Card}
use Rattle.card.specs.Layout.{image_room}
use Rattle.card.specs.Image.{encode, decode}
use Rattle.card.specs.Valid.{is_card}
use Rattle.manual.specs.Words.{response_room, draw_size}
use Rattle.manual.specs.Settle.{State, Call, Said, leaving, waiting, card_after, lent, settled_of, roomy}
use Rattle.story.specs.Buffers.{image, response}
use Rattle.history.specs.Demands.{AnyCard, Demand2, settle_stop, image_by}
use Rattle.history.specs.Waiting.{Sends}
use Rattle.history.proofs.Theorems.{demand1}
use Rattle.history.proofs.Images.{said_at, card_at, settled_at, stop_none, looked, response_is, image_bytes, image_is}

-- the number that settle returns is the one that is said
lent_number : (s : Said) (c : Card) (out nxt : List ℕ) → (lent s c out nxt).result.number ≡ s.number
unfolding lent
lent_number s c out nxt = go (eqb s.number 0) refl
  where
    go : (b : Bool) → eqb s.number 0 ≡ b → (lent s c out nxt).result.number ≡ s.number
    go true e = rw e (sym (eqb-true s.number 0 e))
    go false e = rw e refl

-- what is said with this wait is what is said, with this wait in the card that is left
pub lent_leaving :
    (p : Pending) (s : Said) (x : Codes) (q out nxt : List ℕ)
    → lent (leaving p s) (card_after (leaving p s) x q) out nxt ≡ lent s (waiting p (card_after s x q)) out nxt
unfolding lent
lent_leaving p s x q out nxt = go (eqb s.number 0) refl
  where
    go : (b : Bool) → eqb s.number 0 ≡ b
        → lent (leaving p s) (card_after (leaving p s) x q) out nxt ≡ lent s (waiting p (card_after s x q)) out nxt
    go true e = rw e refl
    go false e = rw e refl

-- a call that sends q has what settle takes
pub sends_goes : {q : List ℕ} {i : Call} (s : State) → is_card s.image ≡ true → Sends q i → settle_stop s i ≡ 0
unfolding roomy
sends_goes {i = i} s o x =
    let b = i.buffers in
    rw (o, le-leb response_room (length b.out) x.out, le-leb image_room (length b.next) x.next, eq-eqb (length i.draw) draw_size x.draw) refl

module _ {f : AnyCard} (h : Demand2 f) (s : State) (i : Call) (go : settle_stop s i ≡ 0) where
  pub is_card_lem : is_card s.image ≡ true
  is_card_lem = (stop_none (is_card s.image) (roomy (length i.buffers.out) (length i.buffers.next)) (eqb (length i.draw) draw_size) go).0

  pub settle_is : f.taps.settle s i ≡ settled_at s i
  settle_is = h.settles s i ∙ looked s i go

  pub says : response (f.taps.settle s i) ≡ (said_at s i).response
  says = ap response settle_is ∙ response_is s i

  pub spells : decode (image_by f s i) ≡ card_at s i
  spells = ap (λ x. decode (image s.image x)) settle_is ∙ image_is s i is_card_lem

  pub number_is : (f.taps.settle s i).result.number ≡ (said_at s i).number
  unfolding settled_of
  number_is = ap (λ z. z.result.number) settle_is ∙ lent_number (said_at s i) (card_at s i) i.buffers.out i.buffers.next

  -- where this is said
  module _ {z : Said} (e : said_at s i ≡ z) where
    pub settles_as : f.taps.settle s i ≡ lent z (card_after z (decode s.image).codes i.request) i.buffers.out i.buffers.next
    unfolding settled_of
    settles_as = settle_is ∙ ap (λ x. lent x (card_after x (decode s.image).codes i.request) i.buffers.out i.buffers.next) e

    pub leaves_as : z.number ≡ 0 → image_by f s i ≡ encode (card_after z (decode s.image).codes i.request)
    leaves_as n =
        ap (image s.image) settle_is
        ∙ image_bytes s i is_card_lem
        ∙ rw (e, n) refl

-- with number 0 it is none of 1 to 3
pub number_goes : {f : AnyCard} → Demand2 f → (s : State) (i : Call) → (f.taps.settle s i).result.number ≡ 0 → settle_stop s i ≡ 0
number_goes {f} h s i n = go (eqb (settle_stop s i) 0) refl
  where
    go : (b : Bool) → eqb (settle_stop s i) 0 ≡ b → settle_stop s i ≡ 0
    go true e = eqb-true (settle_stop s i) 0 e
    go false e = sym (ap (λ z. z.result.number) ((demand1 f h).settle_stops s i e)) ∙ n
