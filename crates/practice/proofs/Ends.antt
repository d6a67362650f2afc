-- What a call that is not carried out leaves: the image but for its wait, and a status word alone or a pause. Assumes nothing.
use Prim.Native.Nat.{ℕ, ◌*◌, ◌≤◌}
use native.Mathlib.Omega.{arith}
use mathlib.Core.Path.{◌≡◌, refl, sym, ap, ap₂, ◌∙◌}
use mathlib.Core.List.{List, [], ◌++◌}
use lib.ListN.{length, drop}
use borrow.Author.Tests.{eq-eqb}
use Rattle.wire.specs.Wire.{Wrote, joined, be2, Bytes}
use Rattle.wire.proofs.Laws.{runs, then, front}
use Rattle.fields.specs.Fields.{head_of, tlv, each, written}
use Rattle.card.specs.declared.Face.{Face}
use Rattle.card.specs.declared.Wait.{Wait}
use Rattle.card.specs.declared.Card.{Card}
use Rattle.card.specs.Layout.{pending_at, image_size, image_room}
use Rattle.card.specs.Values.{held_request, idle}
use Rattle.card.specs.Image.{enc_pending, encode, decode}
use Rattle.card.specs.Shape.{Shape}
use Rattle.cards.proofs.Shape.{held_no_request}
use Rattle.cards.proofs.Round.{encode_decode}
use Rattle.writing.proofs.Renewed.{anew_pending}
use Rattle.manual.specs.declared.Pace.TheVariants.{Waits}
use Rattle.manual.specs.declared.Outcome.{Outcome}
use Rattle.manual.specs.Words.{sw_need_pause, response_room}
use Rattle.manual.specs.Tags.{Pause}
use Rattle.manual.specs.Delay.{pending_after}
use Rattle.manual.specs.Settle.{settled_by, outcome, refused, waiting, over, lent}
use Rattle.changes.specs.Carried.{kept_image}
use Rattle.practice.specs.Carried.{paused_in}

-- THE NEXT IMAGE. An image kept is the image of its card
pub kept : (m nxt : List ℕ) {nxt' : List ℕ} {r : ℕ} → length m ≡ image_size → Bytes m → Wrote nxt 0 (kept_image m) nxt' r → image_room ≤ length nxt
    → nxt' ≡ encode (decode m) ++ drop image_size nxt
unfolding kept_image
kept m nxt {nxt'} {r} l b w h =
    let v : Wrote nxt 0 m nxt' r = rw (eq-eqb _ _ l) at w in
    let z : length m ≤ length nxt = omega arith in
    (front (runs v) z).0 ∙ ap₂ (λ x n. x ++ drop n nxt) (sym (encode_decode m l b)) l

-- an image with another wait written into it is that of the card with that wait, also where that holds no request
module _ (c : Card) (rest : List ℕ) {d : List ℕ} (w : Wait) where
  pub waited : {d' : List ℕ} {r : ℕ} (q : List ℕ) → Shape c → d ≡ encode c ++ rest → Wrote d pending_at (enc_pending (held_request w q)) d' r
      → d' ≡ encode (waiting (held_request w q) c) ++ rest
  waited q s e x = (anew_pending w q x (record { shape = s; bytes = e })).bytes

  pub idled : d ≡ encode (waiting (held_request w []) c) ++ rest → d ≡ encode (waiting (idle w) c) ++ rest
  idled e = e ∙ ap (λ x. encode (waiting x c) ++ rest) (held_no_request w)

-- WHAT IS SAID: a status word alone, or a pause
pub refuses : (c : Card) (f : Face) (n w : ℕ) (out nxt : List ℕ) {r : Outcome} {out' nxt' : List ℕ} → r ≡ outcome 0 n w 2 → out' ≡ over (be2 w) out
    → nxt' ≡ encode c ++ drop image_size nxt → settled_by r out' nxt' ≡ lent (refused n w f) c out nxt
unfolding lent
refuses c f n w out nxt t e g = λ i. settled_by (t i) (e i) (g i)

pub pauses : (t : ℕ) (c : Card) (q out nxt : List ℕ) {r : Outcome} {x y : ℕ} {out₁ out₂ nxt' : List ℕ} → r ≡ outcome 0 0 sw_need_pause 6
    → Wrote out 0 (tlv Pause (be2 (t * 100))) out₁ x → Wrote out₁ x (be2 sw_need_pause) out₂ y → response_room ≤ length out
    → nxt' ≡ encode (waiting (pending_after (Waits t) c.face.pending q) c) ++ drop image_size nxt → settled_by r out₂ nxt' ≡ paused_in t c q out nxt
unfolding lent written each joined tlv head_of
pauses t c q out nxt e x y h g =
    let l : length (tlv Pause (be2 (t * 100)) ++ be2 sw_need_pause) ≡ 6 = refl in
    let f = (front (then (runs x) (runs y)) (omega arith)).0 in
    λ i. settled_by (e i) (f i) (g i)
