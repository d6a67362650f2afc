-- WHAT DROPS THE REQUEST THAT IS HELD, 02 Ask 7: other bytes, a refusal by checks 1 to 10 and a power-off; none of them lowers the count. Assumes nothing.
use Prim.Native.Nat.{ℕ, ◌≤◌}
use native.Mathlib.Omega.{arith}
use mathlib.Core.Path.{◌≡◌, refl, sym, ap, ◌∙◌, subst}
use mathlib.Core.List.{List, []}
use mathlib.Core.Bool.{Bool, true, false, cond}
use lib.ListN.{length}
use lib.Dec.{leb, eqb, ltb}
use borrow.Author.Tests.{eqb-true}
use Rattle.std.specs.Prelude.{Ok, Err}
use Rattle.wire.specs.Wire.{alike}
use Rattle.wire.proofs.Laws.{by_cases, alike_same, part_none}
use Rattle.wire.proofs.Parts.{part_pad}
use Rattle.card.specs.declared.Wait.{Wait}
use Rattle.card.specs.declared.Pending.{Pending}
use Rattle.card.specs.declared.Card.{Card}
use Rattle.card.specs.Layout.{held_room, most_wrong, image_room}
use Rattle.card.specs.Values.{u16, counted, idle, no_wait, request_of}
use Rattle.card.specs.Image.{decode}
use Rattle.card.specs.Valid.{is_card}
use Rattle.kept.proofs.Waits.{dropped_ok, card_bounds}
use Rattle.manual.specs.declared.Pace.{Pace}
use Rattle.manual.specs.declared.Pace.TheVariants.{Refused, Waits, Goes}
use Rattle.manual.specs.Row.{Verdict}
use Rattle.manual.specs.Delay.{entered, is_held, pending_after, pending_off}
use Rattle.manual.specs.Settle.{State, Call, sent_in, matched, judged, said, said_by, leaving, paced_by, paced, waiting, card_after, powered_off}
use Rattle.story.specs.Buffers.{image_off}
use Rattle.history.specs.Demands.{AnyCard, Demand2, settle_stop, off_stop, ButWait, wait_in, only_counted, image_by}
use Rattle.history.specs.Waiting.{enters, over_wrong, Dropped}
use Rattle.history.proofs.Choice.{clash}
use Rattle.history.proofs.Cards.{after}
use Rattle.history.proofs.Images.{stop_none, image_off_lem}
use Rattle.history.proofs.Theorems.{but_wait, waits_where}
use Rattle.waits.proofs.Pace.{pace_at, pace_refused, by_pace, paced_by_lem, enters_sized, wait_whole}
use Rattle.waits.proofs.Sending.{is_card_lem, settle_is, spells, number_is, number_goes}

-- REFUSED BY CHECKS 1 TO 10: the card as it was, but nothing is held, and one more is counted where a code counts as wrong
abbrev rested : Card → List ℕ → Pending
rested c q = pending_after (Refused (over_wrong c q)) c.face.pending q

refused_card : (c : Card) (q d a : List ℕ) → enters c q ≡ false → after c q d a ≡ waiting (rested c q) c
unfolding said
refused_card c q d a e =
    ap (λ s. card_after s c.codes q) (paced_by_lem c q d a (pace_refused c q e))
    ∙ go (judged (matched c.codes (sent_in q)) c.face q) e
  where
    go : (g : Verdict) → entered g ≡ false
        → card_after (leaving (rested c q) (said_by g (matched c.codes (sent_in q)) c.face q d a)) c.codes q ≡ waiting (rested c q) c
    go (Ok k) n = clash refl n
    go (Err e) n = refl

not_fewer : (w : Wait) → w.wrong ≤ (counted w).wrong
not_fewer w = by_cases (λ (n : ℕ). w.wrong ≤ n) (ltb w.wrong most_wrong) (λ _. omega arith) (λ _. omega arith)

module _ (f : AnyCard) (h : Demand2 f) (s : State) (i : Call) (go : settle_stop s i ≡ 0) where
  abbrev c : Card
  c = decode s.image

  abbrev q : List ℕ
  q = i.request

  refused_keeps : enters c q ≡ false → ButWait (rested c q) s.image (image_by f s i)
  refused_keeps e = rw (settle_is h s i go) (waits_where s i (is_card_lem h s i go) (refused_card c q i.draw i.answers e))

  pub refused_drops : enters c q ≡ false → Dropped s.image (image_by f s i)
  refused_drops e = of (over_wrong c q) (refused_keeps e)
    where
      of : (b : Bool) → ButWait (pending_after (Refused b) c.face.pending q) s.image (image_by f s i) → Dropped s.image (image_by f s i)
      of true x = record { wrong = (counted (wait_in s.image)).wrong; image = x; counted = not_fewer (wait_in s.image) }
      of false x = record { wrong = (wait_in s.image).wrong; image = x; counted = omega arith }

  -- one more, up to 60, exactly where a code counts as wrong
  pub refused_counts :
      enters c q ≡ false → (wait_in (image_by f s i)).wrong ≡ cond (over_wrong c q) (counted (wait_in s.image)).wrong (wait_in s.image).wrong
  refused_counts e = ap (λ (z : Card). z.face.pending.wait.wrong) (refused_keeps e).card ∙ of (over_wrong c q)
    where
      of : (b : Bool) → (pending_after (Refused b) c.face.pending q).wait.wrong ≡ cond b (counted (wait_in s.image)).wrong (wait_in s.image).wrong
      of true = refl
      of false = refl

  -- WHATEVER WAS SENT, with number 0: what is left of the wait, by the pace
  pub left_by_lem : (f.taps.settle s i).result.number ≡ 0 → (decode (image_by f s i)).face.pending ≡ pending_after (pace_at c q) c.face.pending q
  unfolding paced
  left_by_lem n = ap (λ z. z.face.pending) (spells h s i go) ∙ of (pace_at c q) (sym (number_is h s i go) ∙ n)
    where
      of : (p : Pace) → (paced_by p (matched c.codes (sent_in q)) c.face q i.draw i.answers).number ≡ 0
          → (paced_by p (matched c.codes (sent_in q)) c.face q i.draw i.answers).face.pending ≡ pending_after p c.face.pending q
      of (Refused b) e = rw e refl
      of (Waits t) e = refl
      of Goes e = rw e refl

-- A POWER-OFF: nothing is held, and the count is as it was
pub off_keeps :
    (f : AnyCard) → Demand2 f → (s : State) (nxt : List ℕ) → off_stop s nxt ≡ 0
    → ButWait (only_counted (wait_in s.image).wrong) s.image (image_off s.image (f.power_off s nxt))
unfolding powered_off
off_keeps f h s nxt go =
    let m = s.image in
    let z = stop_none (is_card m) (leb image_room (length nxt)) true go in
    let o = z.0 in
    rw (h.turns_off s nxt, o, z.1.0, image_off_lem m o nxt)
    (but_wait m o (pending_off (decode m).face.pending) refl (dropped_ok (wait_in m) (card_bounds m o).wrong))

pub off_drops :
    (f : AnyCard) → Demand2 f → (s : State) (nxt : List ℕ) → off_stop s nxt ≡ 0 → Dropped s.image (image_off s.image (f.power_off s nxt))
off_drops f h s nxt go = record { wrong = (wait_in s.image).wrong; image = off_keeps f h s nxt go; counted = omega arith }

-- OTHER BYTES: what is held after a call is its own request
own_held :
    (c : Card) (r q : List ℕ) → 1 ≤ length q → alike (request_of (pending_after (pace_at c r) c.face.pending r)) q ≡ true → q ≡ r
unfolding request_of
own_held c r q l =
    by_pace c r (λ p. alike (request_of (pending_after p c.face.pending r)) q ≡ true → q ≡ r)
    (λ _. none (rested c r).wait (by_cases (λ (w : Wait). w.size ≡ 0) (over_wrong c r) (λ _. refl) (λ _. refl)))
    (λ e _ y.
    let most = (enters_sized c r e).most in
    let n : u16 (length r) ≡ length r = omega arith in
    sym (alike_same r q (rw (n, part_pad held_room r most) at y)))
    (λ _ _. none no_wait refl)
  where
    none : (w : Wait) → w.size ≡ 0 → alike (request_of (idle w)) q ≡ true → q ≡ r
    none w z e =
        let n : [] ≡ q = alike_same [] q (rw (z, part_none (idle w).request 0) at e) in
        absurd (omega (arith, ap length n))

module _ (f : AnyCard) (h : Demand2 f) (s : State) (i : Call) where
  pub other_drops :
      (f.taps.settle s i).result.number ≡ 0 → (q : List ℕ) → 1 ≤ length q → (q ≡ i.request → ⊥) → is_held (decode (image_by f s i)).face q ≡ false
  unfolding is_held
  other_drops n q l other = go (alike (request_of (decode (image_by f s i)).face.pending) q) refl
    where
      go : (b : Bool) → alike (request_of (decode (image_by f s i)).face.pending) q ≡ b → b ≡ false
      go true e = absurd (other (own_held (decode s.image) i.request q l (rw (left_by_lem f h s i (number_goes h s i n) n) at e)))
      go false e = refl

  -- and they do not lower the count
  pub other_counts : is_held (decode s.image).face i.request ≡ false → (wait_in s.image).wrong ≤ (wait_in (image_by f s i)).wrong
  other_counts other = go (eqb (f.taps.settle s i).result.number 0) refl
    where
      go : (b : Bool) → eqb (f.taps.settle s i).result.number 0 ≡ b → (wait_in s.image).wrong ≤ (wait_in (image_by f s i)).wrong
      go true e =
          let n = eqb-true (f.taps.settle s i).result.number 0 e in
          let e = number_goes h s i n in
          let c = decode s.image in
          let w = wait_in s.image in
          subst (λ (p : Pending). w.wrong ≤ p.wait.wrong) (sym (left_by_lem f h s i e n))
          (by_pace c i.request (λ p. w.wrong ≤ (pending_after p c.face.pending i.request).wait.wrong)
          (λ _. by_cases (λ (z : Wait). w.wrong ≤ z.wrong) (over_wrong c i.request) (λ _. not_fewer w) (λ _. omega arith))
          (λ _ _. omega arith)
          (λ _ z. omega (arith, z, wait_whole s.image i.request (is_card_lem h s i e) other)))
      go false e = rw e (omega arith)
