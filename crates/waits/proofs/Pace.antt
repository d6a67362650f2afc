-- THE PACE OF A REQUEST on a card, 02 Ask 7: it is refused by checks 1 to 10, waits, or goes on; and how long it waits. Assumes nothing.
use Prim.Native.Nat.{ℕ, ◌+◌, ◌-◌, ◌≤◌}
use native.Mathlib.Omega.{arith}
use mathlib.Core.Path.{◌≡◌, refl, ap}
use mathlib.Core.List.{List}
use mathlib.Core.Bool.{true, false, cond}
use lib.ListN.{length}
use lib.Dec.{eqb}
use borrow.Author.Tests.{ne_eqb, eqb-true, eqb-false}
use Rattle.wire.proofs.Laws.{by_cases, alike_self}
use Rattle.wire.proofs.Parts.{part_pad}
use Rattle.card.specs.declared.Wait.{Wait}
use Rattle.card.specs.declared.Pending.{Pending}
use Rattle.card.specs.declared.Face.{Face}
use Rattle.card.specs.declared.Card.{Card}
use Rattle.card.specs.Layout.{held_room, most_left}
use Rattle.card.specs.Values.{u8, request_of, with_pending}
use Rattle.card.specs.Image.{decode}
use Rattle.card.specs.Valid.{is_card}
use Rattle.cards.proofs.Round.{is_card_face}
use Rattle.kept.proofs.Waits.{card_bounds}
use Rattle.manual.specs.declared.Pace.{Pace}
use Rattle.manual.specs.declared.Pace.TheVariants.{Refused, Waits, Goes}
use Rattle.manual.specs.Request.{lc_of, fits, command}
use Rattle.manual.specs.Commands.{row}
use Rattle.manual.specs.Delay.{entered, is_held, pace_by}
use Rattle.manual.specs.Settle.{sent_in, matched, judged_by, pace_of, waiting, paced_by, paced, paced_to}
use Rattle.facts.proofs.Blind.{judged_blind}
use Rattle.history.specs.Demands.{wait_in, holding_for}
use Rattle.history.specs.Waiting.{enters, wait_of, over_wrong}
use Rattle.history.proofs.Choice.{clash}
use Rattle.history.proofs.Delay.{Sized, sized, seconds_most}

-- THE PACE, by checks 1 to 10 and the wait
abbrev pub pace_at : Card → List ℕ → Pace
pace_at c q = pace_of (matched c.codes (sent_in q)) c.face q

module _ (c : Card) (q : List ℕ) where
  pub pace_refused : enters c q ≡ false → pace_at c q ≡ Refused (over_wrong c q)
  unfolding pace_of pace_by
  pace_refused e = rw e refl

  pub pace_waits : enters c q ≡ true → 1 ≤ wait_of c q → pace_at c q ≡ Waits (wait_of c q)
  unfolding pace_of pace_by
  pace_waits e l = rw (e, ne_eqb (wait_of c q) 0 (λ z. omega arith)) refl

  pub pace_goes : enters c q ≡ true → wait_of c q ≡ 0 → pace_at c q ≡ Goes
  unfolding pace_of pace_by
  pace_goes e z = rw (e, z) refl

  pub by_pace :
      (P : Pace → Type 0) → (enters c q ≡ false → P (Refused (over_wrong c q))) → (enters c q ≡ true → 1 ≤ wait_of c q → P (Waits (wait_of c q)))
      → (enters c q ≡ true → wait_of c q ≡ 0 → P Goes) → P (pace_at c q)
  unfolding pace_of pace_by
  by_pace P refuses waits goes =
      let t = wait_of c q in
      by_cases P (enters c q)
      (λ e. by_cases P (eqb t 0) (λ z. goes e (eqb-true t 0 z)) (λ z. waits e (let n = eqb-false t 0 z in omega arith)))
      refuses

  -- what is said hangs on it
  pub paced_by_lem : (d a : List ℕ) {p : Pace} → pace_at c q ≡ p → paced_to c q d a ≡ paced_by p (matched c.codes (sent_in q)) c.face q d a
  unfolding paced
  paced_by_lem d a e = ap (λ z. paced_by z (matched c.codes (sent_in q)) c.face q d a) e

  -- check 1 lets a request of 6 to 1,024 bytes through
  pub enters_sized : enters c q ≡ true → Sized q
  unfolding judged_by
  enters_sized = by_cases (λ g. entered g ≡ true → Sized q) (fits (lc_of q)) (λ e _. sized q e) (λ _ e. clash e refl)

-- no check looks at the wait
pub enters_blind : (p : Pending) (c : Card) (q : List ℕ) → enters (waiting p c) q ≡ enters c q
enters_blind p c q = ap entered (judged_blind p (matched c.codes (sent_in q)) c.face q)

-- A REQUEST THAT IS HELD is the held one
pub held_own : (f : Face) (q : List ℕ) (t : ℕ) (w : Wait) → length q ≤ held_room → is_held (with_pending (holding_for t q w) f) q ≡ true
unfolding is_held request_of
held_own f q t w l = rw (part_pad held_room q l) (alike_self q)

-- HOW LONG IT WAITS: what is left, this sending taken off, where it is the held one
pub wait_held : (c : Card) (q : List ℕ) → is_held c.face q ≡ true → wait_of c q ≡ c.face.pending.wait.left - 1
wait_held c q e = rw e refl

-- else the count, and the pause where PIN2 is needed; 120 seconds at most
module _ (m q : List ℕ) (o : is_card m ≡ true) where
  pub wait_whole :
      is_held (decode m).face q ≡ false
      → wait_of (decode m) q ≡ (wait_in m).wrong + cond ((row (command q)).pin2 (sent_in q)) (decode m).face.front.fixed.pause 0
  wait_whole e =
      let b = card_bounds m o in
      rw e
      (by_cases (λ (n : ℕ). u8 ((wait_in m).wrong + n) ≡ (wait_in m).wrong + n) ((row (command q)).pin2 (sent_in q))
      (λ _. omega (arith, b.wrong, b.pause))
      (λ _. omega (arith, b.wrong)))

  pub wait_most : wait_of (decode m) q ≤ most_left
  wait_most = seconds_most (row (command q)) (decode m).face (sent_in q) q (is_card_face m o)
