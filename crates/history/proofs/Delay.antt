-- WHAT BECOMES OF THE WAIT at a tap, 02 Ask 7: what a refusal and a pause leave of it, and that it passes the tests of a card. Assumes nothing.
use Prim.Native.Nat.{ℕ, ◌+◌, ◌-◌, ◌≤◌}
use native.Mathlib.Omega.{arith}
use mathlib.Core.Path.{◌≡◌, refl, ap}
use mathlib.Core.List.{List, ◌++◌}
use mathlib.Core.Bool.{true, false, cond, ◌||◌}
use lib.ListN.{length}
use lib.Dec.{leb, eqb, ltb}
use borrow.Author.Tests.{le-leb, lt-leb, eq-eqb, leb-true, leb-false, ltb-true, ltb-false}
use Rattle.wire.specs.Wire.{be2, joined}
use Rattle.wire.proofs.Laws.{or_true}
use Rattle.fields.specs.Fields.{View, written, each, tlv, head_of}
use Rattle.card.specs.declared.Wait.{Wait}
use Rattle.card.specs.declared.Pending.{Pending}
use Rattle.card.specs.declared.Face.{Face}
use Rattle.card.specs.Layout.{held_room, most_wrong, most_left}
use Rattle.card.specs.Valid.{ok_pending, ok_face}
use Rattle.card.specs.Values.{u16, dropped, counted, held_for, held_request, idle, no_pending}
use Rattle.kept.proofs.Waits.{dropped_ok, counted_ok, no_pending_ok, held_u16_ok, bounds}
use Rattle.manual.specs.Words.{least_request, most_request, sw_need_pause}
use Rattle.manual.specs.declared.Pace.TheVariants.{Waits}
use Rattle.manual.specs.Request.{lc_of, fits}
use Rattle.manual.specs.Row.{Matched, Row}
use Rattle.manual.specs.Delay.{over_code, is_held, whole_wait, seconds, pending_after, pause_fields}
use Rattle.manual.specs.Settle.{sent_in}
use Rattle.history.specs.Demands.{count_after, only_counted, holding_for, pause_bytes}
use Rattle.history.specs.Facts.{checks_of, check_holds}
use Rattle.history.proofs.Choice.{by_cases, both_true, clash}

-- A REQUEST OF 6 TO 1,024 BYTES is what check 1 lets through
pub record Sized (q : List ℕ) : Type 0 where
  pub least : least_request ≤ length q
  pub most : length q ≤ most_request

pub sized : (q : List ℕ) → fits (lc_of q) ≡ true → Sized q
unfolding lc_of
sized q =
    by_cases (λ z. fits z ≡ true → Sized q) (ltb (length q) least_request)
    (λ _ e. clash e refl)
    (λ l.
    by_cases (λ z. fits z ≡ true → Sized q) (ltb most_request (length q))
    (λ _ e. clash e refl)
    (λ h _. record { least = ltb-false (length q) least_request l; most = ltb-false most_request (length q) h }))

-- NOTHING HELD, and so many wrong codes counted, as a refusal by check n leaves it
pub record Recounted (n old : ℕ) (p : Pending) : Type 0 where
  pub wrong : ℕ
  pub is_idle : p ≡ only_counted wrong
  pub count : count_after n old wrong ≡ true

-- REFUSED by check n of 1 to 12: nothing is held, and so many wrong codes are counted; after check 10 none
module _ (r : Row) (m : Matched) (f : Face) (v : View) (n : ℕ) where
  abbrev w : Wait
  w = f.pending.wait

  abbrev pub resting : Pending
  resting = cond (leb 11 n) no_pending (idle (cond (over_code r m v n) (counted (dropped f.pending.wait)) (dropped f.pending.wait)))

  by_resting : (P : Pending → Type 0) → P no_pending → P (idle (counted (dropped w))) → P (idle (dropped w)) → P resting
  by_resting P none more same =
      by_cases P (leb 11 n) (λ _. none) (λ _. by_cases (λ z. P (idle z)) (over_code r m v n) (λ _. more) (λ _. same))

  pub resting_long : length resting.request ≡ held_room
  resting_long = by_resting (λ p. length p.request ≡ held_room) refl refl refl

  pub resting_ok : ok_face f ≡ true → ok_pending resting ≡ true
  resting_ok o =
      let b = bounds f o in
      by_resting (λ p. ok_pending p ≡ true) no_pending_ok (counted_ok w b.wrong) (dropped_ok w b.wrong)

  -- where nothing was, and no code is wrong, nothing is
  pub resting_none : f.pending ≡ no_pending → over_code r m v n ≡ false → resting ≡ no_pending
  resting_none e c =
      by_cases (λ p. p ≡ no_pending) (leb 11 n) (λ _. refl) (λ _. rw c (ap (λ p. idle (dropped p.wait)) e))

  -- THE COUNT is as it was, or one more where check 6 or 10 refuses
  code_check : over_code r m v n ≡ true → (eqb n 6 || eqb n 10) ≡ true
  code_check =
      by_cases (λ b. b ≡ true → (eqb n 6 || eqb n 10) ≡ true) (eqb n 6)
      (λ e _. rw e refl)
      (λ e h. let z = (both_true (eqb n 10) _ h).0 in rw (e, z) refl)

  counted_once : (counted w).wrong ≡ cond (leb most_wrong w.wrong) w.wrong (w.wrong + 1)
  counted_once =
      by_cases (λ k. k ≡ cond (leb most_wrong w.wrong) w.wrong (w.wrong + 1)) (ltb w.wrong most_wrong)
      (λ e. rw (lt-leb most_wrong w.wrong (ltb-true w.wrong most_wrong e)) refl)
      (λ e. rw (le-leb most_wrong w.wrong (ltb-false w.wrong most_wrong e)) refl)

  pub resting_counts : Recounted n w.wrong resting
  resting_counts =
      by_cases (Recounted n w.wrong) (leb 11 n)
      (λ e. record { wrong = 0; is_idle = refl; count = rw (lt-leb n 10 (leb-true 11 n e)) refl })
      (λ e.
      let few : leb n 10 ≡ true = le-leb n 10 (omega (arith, leb-false 11 n e)) in
      by_cases (λ z. Recounted n w.wrong (idle z)) (over_code r m v n)
      (λ c.
      record {
        wrong = (counted w).wrong;
        is_idle = refl;
        count = rw (few, code_check c, eq-eqb (counted w).wrong _ counted_once) (or_true (eqb (counted w).wrong w.wrong));
      })
      (λ _. record { wrong = w.wrong; is_idle = refl; count = rw (few, eq-eqb w.wrong w.wrong refl) refl }))

-- HELD for t seconds, 1 to 120 of a card: checks 1 to 10 hold
pub record Delayed (r : Row) (m : Matched) (f : Face) (q : List ℕ) (t : ℕ) : Type 0 where
  pub some : 1 ≤ t
  pub is_left : t ≡ seconds r f (sent_in q) q
  pub holds : (j : ℕ) → j ≤ 10 → check_holds j (checks_of r m f q) ≡ true

module _ (r : Row) (f : Face) (v : View) (q : List ℕ) (o : ok_face f ≡ true) where
  pub seconds_most : seconds r f v q ≤ most_left
  seconds_most =
      let b = bounds f o in
      let x : f.pending.wait.wrong + cond (r.pin2 v) f.front.fixed.pause 0 ≤ most_left =
      by_cases (λ (n : ℕ). f.pending.wait.wrong + n ≤ most_left) (r.pin2 v) {x = f.front.fixed.pause} {y = 0}
      (λ _. omega (arith, b.wrong, b.pause)) (λ _. omega (arith, b.wrong)) in
      by_cases (λ (n : ℕ). n ≤ most_left) (is_held f q) {x = f.pending.wait.left - 1} {y = whole_wait r f v}
      (λ _. omega (arith, b.left)) (λ _. omega (arith, x))

module _ (r : Row) (m : Matched) (f : Face) (q : List ℕ) (t : ℕ) (h : Delayed r m f q t) where
  abbrev held : Pending
  held = pending_after (Waits t) f.pending q

  size : Sized q
  size = sized q (both_true (fits (lc_of q)) true (h.holds 1 (omega arith))).0

  pub delayed_most : ok_face f ≡ true → t ≤ most_left
  delayed_most o = omega (arith, h.is_left, seconds_most r f (sent_in q) q o)

  pub delayed_ok : ok_face f ≡ true → ok_pending held ≡ true
  delayed_ok o = held_u16_ok t q f.pending.wait h.some (delayed_most o) size.least size.most (bounds f o).wrong

  pub delayed_held : held ≡ holding_for t q f.pending.wait
  delayed_held = let n : u16 (length q) ≡ length q = omega (arith, size.most) in λ i. held_request (held_for t (n i) f.pending.wait) q

-- THE ANSWER of a pause, six bytes
pub pause_bytes_lem : (t : ℕ) → written (pause_fields t) ++ be2 sw_need_pause ≡ pause_bytes t
unfolding written each joined tlv head_of
pause_bytes_lem t = refl
