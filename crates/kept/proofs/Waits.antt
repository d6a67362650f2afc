-- THE WAIT OF A CARD, 02 Ask 7: what becomes of it passes the tests, and so does a face with it; what the tests say of it. Assumes nothing.
use Rattle.std.proofs.Common.{rules}
use Prim.Native.Nat.{ℕ, ◌≤◌}
use native.Mathlib.Omega.{arith}
use mathlib.Core.Path.{◌≡◌, refl, sym, ap, ◌∙◌}
use mathlib.Core.Bool.{Bool, true, false, ◌&&◌, ◌||◌}
use mathlib.Core.List.{List}
use mathlib.Core.Logic.{◌⊎◌, inl, inr}
use lib.ListN.{length, replicate}
use lib.Dec.{leb, eqb, ltb, lit≤}
use borrow.Author.Tests.{le-leb, leb-true, eqb-true, ltb-true}
use Rattle.wire.specs.Wire.{all_zero}
use Rattle.wire.proofs.Laws.{by_cases, both_true}
use Rattle.wire.proofs.Parts.{pad_room}
use Rattle.card.specs.declared.Wait.{Wait}
use Rattle.card.specs.declared.Pending.{Pending}
use Rattle.card.specs.declared.Face.{Face}
use Rattle.card.specs.Layout.{least_held, held_room, most_pause, most_wrong, most_left}
use Rattle.card.specs.Values.{u16, no_wait, dropped, counted, held_for, held_request, idle, no_pending, with_pause, with_pending}
use Rattle.card.specs.Image.{decode}
use Rattle.card.specs.Valid.{is_holding, is_idle, ok_ranges, ok_pending, ok_face, is_card}
use Rattle.kept.proofs.Tests.{or_true, waited, is_waited, valid, is_valid}
use Rattle.kept.proofs.Kept.{zeros}
use Rattle.cards.proofs.Round.{is_card_face}

-- NOTHING HELD, with the count as it was or with one more; nothing counted
pub dropped_ok : (w : Wait) → w.wrong ≤ most_wrong → ok_pending (idle (dropped w)) ≡ true
unfolding all_zero
dropped_ok w h = is_waited (idle (dropped w)) (record { wrong = le-leb w.wrong most_wrong h; held = refl; room = refl })

counted_most : (w : Wait) → w.wrong ≤ most_wrong → (counted w).wrong ≤ most_wrong
counted_most w h =
    by_cases (λ (n : ℕ). n ≤ most_wrong) (ltb w.wrong most_wrong)
    (λ e. omega (arith, ltb-true w.wrong most_wrong e))
    (λ e. h)

pub counted_ok : (w : Wait) → w.wrong ≤ most_wrong → ok_pending (idle (counted (dropped w))) ≡ true
counted_ok w h = dropped_ok (counted w) (counted_most w h)

pub no_pending_ok : ok_pending no_pending ≡ true
no_pending_ok = dropped_ok no_wait (lit≤ tt)

-- A REQUEST HELD, of 6 to 1,024 bytes, for 1 to 120 seconds
module _ (t : ℕ) (q : List ℕ) (w : Wait) where
  pub held_request_ok :
      1 ≤ t → t ≤ most_left → least_held ≤ length q → length q ≤ held_room → w.wrong ≤ most_wrong
      → ok_pending (held_request (held_for t (length q) w) q) ≡ true
  held_request_ok a b l m h =
      let n = length q in
      is_waited (held_request (held_for t n w) q)
      (record {
        wrong = le-leb w.wrong most_wrong h;
        held = or_true (is_idle (held_for t n w)) (rw (le-leb 1 t a, le-leb t most_left b, le-leb least_held n l, le-leb n held_room m));
        room = pad_room held_room q m;
      })

  pub held_u16_ok :
      1 ≤ t → t ≤ most_left → least_held ≤ length q → length q ≤ held_room → w.wrong ≤ most_wrong
      → ok_pending (held_request (held_for t (u16 (length q)) w) q) ≡ true
  held_u16_ok a b l m h =
      let e : u16 (length q) ≡ length q = omega arith in
      ap (λ n. ok_pending (held_request (held_for t n w) q)) e ∙ held_request_ok a b l m h

-- WHAT THE TESTS SAY of a wait: it rests, or it holds a request
pub record Resting (w : Wait) : Type 0 where
  pub left : w.left ≡ 0
  pub size : w.size ≡ 0

pub record Holding (w : Wait) : Type 0 where
  pub some : 1 ≤ w.left
  pub few : w.left ≤ most_left
  pub least : least_held ≤ w.size
  pub most : w.size ≤ held_room

rests : (w : Wait) → is_idle w ≡ true → Resting w
rests w e =
    let x = both_true (eqb w.left 0) (eqb w.size 0) e in
    record { left = eqb-true w.left 0 x.0; size = eqb-true w.size 0 x.1 }

holds : (w : Wait) → is_holding w ≡ true → Holding w
holds w e =
    let y = both_true (leb 1 w.left) (leb w.left most_left && (leb least_held w.size && leb w.size held_room)) e in
    let z = both_true (leb w.left most_left) (leb least_held w.size && leb w.size held_room) y.1 in
    let u = both_true (leb least_held w.size) (leb w.size held_room) z.1 in
    record {
      some = leb-true 1 w.left y.0;
      few = leb-true w.left most_left z.0;
      least = leb-true least_held w.size u.0;
      most = leb-true w.size held_room u.1;
    }

module _ (p : Pending) (ok : ok_pending p ≡ true) where
  pub wrong_most : p.wait.wrong ≤ most_wrong
  wrong_most = leb-true p.wait.wrong most_wrong (waited p ok).wrong

  pub rests_or_holds : Resting p.wait ⊎ Holding p.wait
  rests_or_holds = go (is_idle p.wait) refl (waited p ok).held
    where
      go : (b : Bool) → is_idle p.wait ≡ b → (b || is_holding p.wait) ≡ true → Resting p.wait ⊎ Holding p.wait
      go true e h = inl (rests p.wait e)
      go false e h = inr (holds p.wait h)

  pub left_most : p.wait.left ≤ most_left
  left_most = go rests_or_holds
    where
      go : Resting p.wait ⊎ Holding p.wait → p.wait.left ≤ most_left
      go (inl x) = omega arith
      go (inr x) = x.few

  -- the size tells which
  pub size_some : 1 ≤ p.wait.size → Holding p.wait
  size_some h = go rests_or_holds
    where
      go : Resting p.wait ⊎ Holding p.wait → Holding p.wait
      go (inl x) = absurd (omega arith)
      go (inr x) = x

  pub size_none : p.wait.size ≡ 0 → p.wait.left ≡ 0
  size_none e = go rests_or_holds
    where
      go : Resting p.wait ⊎ Holding p.wait → p.wait.left ≡ 0
      go (inl x) = x.left
      go (inr x) = absurd (omega (arith, x.least))

  -- then the room is zero, and to drop what is held changes nothing
  pub rests_idle : length p.request ≡ held_room → p.wait.size ≡ 0 → p ≡ idle p.wait
  rests_idle long e =
      let zero : all_zero p.request ≡ true = rw e at (waited p ok).room in
      λ i. record { wait = p.wait; request = (zeros p.request zero ∙ ap (λ n. replicate n 0) long) i }

  pub rests_dropped : length p.request ≡ held_room → p.wait.size ≡ 0 → idle (dropped p.wait) ≡ p
  rests_dropped long e =
      let l = size_none e in
      sym (rests_idle long e ∙ (λ i. idle (record { wrong = p.wait.wrong; left = l i; size = e i })))

-- A FACE with another wait, or with a pause: a recording tells the pause behind the card
module _ (f : Face) (ok : ok_face f ≡ true) where
  pub keeps_pending : (p : Pending) → ok_pending p ≡ true → ok_face (with_pending p f) ≡ true
  keeps_pending p e = let v = valid f ok in is_valid (with_pending p f) (search rules)

  pub keeps_pause : (n : ℕ) → n ≤ most_pause → ok_face (with_pause n f) ≡ true
  unfolding ok_ranges
  keeps_pause n h =
      let v = valid f ok in
      is_valid (with_pause n f)
      (record {
        flags = v.flags;
        ranges = v.ranges;
        state = v.state;
        key = v.key;
        pause = le-leb n most_pause h;
        user = v.user;
        protected = v.protected;
        issuer = v.issuer;
        pending = v.pending;
        last = v.last;
        owned = v.owned;
      })

-- THE BOUNDS of what a card waits by
pub record Bounds (f : Face) : Type 0 where
  pub wrong : f.pending.wait.wrong ≤ most_wrong
  pub left : f.pending.wait.left ≤ most_left
  pub pause : f.front.fixed.pause ≤ most_pause

pub bounds : (f : Face) → ok_face f ≡ true → Bounds f
bounds f ok =
    let v = valid f ok in
    record {
      wrong = wrong_most f.pending v.pending;
      left = left_most f.pending v.pending;
      pause = leb-true f.front.fixed.pause most_pause v.pause;
    }

pub card_bounds : (m : List ℕ) → is_card m ≡ true → Bounds (decode m).face
card_bounds m e = bounds (decode m).face (is_card_face m e)
