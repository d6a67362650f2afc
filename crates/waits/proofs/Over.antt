-- A WAIT OF T SECONDS IS OVER AT SENDING T + 1 AND NOT BEFORE, 02 Ask 7; and number 4 costs no second. Assumes nothing.
use Prim.Native.Nat.{ℕ, ◌+◌, ◌-◌, ◌≤◌, ◌<◌}
use native.Mathlib.Omega.{arith}
use mathlib.Core.Path.{◌≡◌, refl, sym, ap, ◌∙◌, subst}
use mathlib.Core.List.{List, [], ◌∷◌}
use mathlib.Core.Bool.{true}
use lib.ListN.{length}
use Rattle.wire.specs.Wire.{joined}
use Rattle.fields.specs.Fields.{written, each, tlv, head_of}
use Rattle.card.specs.declared.Pending.{Pending}
use Rattle.card.specs.declared.Card.{Card}
use Rattle.card.specs.Layout.{most_left}
use Rattle.card.specs.Values.{u16, held_request, no_pending}
use Rattle.card.specs.Image.{encode, decode}
use Rattle.card.specs.Valid.{is_card}
use Rattle.cards.proofs.Shape.{held_request_long}
use Rattle.kept.proofs.Waits.{held_request_ok, card_bounds}
use Rattle.manual.specs.declared.Pace.TheVariants.{Waits}
use Rattle.manual.specs.Delay.{pending_after}
use Rattle.manual.specs.Settle.{State, holding, Call, sent_in, matched, pausing, leaving, waiting, said_to, lent}
use Rattle.facts.proofs.Blind.{bearing, said_blind}
use Rattle.history.specs.Demands.{AnyCard, Demand2, ButWait, wait_in, holding_for, tapped, image_by, leaves, left, taps_of}
use Rattle.history.specs.Waiting.{Sends, AllSend, enters, wait_of, Pauses, settled_over, Over}
use Rattle.history.proofs.Delay.{pause_bytes_lem}
use Rattle.history.proofs.Images.{said_at}
use Rattle.history.proofs.Theorems.{but_wait}
use Rattle.waits.proofs.Pace.{pace_waits, pace_goes, paced_by_lem, enters_sized, enters_blind, held_own, wait_held, wait_most}
use Rattle.waits.proofs.Alike.{is_wait, settle_waits}
use Rattle.waits.proofs.Sending.{lent_leaving, sends_goes, says, spells, number_is, settles_as, leaves_as}

-- BETWEEN TWO SENDINGS of q: the card is that of the first one, m, but for the wait, of which t seconds are left
record Standing (m q : List ℕ) (t : ℕ) (m' : List ℕ) : Type 0 where
  pub wait : Pending
  pub card : decode m' ≡ waiting wait (decode m)
  pub valid : is_card m' ≡ true
  pub wrong : wait.wait.wrong ≡ (wait_in m).wrong
  pub is_left : wait_of (decode m') q ≡ t

module _ (m q : List ℕ) (o : is_card m ≡ true) (e : enters (decode m) q ≡ true) where
  -- at first, and after a pause
  at_first_lem : Standing m q (wait_of (decode m) q) m
  at_first_lem = record { wait = (decode m).face.pending; card = refl; valid = o; wrong = refl; is_left = refl }

  after_pause : (t : ℕ) (m' : List ℕ) → ButWait (holding_for (t + 1) q (wait_in m)) m m' → Standing m q t m'
  after_pause t m' b =
      let p = holding_for (t + 1) q (wait_in m) in
      let c = waiting p (decode m) in
      let own = held_own (decode m).face q (t + 1) (wait_in m) (enters_sized (decode m) q e).most in
      record {
        wait = p;
        card = b.card;
        valid = b.stays o;
        wrong = refl;
        is_left = ap (λ x. wait_of x q) b.card ∙ wait_held c q own ∙ omega arith;
      }

  -- q passes checks 1 to 10 all the while
  still_enters : {t : ℕ} {m' : List ℕ} → Standing m q t m' → enters (decode m') q ≡ true
  still_enters y = ap (λ c. enters c q) y.card ∙ enters_blind y.wait (decode m) q ∙ e

  -- held for t seconds
  held_as : (t : ℕ) (m' : List ℕ) (y : Standing m q t m') → pending_after (Waits t) (decode m').face.pending q ≡ holding_for t q (wait_in m)
  held_as t m' y =
      let n : u16 (length q) ≡ length q = omega (arith, (enters_sized (decode m) q e).most) in
      let w = ap (λ (c : Card). c.face.pending.wait.wrong) y.card ∙ y.wrong in
      λ j. held_request (record { wrong = w j; left = t; size = n j }) q

-- WHAT GOES ON is the same whatever the wait was
over_blind : (m m' : List ℕ) (p : Pending) (i : Call) → decode m' ≡ waiting p (decode m) → settled_over m' i ≡ settled_over m i
unfolding lent
over_blind m m' p i e =
    let c = decode m in
    let q = i.request in
    let s = said_to c q i.draw i.answers in
    let same = lent_leaving no_pending s c.codes q i.buffers.out i.buffers.next in
    rw (e, said_blind p (matched c.codes (sent_in q)) c.face q i.draw i.answers)
    (lent_leaving no_pending (bearing p s) c.codes q i.buffers.out i.buffers.next ∙ sym same)

-- ONE SENDING, while seconds are left, and when none is
module _ {f : AnyCard} (h : Demand2 f) (m : List ℕ) (o : is_card m ≡ true) (i : Call) (e : enters (decode m) i.request ≡ true) where
  pauses : (t : ℕ) (s : State) → Sends i.request i → Standing m i.request (t + 1) s.image → Pauses f m s i (t + 1)
  unfolding lent written each joined tlv head_of
  pauses t s x y =
      let q = i.request in
      let c = decode s.image in
      let p = holding_for (t + 1) q (wait_in m) in
      let go = sends_goes s y.valid x in
      let u : said_at s i ≡ pausing (t + 1) c.face q =
      paced_by_lem c q i.draw i.answers (pace_waits c q (still_enters m q o e y) (omega (arith, y.is_left)) ∙ ap Waits y.is_left) in
      let k : waiting (pending_after (Waits (t + 1)) c.face.pending q) c ≡ waiting p (decode m) =
      ap (λ z. waiting z c) (held_as m q o e (t + 1) s.image y) ∙ ap (waiting p) y.card in
      let size = enters_sized (decode m) q e in
      let few : t + 1 ≤ most_left = omega (arith, y.is_left, wait_most s.image q y.valid) in
      let ok = held_request_ok (t + 1) q (wait_in m) (omega arith) few size.least size.most (card_bounds m o).wrong in
      record {
        result = ap (λ z. z.result) (settles_as h s i go u);
        response = says h s i go ∙ ap (λ z. z.response) u ∙ pause_bytes_lem (t + 1);
        image = subst (ButWait p m) (sym (leaves_as h s i go u refl ∙ ap encode k)) (but_wait m o p (held_request_long p.wait q) ok);
      }

  over : (s : State) → Sends i.request i → Standing m i.request 0 s.image → Over f m s i
  over s x y =
      let q = i.request in
      let c = decode s.image in
      let go = sends_goes s y.valid x in
      let pace = pace_goes c q (still_enters m q o e y) y.is_left in
      let u : said_at s i ≡ leaving no_pending (said_to c q i.draw i.answers) = paced_by_lem c q i.draw i.answers pace in
      record {
        settled = settles_as h s i go u ∙ over_blind m s.image y.wait i y.card;
        answer = settle_waits h s i go ∙ ap is_wait pace;
        cleared = λ n.
            let z : (said_to c q i.draw i.answers).number ≡ 0 = sym (number_is h s i go ∙ ap (λ z. z.number) u) ∙ n in
            ap (λ z. z.face.pending) (spells h s i go) ∙ ap (λ z. z.face.pending) u ∙ rw z refl;
        four = λ n. rw n refl;
      }

-- THE WAIT
module _ (f : AnyCard) (h : Demand2 f) (m q : List ℕ) (o : is_card m ≡ true) (e : enters (decode m) q ≡ true) where
  -- of what is sent, the request is q
  of_request :
      (P : List ℕ → Type 0) {i : Call} → Sends q i → (enters (decode m) i.request ≡ true → Sends i.request i → P i.request) → P q
  of_request P {i} x y =
      let r = x.request in
      subst P r (y (subst (λ z. enters (decode m) z ≡ true) (sym r) e) (record { request = refl; draw = x.draw; out = x.out; next = x.next }))

  -- n sendings take n seconds off
  walks :
      (is : List Call) → AllSend q is → (t u : ℕ) → t ≡ length is + u → (s : State) → Standing m q t s.image
      → Standing m q u (left f s (taps_of is)).image
  walks [] x t u n s y = subst (λ t. Standing m q t s.image) (omega arith) y
  walks (i ∷ is) x t u n s y =
      let k = length is + u in
      walks is x.1 k u refl (leaves f s (tapped i))
      (of_request (λ r. Standing m r (k + 1) s.image → Standing m r k (image_by f s i)) x.0
      (λ g w z. after_pause m i.request o g k (image_by f s i) (pauses h m o i g k s w z).image)
      (subst (λ t. Standing m q t s.image) (omega arith) y))

  stands : (is : List Call) → AllSend q is → (u : ℕ) → wait_of (decode m) q ≡ length is + u → Standing m q u (left f (holding m) (taps_of is)).image
  stands is x u n = walks is x (wait_of (decode m) q) u n (holding m) (at_first_lem m q o e)

  -- with T seconds to wait, the sendings after 0 to T - 1 others are told how many are left, and the one after T others goes on
  pub wait_over :
      (is : List Call) (i : Call) → AllSend q is → Sends q i
      → (length is < wait_of (decode m) q → Pauses f m (left f (holding m) (taps_of is)) i (wait_of (decode m) q - length is))
      × (length is ≡ wait_of (decode m) q → Over f m (left f (holding m) (taps_of is)) i)
  wait_over is i x y =
      let s = left f (holding m) (taps_of is) in (
        λ l.
            let t = wait_of (decode m) q - length is - 1 in
            let n : wait_of (decode m) q ≡ length is + (t + 1) = omega arith in
            subst (Pauses f m s i) (omega arith)
            (of_request (λ r. Standing m r (t + 1) s.image → Pauses f m s i (t + 1)) y (λ k w z. pauses h m o i k t s w z) (stands is x (t + 1) n)),
        λ n.
            let z : wait_of (decode m) q ≡ length is + 0 = omega arith in
            of_request (λ r. Standing m r 0 s.image → Over f m s i) y (λ k w z. over h m o i k s w z) (stands is x 0 z),
      )

-- NUMBER 4 LEAVES ALL AS IT WAS, whatever was sent
pub four_leaves : (f : AnyCard) (s : State) (j : Call) → (f.taps.settle s j).result.number ≡ 4 → image_by f s j ≡ s.image
four_leaves f s j e = rw e refl

-- so the next sending goes on
pub four_again :
    (f : AnyCard) → Demand2 f → (m q : List ℕ) → is_card m ≡ true → enters (decode m) q ≡ true → (is : List Call) (j i : Call) → AllSend q is → Sends q i
    → length is ≡ wait_of (decode m) q → (f.taps.settle (left f (holding m) (taps_of is)) j).result.number ≡ 4
    → Over f m (leaves f (left f (holding m) (taps_of is)) (tapped j)) i
four_again f h m q o e is j i x y n z =
    let s = left f (holding m) (taps_of is) in
    subst (λ l. Over f m (holding l) i) (sym (four_leaves f s j z)) ((wait_over f h m q o e is i x y).1 n)
