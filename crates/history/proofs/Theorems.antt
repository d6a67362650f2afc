-- THE THEOREMS of any card that meets demand 2: demands 1 and 3, and that demand 2 leaves nothing open. Assumes nothing.
use Prim.Native.Nat.{ℕ, ◌+◌}
use mathlib.Core.Path.{◌≡◌, refl, sym, ap, ◌∙◌, subst}
use mathlib.Core.List.{List, ◌++◌}
use mathlib.Core.Bool.{Bool, true, false}
use lib.ListN.{length, drop, length-append}
use lib.Dec.{leb, eqb}
use Rattle.wire.specs.Wire.{be2, joined, Bytes}
use Rattle.fields.specs.Fields.{View, written}
use Rattle.card.specs.declared.Pending.{Pending}
use Rattle.card.specs.declared.Face.{Face}
use Rattle.card.specs.declared.Card.{Card}
use Rattle.card.specs.Layout.{held_room, image_size, image_room}
use Rattle.card.specs.Values.{no_pending, with_pending}
use Rattle.card.specs.Image.{encode, decode}
use Rattle.card.specs.Valid.{ok_pending, ok_face, is_card}
use Rattle.card.specs.Shape.{ShapeFace, Shape}
use Rattle.cards.proofs.Shape.{length_encode, held_request_long}
use Rattle.cards.proofs.Round.{decode_encode, shape_decode, is_card_length, is_card_face, card_image, is_card_encode}
use Rattle.kept.proofs.Waits.{dropped_ok, no_pending_ok, keeps_pending, card_bounds}
use Rattle.manual.specs.Words.{sw_process_completed, sw_error_processing_command, sw_need_pause, questions_room, draw_size}
use Rattle.manual.specs.declared.Command.{Command}
use Rattle.manual.specs.declared.Outcome.{Outcome}
use Rattle.manual.specs.Request.{command}
use Rattle.manual.specs.Row.{Matched, asked, each_asked, shaped}
use Rattle.manual.specs.Commands.{row}
use Rattle.manual.specs.Delay.{pending_off}
use Rattle.manual.specs.Settle.{waiting, State, Call, sent_in, matched, Said, refused, done, pausing, leaving, paced_to, card_after, fields_of}
use Rattle.manual.specs.Settle.{Settled, settled, settled_of, settled_by, lent, untouched, outcome, over, asked_for, asked_of, posed, posed_by, roomy}
use Rattle.manual.specs.Settle.{off_by, card_off, powered_off}
use Rattle.facts.proofs.Facts.{small_decode, small_shape, facts, asks, tells}
use Rattle.story.specs.Sums.{is_done}
use Rattle.story.specs.Buffers.{image, image_off}
use Rattle.history.specs.Demands.{AnyCard, ButWait, wait_in, only_counted, holding_for, settle_refusal, Asked, none_asked, all_asked, must_wait}
use Rattle.history.specs.Demands.{Ended, shapeless, refusal, carried_out, off, Demand1, Demand2, image_by, Demand3}
use Rattle.history.specs.Demands.{pausing as is_pause}
use Rattle.history.specs.Facts.{Unchanged, Stays}
use Rattle.history.specs.Waiting.{over_wrong}
use Rattle.history.proofs.Choice.{by_cases, clash}
use Rattle.history.proofs.Delay.{Recounted, resting, resting_ok, resting_none, resting_counts, Delayed, delayed_most, delayed_ok, delayed_held, pause_bytes_lem}
use Rattle.history.proofs.Taps.{Passed, by_outcome, by_tap}
use Rattle.history.proofs.Commands.{conduct}
use Rattle.history.proofs.Cards.{done_is, after, stays_tap, shape_waiting}
use Rattle.history.proofs.Images.{model, stop_none, stops, looked, looked_ask, said_at, card_at, settled_at}
use Rattle.history.proofs.Images.{quiet, by_call, shape_is, image_bytes, image_is, by_off, shape_off, image_off_lem, model_demand3, is_model}
use Rattle.history.proofs.Agrees.{agree_model}

-- DEMAND 3 follows from demand 2
pub demand3 : (f : AnyCard) → Demand2 f → Demand3 f
demand3 f h = subst Demand3 (is_model f h) model_demand3

-- demand 2 leaves nothing open: no two cards meet it
pub unique : (f g : AnyCard) → Demand2 f → Demand2 g → f ≡ g
unique f g h k = sym (is_model f h) ∙ is_model g k

-- of the manual, and so of any card that meets demand 2
pub every : (P : AnyCard → Type 0) → P model → (f : AnyCard) → Demand2 f → P f
every P p f h = subst P (is_model f h) p

-- THE OLD IMAGE BUT FOR THE WAIT
module _ (m : List ℕ) (o : is_card m ≡ true) (p : Pending) (l : length p.request ≡ held_room) where
  shape_next : Shape (waiting p (decode m))
  shape_next = shape_waiting p (decode m) (shape_decode m (is_card_length m o)) l

  next_long : image_size ≡ length (encode (waiting p (decode m)))
  next_long = sym (length_encode (waiting p (decode m)) shape_next)

  pub but_wait : ok_pending p ≡ true → ButWait p m (encode (waiting p (decode m)))
  but_wait e =
      record {
        card = decode_encode (waiting p (decode m)) shape_next;
        stays = λ _. is_card_encode (waiting p (decode m)) shape_next (keeps_pending (decode m).face (is_card_face m o) p e);
        bytes = λ _ _. refl;
      }

-- a power-off
turned_off_lem : (m : List ℕ) → is_card m ≡ true → ButWait (only_counted (wait_in m).wrong) m (encode (card_off (decode m)))
turned_off_lem m o = but_wait m o (pending_off (decode m).face.pending) refl (dropped_ok (wait_in m) (card_bounds m o).wrong)

-- WHAT IS LEFT OF A CARD IS A CARD
stays_at : (m : State) (i : Call) → is_card m.image ≡ true → is_card (image m.image (settled_at m i)) ≡ true
stays_at m i o =
    rw (image_bytes m i o)
    (by_cases (λ (l : List ℕ). is_card l ≡ true) (eqb (said_at m i).number 0) {x = encode (card_at m i)} {y = m.image}
    (λ _. is_card_encode (card_at m i) (shape_is m i o) (stays_tap (decode m.image) i.request i.draw i.answers (is_card_face m.image o)))
    (λ _. o))

stays_model : (m : State) (i : Call) → is_card m.image ≡ true → is_card (image_by model m i) ≡ true
stays_model m i e = by_call (λ z. is_card (image m.image z) ≡ true) m i (λ n k. rw k e) (λ o _ _. stays_at m i o)

pub card_stays : (f : AnyCard) → Demand2 f → (m : State) (i : Call) → is_card m.image ≡ true → is_card (image_by f m i) ≡ true
card_stays = every (λ f. (m : State) (i : Call) → is_card m.image ≡ true → is_card (image_by f m i) ≡ true) stays_model

-- after a power-off too
off_model : (m : State) (nxt : List ℕ) → is_card m.image ≡ true → is_card (image_off m.image (powered_off m nxt)) ≡ true
off_model m nxt e =
    by_off (λ z. is_card (image_off m.image z) ≡ true) m nxt
    (λ n k. rw k e)
    (λ o. rw (image_off_lem m.image o nxt) ((turned_off_lem m.image o).stays o))

pub off_stays :
    (f : AnyCard) → Demand2 f → (m : State) (nxt : List ℕ) → is_card m.image ≡ true → is_card (image_off m.image (f.power_off m nxt)) ≡ true
off_stays = every (λ f. (m : State) (nxt : List ℕ) → is_card m.image ≡ true → is_card (image_off m.image (f.power_off m nxt)) ≡ true) off_model

-- DEMAND 1. ask
ask_ends :
    (m : State) (i : Call)
    → Asked i (asked_of (matched (decode m.image).codes (sent_in i.request)) (decode m.image).face i.request i.draw i.buffers.page)
unfolding asked_of asked each_asked joined
ask_ends m i =
    by_outcome (λ _ n w xs. Asked i (posed n w (asked xs) i.buffers.page)) x f i.request i.draw i.answers
    (λ n w h. none_asked n w h.word refl)
    (λ t h. must_wait refl)
    (λ h _. all h.passed)
    (λ h _ _. all h.passed)
    (λ h _ _. all h.passed)
  where
    v : View
    v = sent_in i.request

    k : Command
    k = command i.request

    x : Matched
    x = matched (decode m.image).codes (sent_in i.request)

    f : Face
    f = (decode m.image).face

    all : Passed (row k) x f v → Asked i (posed 0 sw_process_completed (asked ((row k).questions f v i.draw)) i.buffers.page)
    all h = all_asked (asked ((row k).questions f v i.draw)) (asks (facts k) f v i.draw (small_decode m.image) h.fields) refl

-- settle
module _ (m : State) (i : Call) (o : is_card m.image ≡ true) where
  abbrev q : List ℕ
  q = i.request

  abbrev k : Command
  k = command i.request

  abbrev v : View
  v = sent_in i.request

  abbrev c : Card
  c = decode m.image

  abbrev x : Matched
  x = matched (decode m.image).codes (sent_in i.request)

  shape : Shape c
  shape = shape_decode m.image (is_card_length m.image o)

  fine : ok_face c.face ≡ true
  fine = is_card_face m.image o

  -- what is said of the card is lent
  abbrev Goal : Said → Type 0
  Goal z = Ended m i (lent z (card_after z c.codes q) i.buffers.out i.buffers.next)

  refuses : (n w : ℕ) (p : Pending) → settle_refusal n w ≡ true → Recounted n c.face.pending.wait.wrong p → ok_pending p ≡ true → Goal (refused n w (with_pending p c.face))
  unfolding lent
  refuses n w p e y ok =
      let z : Pending = only_counted y.wrong in
      subst (λ p. Goal (refused n w (with_pending p c.face))) (sym y.is_idle)
      (refusal n w y.wrong (encode (waiting z c)) e y.count (but_wait m.image o z refl (subst (λ p. ok_pending p ≡ true) y.is_idle ok))
      (λ j. settled_by (outcome 0 n w 2) (over (be2 w) i.buffers.out) (encode (waiting z c) ++ drop (next_long m.image o z refl j) i.buffers.next)))

  pauses : (t : ℕ) → Delayed (row k) x c.face q t → Goal (pausing t c.face q)
  unfolding lent
  pauses t h =
      let z : Pending = holding_for t q c.face.pending.wait in
      let e = delayed_held (row k) x c.face q t h in
      let l = held_request_long z.wait q in
      is_pause t (encode (waiting z c)) h.some (delayed_most (row k) x c.face q t h fine)
      (but_wait m.image o z l (subst (λ p. ok_pending p ≡ true) e (delayed_ok (row k) x c.face q t h fine)))
      (λ j. settled_by (outcome 0 0 sw_need_pause (length (pause_bytes_lem t j))) (over (pause_bytes_lem t j) i.buffers.out)
      (encode (waiting (e j) c) ++ drop (next_long m.image o z l j) i.buffers.next))

  carries :
      Passed (row k) x c.face v → shaped ((row k).questions c.face v i.draw) i.answers ≡ true
      → Goal (leaving no_pending (done (row k) x c.face v i.draw i.answers))
  unfolding lent done
  carries h g =
      let n : Face = (row k).next c.face v i.answers in
      let u : ShapeFace n = (facts k).shape c.face v i.answers shape.face in
      let d : Card = record { face = n; codes = (row k).recode v c.codes } in
      let s : Shape (waiting no_pending d) = shape_waiting no_pending d (record { codes = (facts k).codes v c.codes shape.codes; face = u }) refl in
      let w : ℕ = sw_process_completed + (row k).more x in
      let l : List ℕ = written (fields_of (row k) n v i.draw i.answers) in
      let p = keeps_pending n ((conduct k x c.face q i.draw i.answers h).stays fine g) no_pending no_pending_ok in
      carried_out w l (encode (waiting no_pending d)) (done_is k x) (tells (facts k) n v i.draw i.answers (small_shape u))
      (is_card_encode (waiting no_pending d) s p) (ap (λ z. z.face.pending) (decode_encode (waiting no_pending d) s))
      (λ j. settled_by (outcome 0 0 w (length-append l (be2 w) j)) (over (l ++ be2 w) i.buffers.out)
      (encode (waiting no_pending d) ++ drop (sym (length_encode (waiting no_pending d) s) j) i.buffers.next))

  settle_ends : Ended m i (settled_at m i)
  unfolding settled_of lent done
  settle_ends =
      by_outcome (λ z _ _ _. Goal z) x c.face q i.draw i.answers
      (λ n w h.
      let a = resting_counts (row k) x c.face v n in
      refuses n w (resting (row k) x c.face v n) (let e = h.word in rw e refl) a (resting_ok (row k) x c.face v n fine))
      pauses
      (λ _ _. shapeless refl)
      (λ _ _ _. refuses 13 sw_error_processing_command no_pending refl (record { wrong = 0; is_idle = refl; count = refl }) no_pending_ok)
      (λ h g _. carries h.passed g)

model_demand1 : Demand1 model
unfolding asked_for settled powered_off
model_demand1 =
    record {
      ask_stops = λ m i e.
          stops (is_card m.image) (leb questions_room (length i.buffers.page)) (eqb (length i.draw) draw_size) _
          (λ n. posed_by (outcome n 0 0 0) i.buffers.page) e;
      asks = λ m i e. rw (looked_ask m i e) (ask_ends m i);
      settle_stops = λ m i e.
          stops (is_card m.image) (roomy (length i.buffers.out) (length i.buffers.next)) (eqb (length i.draw) draw_size) _
          (λ n. untouched n i.buffers.out i.buffers.next) e;
      settles = λ m i b e.
          let z = stop_none (is_card m.image) (roomy (length i.buffers.out) (length i.buffers.next)) (eqb (length i.draw) draw_size) e in
          rw (looked m i e) (settle_ends m i z.0);
      agrees = agree_model;
      off_stops = λ m nxt e. stops (is_card m.image) (leb image_room (length nxt)) true _ (λ n. off_by n nxt) e;
      turns_off = λ m nxt b e.
          let o = stop_none (is_card m.image) (leb image_room (length nxt)) true e in
          let c = card_off (decode m.image) in
          rw (o.0, o.1.0)
          (off (encode c) (turned_off_lem m.image o.0) (λ j. off_by 0 (encode c ++ drop (sym (length_encode c (shape_off m.image o.0)) j) nxt)));
    }

pub demand1 : (f : AnyCard) → Demand2 f → Demand1 f
demand1 = every Demand1 model_demand1

-- A REFUSAL, or a pause, leaves the card as it was but for the wait; a number other than 0 leaves all of it
pub refused_card : (c : Card) (q d a : List ℕ) → is_done (paced_to c q d a).word ≡ false → (p : Pending) × (after c q d a ≡ waiting p c)
unfolding done
refused_card c q d a =
    by_tap (λ z _. is_done z.word ≡ false → (p : Pending) × (card_after z c.codes q ≡ waiting p c)) (matched c.codes (sent_in q)) c.face q d a
    (λ s z e. (z.wait, rw (z.face, z.codes) refl))
    (λ _ s z e. (z.wait, rw (z.face, z.codes) refl))
    (λ y g e. clash (done_is (command q) (matched c.codes (sent_in q))) e)

-- with number 0 the result is what is said
module _ (m : State) (i : Call) where
  by_number :
      (P : Card → Type 0) (Q : Outcome → Type 0) → P (decode m.image)
      → (Q (outcome 0 (said_at m i).reason (said_at m i).word (length (said_at m i).response)) → P (card_at m i)) → Q (settled_at m i).result
      → P (card_at m i)
  unfolding settled_of lent
  by_number P Q same said = go (eqb (said_at m i).number 0) refl
    where
      go : (b : Bool) → eqb (said_at m i).number 0 ≡ b → Q (lent (said_at m i) (card_at m i) i.buffers.out i.buffers.next).result → P (card_at m i)
      go true n e = said (rw n at e)
      go false n e = subst P (sym (quiet (decode m.image) i.request i.draw i.answers n).1) same

  -- the image after, in bytes
  module _ (o : is_card m.image ≡ true) where
    next_bytes : Bytes m.image → image m.image (settled_at m i) ≡ encode (card_at m i)
    next_bytes b =
        image_bytes m i o
        ∙ by_cases (λ (l : List ℕ). l ≡ encode (card_at m i)) (eqb (said_at m i).number 0) {x = encode (card_at m i)} {y = m.image}
        (λ _. refl)
        (λ n. sym (ap encode (quiet (decode m.image) i.request i.draw i.answers n).1 ∙ card_image m.image o b))

    pub waits_where : {p : Pending} → card_at m i ≡ waiting p (decode m.image) → ButWait p m.image (image m.image (settled_at m i))
    waits_where e = record { card = image_is m i o ∙ e; stays = λ o. stays_at m i o; bytes = λ _ b. next_bytes b ∙ ap encode e }

  -- of a call: nothing changes where it is not looked at, nor where the card stays
  pub keeps_where :
      (P : Settled → Type 0) → (P (settled_at m i) → card_at m i ≡ decode m.image) → P (settled m i) → Unchanged m.image (image_by model m i)
  keeps_where P h =
      by_call (λ z. P z → Unchanged m.image (image m.image z)) m i
      (λ n k _. rw k (record { card = refl; bytes = λ _ _. refl }))
      (λ o _ _ p.
      let e = h p in
      record { card = image_is m i o ∙ e; bytes = λ o b. next_bytes o b ∙ ap encode e ∙ card_image m.image o b })

  -- nor more than the wait, where it stays but for that
  pub stays_where :
      (P : Settled → Type 0) → (P (settled_at m i) → (p : Pending) × (card_at m i ≡ waiting p (decode m.image))) → P (settled m i)
      → Stays m.image (image_by model m i)
  stays_where P h =
      by_call (λ z. P z → Stays m.image (image m.image z)) m i
      (λ n k _.
      rw k
      ((decode m.image).face.pending, record { card = refl; stays = λ o. o; bytes = λ o b. sym (card_image m.image o b) }))
      (λ o _ _ p. let e = h p in (e.0, waits_where o e.1))

pub refusal_keeps :
    (f : AnyCard) → Demand2 f → (m : State) (i : Call) → is_done (f.taps.settle m i).result.word ≡ false → Stays m.image (image_by f m i)
refusal_keeps =
    every (λ f. (m : State) (i : Call) → is_done (f.taps.settle m i).result.word ≡ false → Stays m.image (image_by f m i))
    (λ m i.
    let c : Card = decode m.image in
    stays_where m i (λ z. is_done z.result.word ≡ false)
    (by_number m i (λ d. (p : Pending) × (d ≡ waiting p c)) (λ r. is_done r.word ≡ false) (c.face.pending, refl)
    (refused_card c i.request i.draw i.answers)))

pub number_keeps :
    (f : AnyCard) → Demand2 f → (m : State) (i : Call) → eqb (f.taps.settle m i).result.number 0 ≡ false → Unchanged m.image (image_by f m i)
number_keeps =
    every (λ f. (m : State) (i : Call) → eqb (f.taps.settle m i).result.number 0 ≡ false → Unchanged m.image (image_by f m i))
    (λ m i.
    keeps_where m i (λ z. eqb z.result.number 0 ≡ false)
    (by_number m i (λ d. d ≡ decode m.image) (λ r. eqb r.number 0 ≡ false) refl (λ e. clash refl e)))

-- WHERE NOTHING IS HELD OR COUNTED, a refusal that is neither over a wrong code nor a pause leaves all of it
abbrev Neither : ℕ → Type 0
Neither w = (is_done w ≡ false) × (eqb w sw_need_pause ≡ false)

idle_card :
    (c : Card) (q d a : List ℕ) → c.face.pending ≡ no_pending → over_wrong c q ≡ false → Neither (paced_to c q d a).word → after c q d a ≡ c
unfolding done
idle_card c q d a e w =
    by_outcome (λ z _ _ _. Neither z.word → card_after z c.codes q ≡ c) (matched c.codes (sent_in q)) c.face q d a
    (λ n u h _. same _ (resting_none (row (command q)) (matched c.codes (sent_in q)) c.face (sent_in q) n e (rw h.verdict at w)))
    (λ t h y. clash refl y.1)
    (λ h _ _. refl)
    (λ h _ _ _. same no_pending refl)
    (λ h _ _ y. clash (done_is (command q) (matched c.codes (sent_in q))) y.0)
  where
    same : (p : Pending) → p ≡ no_pending → waiting p c ≡ c
    same p z = ap (λ p. waiting p c) (z ∙ sym e)

pub refusal_unchanged :
    (f : AnyCard) → Demand2 f → (m : State) (i : Call) → (decode m.image).face.pending ≡ no_pending → over_wrong (decode m.image) i.request ≡ false
    → is_done (f.taps.settle m i).result.word ≡ false → eqb (f.taps.settle m i).result.word sw_need_pause ≡ false
    → Unchanged m.image (image_by f m i)
refusal_unchanged =
    every
    (λ f.
    (m : State) (i : Call) → (decode m.image).face.pending ≡ no_pending → over_wrong (decode m.image) i.request ≡ false
    → is_done (f.taps.settle m i).result.word ≡ false → eqb (f.taps.settle m i).result.word sw_need_pause ≡ false
    → Unchanged m.image (image_by f m i))
    (λ m i e w x y.
    keeps_where m i (λ z. Neither z.result.word)
    (by_number m i (λ d. d ≡ decode m.image) (λ r. Neither r.word) refl (idle_card (decode m.image) i.request i.draw i.answers e w))
    (x, y))
