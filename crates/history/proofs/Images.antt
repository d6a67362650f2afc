-- From cards to images and lent buffers: demand 3 of the manual's own ask and settle, and so of any card that meets demand 2. Assumes nothing.
use Prim.Native.Nat.{ℕ, ◌≤◌}
use native.Mathlib.Omega.{arith}
use mathlib.Core.Path.{◌≡◌, refl, sym, ap, ◌∙◌, subst}
use mathlib.Core.List.{List, [], ◌∷◌, ◌++◌}
use mathlib.Core.Bool.{Bool, true, false, cond}
use lib.ListN.{length, take, drop}
use lib.Seq.{take_at}
use lib.Dec.{leb, eqb}
use borrow.Author.Tests.{le-leb}
use Rattle.wire.specs.Wire.{joined}
use Rattle.card.specs.declared.Card.{Card}
use Rattle.card.specs.Layout.{image_size, image_room}
use Rattle.card.specs.Image.{encode, decode}
use Rattle.card.specs.Valid.{is_card}
use Rattle.card.specs.Shape.{Shape}
use Rattle.cards.proofs.Shape.{length_encode}
use Rattle.cards.proofs.Round.{decode_encode, shape_decode, is_card_length}
use Rattle.manual.specs.Words.{questions_room, draw_size}
use Rattle.manual.specs.Row.{asked, each_asked}
use Rattle.manual.specs.Delay.{pending_off}
use Rattle.manual.specs.Settle.{State, holding, Call, sent_in, matched, Said, done, paced_to}
use Rattle.manual.specs.Settle.{card_after, Settled, settled, settled_of, lent, untouched, outcome, roomy, ask_call, Posed, posed_by, asked_for, asked_from, asked_of}
use Rattle.manual.specs.Settle.{Off, off_by, card_off, powered_off}
use Rattle.story.specs.Sums.{Sheet, History, tap}
use Rattle.story.specs.Buffers.{questions, response, image, image_off}
use Rattle.history.specs.Demands.{AnyCard, stop, ask_stop, settle_stop, Demand2}
use Rattle.history.specs.Demands.{Event, tapped, switched_off, tap_by, image_by, left, played, Fresh, OneMore, Demand3}
use Rattle.history.proofs.Choice.{by_cases, clash}
use Rattle.history.proofs.Taps.{Same, by_tap}
use Rattle.history.proofs.Seen.{look, watch, Inv, at_first_lem}
use Rattle.history.proofs.Cards.{after, xs, shape_waiting, shape_after, Fits, fits_tap, fits_none}
use Rattle.history.proofs.Next.{one_more, no_more}

-- THE MANUAL as a card
abbrev pub model : AnyCard
model = record { taps = record { ask = asked_for; settle = settled }; power_off = powered_off }

-- numbers other than 0 have no response, and leave the card
pub quiet : (c : Card) (q d a : List ℕ) → eqb (paced_to c q d a).number 0 ≡ false → ((paced_to c q d a).response ≡ []) × (after c q d a ≡ c)
unfolding done
quiet c q d a =
    by_tap (λ z _. eqb z.number 0 ≡ false → (z.response ≡ []) × (card_after z c.codes q ≡ c)) (matched c.codes (sent_in q)) c.face q d a
    leaves
    (λ _. leaves)
    (λ y g n. clash refl n)
  where
    leaves : (s : Said) → Same c.face s → eqb s.number 0 ≡ false → (s.response ≡ []) × (card_after s c.codes q ≡ c)
    leaves s z n = let y = z.silence n in (y.0, rw (y.1, z.codes) refl)

-- WHAT THE CALLER READS out of lent buffers
read_response :
    (s : Said) (c : Card) (out nxt : List ℕ) (b : Bool) → eqb s.number 0 ≡ b → (b ≡ false → s.response ≡ [])
    → response (lent s c out nxt) ≡ s.response
unfolding lent
read_response s c out nxt true e h = rw e (take_at s.response (drop (length s.response) out) (length s.response) refl)
read_response s c out nxt false e h = rw (e, e) (sym (h refl))

-- the image hangs on the number and the card left
pub image_lent :
    (m : List ℕ) (s : Said) (c : Card) (out nxt : List ℕ)
    → image m (lent s c out nxt) ≡ cond (eqb s.number 0) (take image_size (encode c ++ drop image_size nxt)) m
unfolding lent
image_lent m s c out nxt = go (eqb s.number 0) refl
  where
    go : (b : Bool) → eqb s.number 0 ≡ b → image m (lent s c out nxt) ≡ cond b (take image_size (encode c ++ drop image_size nxt)) m
    go true e = rw e refl
    go false e = rw (e, e) refl

read_image :
    (m : List ℕ) (s : Said) (c : Card) (out nxt : List ℕ) → length (encode c) ≡ image_size
    → image m (lent s c out nxt) ≡ cond (eqb s.number 0) (encode c) m
read_image m s c out nxt h =
    image_lent m s c out nxt ∙ ap (λ z. cond (eqb s.number 0) z m) (take_at (encode c) (drop image_size nxt) image_size h)

-- what the manual says and leaves at a call, and in its buffers
abbrev pub said_at : State → Call → Said
said_at m i = paced_to (decode m.image) i.request i.draw i.answers

abbrev pub card_at : State → Call → Card
card_at m i = after (decode m.image) i.request i.draw i.answers

abbrev pub asked_at : State → Call → Posed
asked_at m i = asked_from (decode m.image) i.request i.draw i.buffers.page

abbrev pub settled_at : State → Call → Settled
settled_at m i = settled_of (decode m.image) i.request i.draw i.answers i.buffers.out i.buffers.next

-- NUMBERS 1 TO 3
pub stop_none : (a b c : Bool) → stop a b c ≡ 0 → (a ≡ true) × ((b ≡ true) × (c ≡ true))
stop_none true true true e = (refl, (refl, refl))
stop_none true true false e = absurd (omega arith)
stop_none true false c e = absurd (omega arith)
stop_none false b c e = absurd (omega arith)

pub stops :
    {A : Type 0} (a b c : Bool) (x : A) (y : ℕ → A) → eqb (stop a b c) 0 ≡ false → cond a (cond b (cond c x (y 3)) (y 2)) (y 1) ≡ y (stop a b c)
stops true true true x y e = clash refl e
stops true true false x y e = refl
stops true false c x y e = refl
stops false b c x y e = refl

-- what two calls say alike where the card is looked at, they say alike
pub stages :
    {A B : Type 0} (P Q : A → B) (u : ℕ → A) → ((n : ℕ) → P (u n) ≡ Q (u n)) → (a b c : Bool) {x y : A} → P x ≡ Q y
    → P (cond a (cond b (cond c x (u 3)) (u 2)) (u 1)) ≡ Q (cond a (cond b (cond c y (u 3)) (u 2)) (u 1))
stages P Q u h true true true e = e
stages P Q u h true true false e = h 3
stages P Q u h true false c e = h 2
stages P Q u h false b c e = h 1

by_stop :
    {A : Type 0} (P : A → Type 0) (a b c : Bool) {x : A} (y : ℕ → A) → ((n : ℕ) → eqb n 0 ≡ false → P (y n))
    → (a ≡ true → b ≡ true → c ≡ true → P x) → P (cond a (cond b (cond c x (y 3)) (y 2)) (y 1))
by_stop P a b c y f g =
    by_cases P a (λ p. by_cases P b (λ q. by_cases P c (λ r. g p q r) (λ _. f 3 refl)) (λ _. f 2 refl)) (λ _. f 1 refl)

-- where none of them applies, the card is looked at
pub looked : (m : State) (i : Call) → settle_stop m i ≡ 0 → settled m i ≡ settled_at m i
unfolding settled
looked m i e =
    let z = stop_none (is_card m.image) (roomy (length i.buffers.out) (length i.buffers.next)) (eqb (length i.draw) draw_size) e in
    rw (z.0, z.1.0, z.1.1) refl

pub looked_ask : (m : State) (i : Call) → ask_stop m i ≡ 0 → asked_for m i ≡ asked_at m i
unfolding asked_for
looked_ask m i e =
    let z = stop_none (is_card m.image) (leb questions_room (length i.buffers.page)) (eqb (length i.draw) draw_size) e in
    rw (z.0, z.1.0, z.1.1) refl

-- ask looks at it where settle does, if its page has room
pub both_look : (m : State) (i : Call) (page : List ℕ) → questions_room ≤ length page → settle_stop m i ≡ 0 → ask_stop m (ask_call i.request i.draw page) ≡ 0
both_look m i page l e =
    let z = stop_none (is_card m.image) (roomy (length i.buffers.out) (length i.buffers.next)) (eqb (length i.draw) draw_size) e in
    rw (z.0, le-leb questions_room (length page) l, z.1.1) refl

-- THE CASES OF A CALL: numbers 1 to 3, or the card is looked at
pub by_call :
    (P : Settled → Type 0) (m : State) (i : Call) → ((n : ℕ) → eqb n 0 ≡ false → P (untouched n i.buffers.out i.buffers.next))
    → (is_card m.image ≡ true → roomy (length i.buffers.out) (length i.buffers.next) ≡ true → eqb (length i.draw) draw_size ≡ true
    → P (settled_at m i))
    → P (settled m i)
unfolding settled
by_call P m i =
    by_stop P (is_card m.image) (roomy (length i.buffers.out) (length i.buffers.next)) (eqb (length i.draw) draw_size)
    (λ n. untouched n i.buffers.out i.buffers.next)

pub by_ask :
    (P : Posed → Type 0) (m : State) (i : Call) → ((n : ℕ) → eqb n 0 ≡ false → P (posed_by (outcome n 0 0 0) i.buffers.page)) → P (asked_at m i)
    → P (asked_for m i)
unfolding asked_for
by_ask P m i f g =
    by_stop P (is_card m.image) (leb questions_room (length i.buffers.page)) (eqb (length i.draw) draw_size)
    (λ n. posed_by (outcome n 0 0 0) i.buffers.page) f (λ _ _ _. g)

pub response_is : (m : State) (i : Call) → response (settled_at m i) ≡ (said_at m i).response
unfolding settled_of
response_is m i =
    read_response (said_at m i) (card_at m i) i.buffers.out i.buffers.next (eqb (said_at m i).number 0) refl
    (λ e. (quiet (decode m.image) i.request i.draw i.answers e).0)

module _ (m : State) (i : Call) (o : is_card m.image ≡ true) where
  pub shape_is : Shape (card_at m i)
  shape_is = shape_after (decode m.image) i.request i.draw i.answers (shape_decode m.image (is_card_length m.image o))

  pub image_bytes : image m.image (settled_at m i) ≡ cond (eqb (said_at m i).number 0) (encode (card_at m i)) m.image
  unfolding settled_of
  image_bytes = read_image m.image (said_at m i) (card_at m i) i.buffers.out i.buffers.next (length_encode (card_at m i) shape_is)

  pub image_is : decode (image m.image (settled_at m i)) ≡ card_at m i
  image_is =
      ap decode image_bytes
      ∙ by_cases (λ (l : List ℕ). decode l ≡ card_at m i) (eqb (said_at m i).number 0) {x = encode (card_at m i)} {y = m.image}
      (λ _. decode_encode (card_at m i) shape_is)
      (λ e. sym (quiet (decode m.image) i.request i.draw i.answers e).1)

-- ask: zero questions where the card has none, whatever is lent
module _ (m : State) (i : Call) where
  pub asks_none : xs (decode m.image) i.request i.draw ≡ [] → questions (asked_for m i) ≡ []
  unfolding asked_of asked each_asked joined
  asks_none e = by_ask (λ z. questions z ≡ []) m i (λ n k. rw k refl) (rw e refl)

  -- in any case the questions, or none
  asks_some : (P : List ℕ → Type 0) → P [] → P (asked (xs (decode m.image) i.request i.draw)) → P (questions (asked_for m i))
  unfolding asked_of
  asks_some P none all =
      let v : List ℕ = asked (xs (decode m.image) i.request i.draw) in
      by_ask (λ z. P (questions z)) m i (λ n k. rw k none) (subst P (sym (take_at v (drop (length v) i.buffers.page) (length v) refl)) all)

  asks_all :
      is_card m.image ≡ true → eqb (length i.draw) draw_size ≡ true → questions_room ≤ length i.buffers.page
      → questions (asked_for m i) ≡ asked (xs (decode m.image) i.request i.draw)
  unfolding asked_for asked_of
  asks_all e l h =
      let v : List ℕ = asked (xs (decode m.image) i.request i.draw) in
      rw (e, le-leb questions_room (length i.buffers.page) h, l) (take_at v (drop (length v) i.buffers.page) (length v) refl)

-- EVERY CALL keeps card and history in step
fits_call :
    (sh : Sheet) (m : State) (h : History) (i : Call) → Fits sh (decode m.image) h → Fits sh (decode (image_by model m i)) (tap_by model m i ∷ h)
fits_call sh m h i e =
    by_call (λ z. Fits sh (decode (image m.image z)) (tap i.request (response z) ∷ h)) m i
    (λ n k. rw k (fits_none sh (decode m.image) h i.request e))
    (λ o _ _. rw (image_is m i o, response_is m i) (fits_tap (decode m.image) i.request i.draw i.answers sh h e))

more_call :
    (sh : Sheet) (m : State) (h : History) (i : Call) → Fits sh (decode m.image) h → OneMore sh h (tap_by model m i) i (questions (asked_for m i))
more_call sh m h i e =
    by_call (λ z. OneMore sh h (tap i.request (response z)) i (questions (asked_for m i))) m i
    (λ n k. rw k (no_more sh (decode m.image) h e i (questions (asked_for m i)) (asks_some m i) (asks_none m i)))
    (λ x y z. rw (response_is m i) (one_more sh (decode m.image) h e i (questions (asked_for m i)) (asks_some m i) (asks_all m i x z) (asks_none m i)))

-- A POWER-OFF: numbers 1 and 2, or the card is looked at
pub by_off :
    (P : Off → Type 0) (m : State) (nxt : List ℕ) → ((n : ℕ) → eqb n 0 ≡ false → P (off_by n nxt))
    → (is_card m.image ≡ true → P (off_by 0 (encode (card_off (decode m.image)) ++ drop image_size nxt))) → P (powered_off m nxt)
unfolding powered_off
by_off P m nxt f g = by_stop P (is_card m.image) (leb image_room (length nxt)) true (λ n. off_by n nxt) f (λ o _ _. g o)

module _ (m : List ℕ) (o : is_card m ≡ true) where
  pub shape_off : Shape (card_off (decode m))
  shape_off = shape_waiting (pending_off (decode m).face.pending) (decode m) (shape_decode m (is_card_length m o)) refl

  pub image_off_lem : (nxt : List ℕ) → image_off m (off_by 0 (encode (card_off (decode m)) ++ drop image_size nxt)) ≡ encode (card_off (decode m))
  image_off_lem nxt = take_at (encode (card_off (decode m))) (drop image_size nxt) image_size (length_encode (card_off (decode m)) shape_off)

-- keeps both as they are
fits_off :
    (sh : Sheet) (m : State) (h : History) (nxt : List ℕ) → Fits sh (decode m.image) h → Fits sh (decode (image_off m.image (powered_off m nxt))) h
fits_off sh m h nxt e =
    by_off (λ z. Fits sh (decode (image_off m.image z)) h) m nxt
    (λ n k. rw k e)
    (λ o.
    rw (image_off_lem m.image o nxt, decode_encode (card_off (decode m.image)) (shape_off m.image o))
    (record { inv = e.inv; shape = shape_off m.image o }))

-- any calls keep it
fits_all :
    (sh : Sheet) (m : State) (h : History) (es : List Event) → Fits sh (decode m.image) h → Fits sh (decode (left model m es).image) (played model m h es)
fits_all sh m h [] e = e
fits_all sh m h (tapped i ∷ es) e = fits_all sh (holding (image_by model m i)) (tap_by model m i ∷ h) es (fits_call sh m h i e)
fits_all sh m h (switched_off nxt ∷ es) e = fits_all sh (holding (image_off m.image (powered_off m nxt))) h es (fits_off sh m h nxt e)

fits_fresh : (sh : Sheet) (m : List ℕ) → Fresh sh m → Fits sh (decode m) []
fits_fresh sh m e =
    record {
      inv = subst (λ c. Inv sh (watch c.face) c.codes (look sh [])) (sym e.spells) (at_first_lem sh);
      shape = shape_decode m (is_card_length m e.card);
    }

-- DEMAND 3 of the manual
pub model_demand3 : Demand3 model
model_demand3 =
    record {
      kept = λ sh m e es.
          let i = (fits_all sh (holding m) [] es (fits_fresh sh m e)).inv in
          record {
            fixed = i.fixed;
            flags = i.flags;
            state = i.status;
            number = i.number;
            in_force = i.codes;
            balance = i.balance;
            signed_hashes = i.total;
            fits = omega (arith, i.total, i.fits);
            last = i.last;
          };
      next = λ sh m e es i.
          more_call sh (left model (holding m) es) (played model (holding m) [] es) i (fits_all sh (holding m) [] es (fits_fresh sh m e));
    }

-- and demand 2, which is to be the manual
pub model_demand2 : Demand2 model
model_demand2 = record { asks = λ m i. refl; settles = λ m i. refl; turns_off = λ m nxt. refl }

-- a card that meets demand 2 is the manual
pub is_model : (f : AnyCard) → Demand2 f → model ≡ f
is_model f h =
    λ j. record {
      taps = record { ask = λ m i. sym (h.asks m i) j; settle = λ m i. sym (h.settles m i) j };
      power_off = λ m nxt. sym (h.turns_off m nxt) j;
    }
