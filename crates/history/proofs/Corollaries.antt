-- What follows for a SIGN, of any card that meets demand 2: its cost, the repeat for nothing, and where the signatures stand. Assumes nothing.
use Prim.Native.Nat.{ℕ, zero, suc, ◌+◌, ◌*◌, ◌≤◌, ◌<◌}
use native.Mathlib.Omega.{arith}
use mathlib.Core.Path.{◌≡◌, refl, sym, ap, ◌∙◌, subst}
use mathlib.Core.List.{List, [], ◌∷◌, ◌++◌, append_assoc}
use mathlib.Core.Bool.{Bool, true, false, cond}
use lib.ListN.{length, take, drop}
use lib.Seq.{take_at, drop-drop, drop-append-add}
use lib.Dec.{leb}
use borrow.Author.Tests.{leb-true, leb-false}
use Rattle.wire.specs.Wire.{be2, be4, part, joined}
use Rattle.fields.specs.Fields.{View, val, tlv, head_of, each, written}
use Rattle.fields.proofs.Laws.{length_short, length_long}
use Rattle.fields.proofs.Trip.{value_at, length_tlv}
use Rattle.card.specs.declared.Card.{Card}
use Rattle.card.specs.Layout.{cid_size, signature_size, most_hashes, most_pause}
use Rattle.card.specs.Values.{no_pending, fresh}
use Rattle.card.specs.Image.{encode, decode}
use Rattle.card.specs.Valid.{curve_known, ok_flags}
use Rattle.card.specs.Shape.{ShapeCodes, ShapeFixed}
use Rattle.cards.proofs.Round.{decode_encode, shape_decode, is_card_length}
use Rattle.cards.proofs.Shape.{shape_fresh}
use Rattle.kept.proofs.Fresh.{fresh_is_card}
use Rattle.manual.specs.Words.{sw_process_completed, hash_size, questions_room}
use Rattle.manual.specs.Tags.{CID, TransactionHash, Signature, Remaining, SignedHashes}
use Rattle.manual.specs.declared.Command.{Command}
use Rattle.manual.specs.declared.Command.TheVariants.{Sign}
use Rattle.manual.specs.Request.{command}
use Rattle.manual.specs.Row.{Matched, Question, question, asked}
use Rattle.manual.specs.Wallet.{is_new, count, hash_questions}
use Rattle.manual.specs.Commands.{row}
use Rattle.manual.specs.Settle.{waiting, State, holding, Call, sent_in, matched, done, paced_to, card_after}
use Rattle.story.specs.Sums.{Sheet, tap, told_in, is_done, accepted, did, signed_new, wallets}
use Rattle.story.specs.Buffers.{questions, response, image}
use Rattle.history.specs.Demands.{AnyCard, ButWait, Demand2, sign_fields, Event, tap_by, image_by, left, played, Fresh, sign_questions, Demand3}
use Rattle.history.specs.Facts.{Cost, place, answers_of, nth}
use Rattle.history.proofs.Choice.{both_true, clash, did_sign}
use Rattle.history.proofs.Taps.{Passed, carried}
use Rattle.history.proofs.Sign.{needed}
use Rattle.history.proofs.Cards.{after}
use Rattle.history.proofs.Images.{model, by_call, response_is, image_is}
use Rattle.history.proofs.Theorems.{demand3, refusal_keeps, every, waits_where}

-- ON A CARD
module _ (c : Card) (q d a : List ℕ) where
  abbrev k : Command
  k = command q

  abbrev v : View
  v = sent_in q

  abbrev m : Matched
  m = matched c.codes (sent_in q)

  abbrev r : List ℕ
  r = (paced_to c q d a).response

  -- the card after a command that was accepted: nothing is held or counted
  pub after_done :
      (j : Command) → (accepted r ≡ true) × (k ≡ j)
      → (Passed (row j) m c.face v)
      × (after c q d a ≡ waiting no_pending (record { face = (row j).next c.face v a; codes = (row j).recode v c.codes }))
  unfolding done
  after_done j y =
      let b = carried m c.face q d a y.0 in (
        subst (λ j. Passed (row j) m c.face v) y.1 b.passed,
        ap (λ z. card_after z c.codes q) b.is_done
            ∙ ap (λ j. waiting no_pending (record { face = (row j).next c.face v a; codes = (row j).recode v c.codes })) y.1,
      )

  sign_cost : signed_new (tap q r) ≡ true → Cost c (after c q d a) (count v)
  sign_cost e =
      let w = both_true (did Sign (tap q r)) (is_new v) e in
      let z = after_done Sign (did_sign (tap q r) w.0) in
      let n = needed m c.face v z.0 in
      let x = n.some w.1 in
      let y = n.fits w.1 in
      rw (z.1, w.1) (record { remaining = omega arith; signed_hashes = omega arith; few = n.few w.1 })

  repeat_card : did Sign (tap q r) ≡ true → is_new v ≡ false → after c q d a ≡ waiting no_pending c
  repeat_card e n = (after_done Sign (did_sign (tap q r) e)).1 ∙ rw n refl

-- FIVE HASHES, or any number of them, cost one signature and count as five
cost_model :
    (m : State) (i : Call) → signed_new (tap_by model m i) ≡ true → Cost (decode m.image) (decode (image_by model m i)) (count (sent_in i.request))
unfolding accepted
cost_model m i =
    by_call (λ z. signed_new (tap i.request (response z)) ≡ true → Cost (decode m.image) (decode (image m.image z)) (count (sent_in i.request))) m i
    (λ n k e. clash (rw k at e) refl)
    (λ o _ _. rw (image_is m i o, response_is m i) (sign_cost (decode m.image) i.request i.draw i.answers))

pub sign_costs :
    (f : AnyCard) → Demand2 f → (m : State) (i : Call) → signed_new (tap_by f m i) ≡ true
    → Cost (decode m.image) (decode (image_by f m i)) (count (sent_in i.request))
sign_costs =
    every (λ f. (m : State) (i : Call) → signed_new (tap_by f m i) ≡ true → Cost (decode m.image) (decode (image_by f m i)) (count (sent_in i.request)))
    cost_model

pub five_hashes :
    (f : AnyCard) → Demand2 f → (m : State) (i : Call) → signed_new (tap_by f m i) ≡ true
    → length (val TransactionHash (sent_in i.request)) ≡ 5 * hash_size → Cost (decode m.image) (decode (image_by f m i)) 5
five_hashes f h m i e l =
    let n : count (sent_in i.request) ≡ 5 = omega arith in
    subst (Cost (decode m.image) (decode (image_by f m i))) n (sign_costs f h m i e)

-- THE REPEAT costs nothing and changes nothing, but that nothing is held or counted afterwards
repeat_model :
    (m : State) (i : Call) → did Sign (tap_by model m i) ≡ true → is_new (sent_in i.request) ≡ false → ButWait no_pending m.image (image_by model m i)
unfolding accepted
repeat_model m i e n =
    by_call (λ z. did Sign (tap i.request (response z)) ≡ true → ButWait no_pending m.image (image m.image z)) m i
    (λ n k e. clash (rw k at e) refl)
    (λ o _ _ y. waits_where m i o (repeat_card (decode m.image) i.request i.draw i.answers (rw (response_is m i) at y) n))
    e

pub repeat_free :
    (f : AnyCard) → Demand2 f → (m : State) (i : Call) → did Sign (tap_by f m i) ≡ true → is_new (sent_in i.request) ≡ false
    → ButWait no_pending m.image (image_by f m i)
repeat_free =
    every
    (λ f. (m : State) (i : Call) → did Sign (tap_by f m i) ≡ true → is_new (sent_in i.request) ≡ false → ButWait no_pending m.image (image_by f m i))
    repeat_model

-- A REFUSED COMMAND has used nothing up: no signature, no hash, no counter
pub refusal_free :
    (f : AnyCard) → Demand2 f → (m : State) (i : Call) → is_done (f.taps.settle m i).result.word ≡ false
    → ((decode (image_by f m i)).face.front.wallet ≡ (decode m.image).face.front.wallet)
    × ((decode (image_by f m i)).face.front.counters ≡ (decode m.image).face.front.counters)
refusal_free f h m i e =
    let u = (refusal_keeps f h m i e).1.card in
    (ap (λ c. c.face.front.wallet) u, ap (λ c. c.face.front.counters) u)

-- WHERE THE SIGNATURES STAND
head_long : (n : ℕ) → 10 + length (head_of Signature (n * signature_size)) ≡ place n
head_long n = go (leb n 3) refl
  where
    go : (b : Bool) → leb n 3 ≡ b → 10 + length (head_of Signature (n * signature_size)) ≡ cond b 12 14
    go true e = let h : n ≤ 3 = leb-true n 3 e in let l = length_short Signature (n * signature_size) (omega arith) in omega arith
    go false e = let h : 3 < n = leb-false n 3 e in let l = length_long Signature (n * signature_size) (omega arith) in omega arith

stand :
    (cid a : List ℕ) (u v w n : ℕ) → length cid ≡ cid_size → length a ≡ n * signature_size → n ≤ most_hashes
    → part (written (sign_fields cid a u v) ++ be2 w) (place n) (n * signature_size) ≡ a
unfolding written each joined
stand cid a u v w n c l h =
    let t : List ℕ = tlv Remaining (be4 u) ++ (tlv SignedHashes (be4 v) ++ []) in
    let e = append_assoc (tlv CID cid) (tlv Signature a ++ t) (be2 w) ∙ ap (λ z. tlv CID cid ++ z) (append_assoc (tlv Signature a) t (be2 w)) in
    let x = length_tlv CID cid (omega arith) in
    let y : length (head_of CID (length cid)) ≡ 2 = length_short CID (length cid) (omega arith) in
    let z : length (tlv CID cid) ≡ 10 = omega arith in
    let at : 10 + length (head_of Signature (length a)) ≡ place n = ap (λ k. 10 + length (head_of Signature k)) l ∙ head_long n in
    (λ j. part (written (sign_fields cid a u v) ++ be2 w) (sym at j) (sym l j)) ∙ value_at _ (tlv CID cid) 10 Signature a (t ++ be2 w) e z (omega arith)

pub signatures_stand :
    (f : AnyCard) → Demand2 f → (sh : Sheet) (m : List ℕ) → Fresh sh m → (es : List Event) (i : Call)
    → signed_new (tap_by f (left f (holding m) es) i) ≡ true
    → part (response (f.taps.settle (left f (holding m) es) i)) (place (count (sent_in i.request))) (count (sent_in i.request) * signature_size)
    ≡ i.answers
unfolding fresh
signatures_stand f h sh m e es i n =
    let k : ℕ = count (sent_in i.request) in
    let x = ((demand3 f h).next sh m e es i).signs n in
    let s = shape_decode m (is_card_length m e.card) in
    let c : length sh.fixed.cid ≡ cid_size = subst (λ (z : Card). length z.face.front.fixed.cid ≡ cid_size) e.spells s.face.front.fixed.cid in
    ap (λ r. part r (place k) (k * signature_size)) x.bytes
    ∙ stand sh.fixed.cid i.answers _ _ sw_process_completed k c x.size (sign_costs f h (left f (holding m) es) i n).few

-- THE PROVIDER: where the answers are what one made of the questions asked, whoever it is, the signatures told are what it makes of the live wallet's
-- number, the curve and these hashes, in order
pub provider_signs :
    (f : AnyCard) → Demand3 f → (sh : Sheet) (m : List ℕ) → Fresh sh m → (es : List Event) (i : Call) → (provider : List ℕ → List ℕ)
    → signed_new (tap_by f (left f (holding m) es) i) ≡ true
    → questions_room ≤ length i.buffers.page
    → i.answers ≡ provider (questions (f.taps.ask (left f (holding m) es) i))
    → val Signature (told_in (response (f.taps.settle (left f (holding m) es) i)))
    ≡ provider
    (asked (sign_questions sh (played f (holding m) [] es) (sent_in i.request)))
provider_signs f h sh m e es i provider n l a = let x = (h.next sh m e es i).signs n in x.answers ∙ (a ∙ ap provider (x.questions l))

-- SIGNATURE k IS THE ANSWER TO THE QUESTION ON HASH k, where the provider answers each question by itself, with a signature
nth_answer :
    (number curve n : ℕ) (l : List ℕ) (provider : Question → List ℕ) → ((x : Question) → length (provider x) ≡ signature_size) → (k : ℕ) → k < n
    → nth signature_size k (answers_of provider (hash_questions number curve n l)) ≡ provider (question 2 number curve (nth hash_size k l ∷ []))
unfolding hash_questions
nth_answer number curve zero l provider s k h = absurd (omega arith)
nth_answer number curve (suc n) l provider s zero h =
    take_at (provider (question 2 number curve (take hash_size l ∷ []))) _ signature_size (s (question 2 number curve (take hash_size l ∷ [])))
nth_answer number curve (suc n) l provider s (suc k) h =
    let x = provider (question 2 number curve (take hash_size l ∷ [])) in
    let e : suc k * signature_size ≡ length x + k * signature_size = omega (arith, s (question 2 number curve (take hash_size l ∷ []))) in
    let u : suc k * hash_size ≡ hash_size + k * hash_size = omega arith in
    ap (λ m. take signature_size (drop m (x ++ answers_of provider (hash_questions number curve n (drop hash_size l))))) e
    ∙ ap (take signature_size) (drop-append-add x _ (k * signature_size))
    ∙ nth_answer number curve n (drop hash_size l) provider s k (omega arith)
    ∙ ap (λ m. provider (question 2 number curve (take hash_size m ∷ []))) (drop-drop (k * hash_size) hash_size l ∙ ap (λ m. drop m l) (sym u))

pub signature_of_hash :
    (f : AnyCard) → Demand3 f → (sh : Sheet) (m : List ℕ) → Fresh sh m → (es : List Event) (i : Call) (provider : Question → List ℕ)
    → ((x : Question) → length (provider x) ≡ signature_size) → signed_new (tap_by f (left f (holding m) es) i) ≡ true
    → questions_room ≤ length i.buffers.page
    → ((these : List Question) → questions (f.taps.ask (left f (holding m) es) i) ≡ asked these → i.answers ≡ answers_of provider these)
    → (k : ℕ) → k < count (sent_in i.request)
    → nth signature_size k (val Signature (told_in (response (f.taps.settle (left f (holding m) es) i))))
    ≡ provider
    (question 2 (wallets (played f (holding m) [] es)) sh.fixed.curve (nth hash_size k (val TransactionHash (sent_in i.request)) ∷ []))
signature_of_hash f h sh m e es i provider s n l a k u =
    let x = (h.next sh m e es i).signs n in
    let v = sent_in i.request in
    ap (nth signature_size k) (x.answers ∙ a _ (x.questions l))
    ∙ nth_answer (wallets (played f (holding m) [] es)) sh.fixed.curve (count v) (val TransactionHash v) provider s k u

-- FRESH CARDS there are: the image of a sheet in its ranges
pub fresh_image :
    (sh : Sheet) → ShapeFixed sh.fixed → ShapeCodes sh.codes → curve_known sh.fixed ≡ true → 1 ≤ sh.fixed.max
    → sh.fixed.pause ≤ most_pause → ok_flags sh.flags ≡ true → Fresh sh (encode (fresh sh.fixed sh.flags sh.codes))
fresh_image sh x k curve max pause flags =
    record {
      card = fresh_is_card sh.fixed sh.flags sh.codes x k curve max pause flags;
      spells = decode_encode (fresh sh.fixed sh.flags sh.codes) (shape_fresh sh.fixed sh.flags sh.codes x k);
    }
