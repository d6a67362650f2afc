-- What a written response and a written image leave, how one walk reads a request, and how they make what ask and settle mean. Assumes nothing.
use Prim.Native.Nat.{ℕ, ◌+◌, ◌≤◌}
use native.Mathlib.Omega.{arith}
use mathlib.Core.Path.{◌≡◌, refl, sym, ap, ◌∙◌}
use mathlib.Core.List.{List, [], ◌∷◌, ◌++◌}
use mathlib.Core.Bool.{Bool, true, false, cond}
use lib.ListN.{length, drop, get_or, length-append, length-replicate}
use lib.Seq.{take_at}
use lib.Dec.{leb, eqb}
use borrow.Author.Tests.{leb-true, eq-eqb}
use denote.Bor.{Bor}
use Rattle.std.specs.Prelude.{Ok, Err}
use Rattle.wire.specs.Wire.{part, Wrote, Wrotes, joined, be2}
use Rattle.wire.proofs.Laws.{runs, all_run, then, front, both_true, part_plain, never}
use Rattle.fields.specs.Fields.{View, view_of, fld, each, written, well_formed}
use Rattle.sent.specs.declared.Sent.{Sent}
use Rattle.sent.specs.Sent.{view, unwalked, Walked}
use Rattle.sent.proofs.Laws.{walked_view, walked_form}
use Rattle.card.specs.declared.Card.{Card}
use Rattle.card.specs.Layout.{held_room, pending_at, image_size, image_room}
use Rattle.card.specs.Values.{no_wait, held_request, no_pending}
use Rattle.card.specs.Image.{enc_pending, encode, decode}
use Rattle.card.specs.Shape.{Shape}
use Rattle.cards.proofs.Shape.{length_encode, shape_with_pending}
use Rattle.cards.proofs.Round.{decode_encode}
use Rattle.manual.specs.declared.Command.{Command}
use Rattle.manual.specs.declared.Refusal.{Refusal}
use Rattle.manual.specs.declared.Pace.{Pace}
use Rattle.manual.specs.declared.Pace.TheVariants.{Refused, Waits, Goes}
use Rattle.manual.specs.declared.Outcome.{Outcome}
use Rattle.manual.specs.Words.{sw_wrong_length, sw_cla_not_supported, sw_ins_not_supported, sw_process_completed, sw_error_processing_command, sw_need_pause}
use Rattle.manual.specs.Words.{questions_room, response_room}
use Rattle.manual.specs.Tags.{CID}
use Rattle.manual.specs.Request.{lc_of, fits, ins_of, listed, command, payload, body_in}
use Rattle.manual.specs.Row.{Matched, Verdict, stop, passed, asked, each_asked, shaped}
use Rattle.manual.specs.Commands.{row}
use Rattle.manual.specs.Delay.{pace_by, seconds}
use Rattle.manual.specs.Settle.{Said, settled_by, outcome, refused, silent, done, answered, said, pace_of, leaving, paced, card_after, over}
use Rattle.manual.specs.Settle.{fields_of, response_of, lent, untouched, settled_of, roomy, matched, judged, judged_by, sent_in}
use Rattle.manual.specs.Settle.{reason_of, word_of, questions_of, posed, posed_by, asked_of, asked_from}
use Rattle.facts.proofs.Facts.{small_decode, facts, asks, tells}
use Rattle.facts.proofs.Blind.{blind}
use Rattle.request.proofs.Laws.{body_is, payload_short}
use Rattle.gate.specs.Gate.{head_of, later_of}
use Rattle.gate.proofs.Laws.{at_head, past_head, heads, head_command, command_of_lem, fields_hold}
use Rattle.changes.specs.Carried.{carried_card, carried_image}
use Rattle.changes.proofs.Laws.{carried_shape}
use Rattle.practice.proofs.Ends.{waited, idled}
use Rattle.practice.specs.Carried.{Says, pace_in, is_waiting, refused_in, held_in, left_card, done_in, made_by, confirmed_in, answered_in}

-- THE NEXT IMAGE: an image changed is that of the card after
module _ (k : Command) (m : List ℕ) (v : View) (a nxt : List ℕ) (l : length m ≡ image_size) where
  abbrev next : Card
  next = carried_card k (decode m) v a

  changed : {nxt' : List ℕ} {r : ℕ} → Wrote nxt 0 (carried_image k m v a) nxt' r → image_room ≤ length nxt → nxt' ≡ encode next ++ drop image_size nxt
  unfolding carried_image
  changed {nxt'} {r} w h =
      let e = length_encode next (carried_shape k m l v a) in
      let z : length (encode next) ≤ length nxt = omega arith in
      let v : Wrote nxt 0 (encode next) nxt' r = rw (eq-eqb _ _ l) at w in
      (front (runs v) z).0 ∙ ap (λ n. encode next ++ drop n nxt) e

  pub left : {nxt' nxt'' : List ℕ} {r s : ℕ} → Wrote nxt 0 (carried_image k m v a) nxt' r → image_room ≤ length nxt
      → Wrote nxt' pending_at (enc_pending (held_request no_wait [])) nxt'' s → nxt'' ≡ encode (left_card k (decode m) v a) ++ drop image_size nxt
  left w h x =
      let rest = drop image_size nxt in
      idled next rest no_wait (waited next rest no_wait [] (carried_shape k m l v a) (changed w h) x)

  -- and spells it
  left_shape : Shape (left_card k (decode m) v a)
  left_shape =
      let s = carried_shape k m l v a in
      record { codes = s.codes; face = shape_with_pending next.face s.face no_pending (length-replicate {A = ℕ} held_room 0) }

  pub spelled : {nxt' : List ℕ} (rest : List ℕ) → nxt' ≡ encode (left_card k (decode m) v a) ++ rest
      → decode (part nxt' 0 image_size) ≡ left_card k (decode m) v a
  spelled rest e =
      let c : Card = left_card k (decode m) v a in
      let n = length_encode c left_shape in
      let z : 0 + image_size ≤ length (encode c ++ rest) = omega (arith, n, length-append (encode c) rest) in
      ap (λ x. decode (part x 0 image_size)) e
      ∙ ap decode (part_plain (encode c ++ rest) 0 image_size z ∙ take_at (encode c) rest image_size n)
      ∙ decode_encode c left_shape

-- the change that goes with check 13: the command's own, or none
pub made_by_lem : (c : Card) (v : View) (a rest : List ℕ) {nxt : List ℕ} (k : Command) {j : Command} {s t : Bool} → j ≡ made_by k s → s ≡ t
    → nxt ≡ encode (left_card j c v a) ++ rest → nxt ≡ encode (left_card (made_by k t) c v a) ++ rest
made_by_lem c v a rest k e f h = h ∙ ap (λ i. encode (left_card i c v a) ++ rest) (e ∙ ap (made_by k) f)

-- A RESPONSE: its fields and its word
pub responded : (k : Command) (m : List ℕ) (w : ℕ) (v : View) (e a : List ℕ) {d d' : List ℕ} {r : ℕ} {d'' : List ℕ} {r'' : ℕ}
    → Wrotes d 0 (each (fields_of (row k) (decode m).face v e a)) d' r → Wrote d' r (be2 w) d'' r'' → response_room ≤ length d
    → Says (response_of (row k) w (decode m).face v e a) d r'' d'' × (r'' ≤ response_room)
unfolding written
responded k m w v e a t x h =
    let s = tells (facts k) (decode m).face v e a (small_decode m) in
    let l : length (response_of (row k) w (decode m).face v e a) ≤ response_room = simp length-append (omega arith) in
    let f = front (then (all_run t) (runs x)) (omega arith) in
    (record { bytes = f.0; size = f.1 }, omega (arith, f.1))

-- a command that is carried out: what it tells is not of the wait
module _ (k : Command) (c : Card) (v : View) (d a out nxt : List ℕ) where
  abbrev response : ℕ → Card → List ℕ
  response w x = response_of (row k) w x.face v d a

  abbrev after : Card
  after = left_card k c v a

  told_alike : (w : ℕ) → response w after ≡ response w (carried_card k c v a)
  told_alike w =
      let f = (row k).next c.face v a in
      ap (λ fs. written (fld CID f.front.fixed.cid ∷ fs) ++ be2 w) ((blind k).fields_out no_pending f v d a)

  pub carries :
      {x : Card} {w l : ℕ} {r : Outcome} {out' nxt' : List ℕ} → r ≡ outcome 0 0 w l → x ≡ after
      → w ≡ sw_process_completed + (row k).more (matched c.codes v) → Says (response w x) out l out'
      → nxt' ≡ encode after ++ drop image_size nxt → settled_by r out' nxt' ≡ done_in k c v d a out nxt
  unfolding done_in lent done
  carries {x} {w} {l} {r} {out'} {nxt'} er ex ew s ei =
      (λ i. settled_by (er i) (s.bytes i) (ei i))
      ∙ (λ i. settled_by (outcome 0 0 w (s.size i)) (over (response w x) out) (encode after ++ drop image_size nxt))
      ∙ (let e = ap (response w) ex ∙ told_alike w in
      λ i. settled_by (outcome 0 0 w (length (e i))) (over (e i) out) (encode after ++ drop image_size nxt))
      ∙ ap (λ n. settled_by (outcome 0 0 n (length (response n (carried_card k c v a)))) (over (response n (carried_card k c v a)) out)
      (encode after ++ drop image_size nxt)) ew

pub rooms : (a b : ℕ) → roomy a b ≡ true → (response_room ≤ a) × (image_room ≤ b)
unfolding roomy
rooms a b e = let z = both_true (leb response_room a) (leb image_room b) e in (leb-true _ _ z.0, leb-true _ _ z.1)

-- CHECKS 1 TO 3 refuse before any code is looked at
module _ (c : Card) (q : List ℕ) {h : Verdict} {e : Refusal} (eh : h ≡ head_of q) (d : h ≡ Err e) where
  pub stopped : judged (matched c.codes (sent_in q)) c.face q ≡ Err e
  stopped = at_head (well_formed (payload q)) c (sent_in q) q eh d

  abbrev pace : Verdict → Pace
  pace g = pace_in g (command q) c (sent_in q) q

  early : (x y z : Bool) → cond x (cond y (cond z (passed q) (stop 3 sw_ins_not_supported)) (stop 2 sw_cla_not_supported)) (stop 1 sw_wrong_length) ≡ Err e
      → pace (Err e) ≡ Refused false
  unfolding pace_by
  early true true true e = cc
  early true true false e = ap pace (sym e)
  early true false z e = ap pace (sym e)
  early false y z e = ap pace (sym e)

  pub stopped_pace : pace_of (matched c.codes (sent_in q)) c.face q ≡ Refused false
  unfolding pace_of
  stopped_pace = ap pace stopped ∙ early (fits (lc_of q)) (eqb (get_or q 0 0) 0) (listed (ins_of (get_or q 1 0))) (sym eh ∙ d)

-- ONE WALK of a request that passed checks 1 to 3 sees what it sends, and judges as the meaning does
module _ {p : Bor (List ℕ)} {u s : Sent} {h : Verdict} {k : Command} (q : List ℕ) (eh : h ≡ head_of q) (dh : h ≡ Ok k) (ep : p.now ≡ body_in q)
    (n : u ≡ unwalked p) (w : Walked u s) where
  has_payload : p.now ≡ payload q
  has_payload = ep ∙ body_is q (heads q eh dh)

  pub read_view : view s ≡ sent_in q
  unfolding sent_in
  read_view = walked_view n w (omega (arith, ap length has_payload, payload_short q)) ∙ ap view_of has_payload

  pub judged_read : (c : Card) {v : Verdict} → v ≡ later_of k s.whole c (view s) q → v ≡ judged (matched c.codes (sent_in q)) c.face q
  judged_read c e =
      let z = walked_form n w ∙ ap well_formed has_payload in
      e ∙ sym (past_head s.whole c (view s) q eh dh) ∙ (λ i. judged_by (z i) (read_view i) (matched c.codes (read_view i)) c.face q)

  pub pace_read : (c : Card) {v : Verdict} {t : Pace} → v ≡ later_of k s.whole c (view s) q → t ≡ pace_in v k c (view s) q
      → t ≡ pace_of (matched c.codes (sent_in q)) c.face q
  unfolding pace_of
  pace_read c e es = es ∙ (λ i. pace_in (judged_read c e i) (head_command q eh dh i) c (read_view i) q)

-- a request that passes is of the command that its checks were made for, and has its fields
module _ (c : Card) (q : List ℕ) (k : Command) {j : Command} (ek : k ≡ command q) (e : judged (matched c.codes (sent_in q)) c.face q ≡ Ok j) where
  same_command : j ≡ k
  same_command = command_of_lem (well_formed (payload q)) (sent_in q) (matched c.codes (sent_in q)) c.face q e ∙ sym ek

  pub sent_fields : (row k).fields c.face (sent_in q) ≡ true
  sent_fields =
      ap (λ i. (row i).fields c.face (sent_in q)) (sym same_command)
      ∙ fields_hold (well_formed (payload q)) (sent_in q) (matched c.codes (sent_in q)) c.face q e

-- ASK BY ITS PACE AND ITS VERDICT
module _ (c : Card) (q d out : List ℕ) where
  abbrev m : Matched
  m = matched c.codes (sent_in q)

  pub asked_waits : (s : Pace) → is_waiting s ≡ true → pace_of m c.face q ≡ s → asked_from c q d out ≡ posed_by (outcome 0 0 sw_need_pause 0) out
  unfolding asked_of asked each_asked joined
  asked_waits (Refused b) h e = absurd (never h)
  asked_waits (Waits t) h e = rw e refl
  asked_waits Goes h e = absurd (never h)

  asked_by : (s : Pace) → is_waiting s ≡ false → pace_of m c.face q ≡ s → {g : Verdict} → judged m c.face q ≡ g
      → asked_from c q d out ≡ posed (reason_of g) (word_of g) (asked (questions_of g c.face q d)) out
  unfolding asked_of
  asked_by (Refused b) h e eg = rw (e, eg) refl
  asked_by (Waits t) h e eg = absurd (never (sym h))
  asked_by Goes h e eg = rw (e, eg) refl

  module _ (s : Pace) (h : is_waiting s ≡ false) (es : pace_of m c.face q ≡ s) where
    pub asked_stop : {e : Refusal} → judged m c.face q ≡ Err e → asked_from c q d out ≡ posed_by (outcome 0 e.check e.word 0) out
    unfolding asked each_asked joined
    asked_stop e = asked_by s h es e

    pub asked_pass : (k : Command) {j : Command} → k ≡ command q → judged m c.face q ≡ Ok j
        → asked_from c q d out ≡ posed 0 sw_process_completed (asked ((row k).questions c.face (sent_in q) d)) out
    asked_pass k ek e =
        asked_by s h es e ∙ ap (λ i. posed 0 sw_process_completed (asked ((row i).questions c.face (sent_in q) d)) out) (same_command c q k ek e)

-- the questions at the front of their buffer
pub posed_front : (k : Command) (m : List ℕ) (v : View) (d : List ℕ) {out out' : List ℕ} {r : ℕ} → (row k).fields (decode m).face v ≡ true
    → Wrotes out 0 (each_asked ((row k).questions (decode m).face v d)) out' r → questions_room ≤ length out
    → Says (asked ((row k).questions (decode m).face v d)) out r out' × (r ≤ questions_room)
unfolding asked
posed_front k m v d ok t h =
    let s = asks (facts k) (decode m).face v d (small_decode m) ok in
    let f = front (all_run t) (omega arith) in
    (record { bytes = f.0; size = f.1 }, omega (arith, f.1))

pub poses : {v out out' : List ℕ} {r : ℕ} {x : Outcome} (n w : ℕ) → x ≡ outcome 0 n w r → Says v out r out' → posed_by x out' ≡ posed n w v out
poses {v} {out} n w e s = (λ i. posed_by (e i) (s.bytes i)) ∙ ap (λ l. posed_by (outcome 0 n w l) (over v out)) s.size

-- SETTLE BY ITS PACE AND ITS VERDICT
never_refused : (t : ℕ) (x b : Bool) → cond x Goes (Waits t) ≡ Refused b → ⊥
never_refused t true b e = cc
never_refused t false b e = cc

module _ (c : Card) (q d a out nxt : List ℕ) where
  abbrev codes : Matched
  codes = matched c.codes (sent_in q)

  pub settled_stop : (s : Pace) {x : Refusal} → pace_of codes c.face q ≡ s → judged codes c.face q ≡ Err x
      → settled_of c q d a out nxt ≡ held_in s (Err x) c q out nxt
  unfolding settled_of paced said lent
  settled_stop (Refused b) es e = rw (es, e) refl
  settled_stop (Waits t) es e = rw es refl
  settled_stop Goes es e = rw (es, e) refl

  -- what passes is not refused
  pass_paced : {k : Command} (b : Bool) → judged codes c.face q ≡ Ok k → pace_of codes c.face q ≡ Refused b → ⊥
  unfolding pace_of pace_by
  pass_paced b e es =
      let t = seconds (row (command q)) c.face (sent_in q) q in
      never_refused t (eqb t 0) b (rw e at es)

  -- what does not pass, or does not go on
  pub settled_held : (s : Pace) (g : Verdict) → ((k : Command) → s ≡ Goes → g ≡ Ok k → ⊥) → pace_of codes c.face q ≡ s → judged codes c.face q ≡ g
      → settled_of c q d a out nxt ≡ held_in s g c q out nxt
  unfolding settled_of paced lent
  settled_held s (Err x) h es e = settled_stop s es e
  settled_held (Refused b) (Ok k) h es e = absurd (pass_paced b e es)
  settled_held (Waits t) (Ok k) h es e = rw es refl
  settled_held Goes (Ok k) h es e = absurd (h k refl refl)

  abbrev ways : Command → Bool → Bool → Said
  ways k s t =
      leaving no_pending
      (cond s (cond t (done (row k) codes c.face (sent_in q) d a) (refused 13 sw_error_processing_command c.face)) (silent 4 c.face))

  by_ways : (k : Command) → k ≡ command q → (s t : Bool) → lent (ways k s t) (card_after (ways k s t) c.codes q) out nxt
      ≡ cond s (cond t (done_in k c (sent_in q) d a out nxt) (refused_in no_pending (stop 13 sw_error_processing_command) c out nxt)) (untouched 4 out nxt)
  unfolding done_in lent done
  by_ways k e true true =
      ap (λ j. lent (ways k true true) (record { face = (left_card k c (sent_in q) a).face; codes = (row j).recode (sent_in q) c.codes }) out nxt) (sym e)
  by_ways k e true false = refl
  by_ways k e false t = refl

  pub settled_pass : (k : Command) {j : Command} → k ≡ command q → pace_of codes c.face q ≡ Goes → judged codes c.face q ≡ Ok j
      → settled_of c q d a out nxt ≡ answered_in k c (sent_in q) d a out nxt
  unfolding settled_of paced said answered answered_in confirmed_in
  settled_pass k {j} ek es e =
      let ej = command_of_lem (well_formed (payload q)) (sent_in q) codes c.face q e in
      rw (es, e) (by_ways j ej (shaped ((row j).questions c.face (sent_in q) d) a) ((row j).confirmed a)
      ∙ ap (λ i. answered_in i c (sent_in q) d a out nxt) (ej ∙ sym ek))
