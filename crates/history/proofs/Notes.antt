-- NOTES on a card with replay protection, of any card that meets demand 2: one whose counter is not above the stored one is refused, for good. Assumes
-- nothing.
use Prim.Native.Nat.{ℕ, ◌≤◌}
use native.Mathlib.Omega.{arith}
use mathlib.Core.Path.{◌≡◌, refl, sym, ap, ◌∙◌, subst}
use mathlib.Core.List.{List, [], ◌∷◌, ◌++◌}
use mathlib.Core.Bool.{Bool, true, false, cond, not, ◌||◌}
use lib.ListN.{length}
use lib.Dec.{ltb, eqb}
use borrow.Author.Tests.{le-ltb}
use Rattle.std.specs.Prelude.{Ok}
use Rattle.fields.specs.Fields.{holds, well_formed, written}
use Rattle.card.specs.declared.Face.{Face}
use Rattle.card.specs.declared.Card.{Card}
use Rattle.card.specs.Values.{no_pending, with_pending}
use Rattle.card.specs.Image.{decode}
use Rattle.cards.proofs.Round.{decode_encode}
use Rattle.manual.specs.Words.{sw_invalid_params, sw_invalid_status, sw_need_pause}
use Rattle.manual.specs.Tags.{CVC}
use Rattle.manual.specs.declared.Command.{Command}
use Rattle.manual.specs.declared.Command.TheVariants.{WriteIssuerData}
use Rattle.manual.specs.declared.Outcome.{Outcome}
use Rattle.manual.specs.Request.{command, payload}
use Rattle.manual.specs.Row.{Matched, Question, Rule, rule, gate_of, asks_cvc, head_rules, form_rules, entry_rules, rules, passed, Verdict, stop}
use Rattle.manual.specs.Storage.{guarded, sent_counter, write_issuer_data}
use Rattle.manual.specs.Commands.{row}
use Rattle.manual.specs.Delay.{pace_by, pause_fields}
use Rattle.manual.specs.Settle.{State, holding, Call, sent_in, matched, judged_by, judged, Said, refused, done, said, pace_of, paced, paced_to}
use Rattle.manual.specs.Settle.{Settled, settled, settled_of, outcome, lent, card_off, powered_off}
use Rattle.story.specs.Sums.{tap, is_done, accepted, did}
use Rattle.story.specs.Buffers.{response, image, image_off}
use Rattle.history.specs.Demands.{AnyCard, is_refusal, settle_stop, Demand2, Event, tapped, switched_off, tap_by, image_by, left}
use Rattle.history.specs.Facts.{Refused, NoteUpTo, note_counter, protected}
use Rattle.history.specs.Waiting.{wait_of}
use Rattle.history.specs.Wrong.{old_rows}
use Rattle.history.specs.Wrong.{judged_by as rows_judge}
use Rattle.history.proofs.Choice.{clash, did_note, by_ins}
use Rattle.history.proofs.Taps.{accepts, Passed, by_outcome, by_tap, carried}
use Rattle.history.proofs.Conduct.{Climbs, same}
use Rattle.history.proofs.Storage.{above}
use Rattle.history.proofs.Commands.{conduct}
use Rattle.history.proofs.Cards.{after, xs}
use Rattle.history.proofs.Images.{model, said_at, card_at, looked, by_call, response_is, image_is, asks_none, by_off, shape_off, image_off_lem}
use Rattle.history.proofs.Theorems.{every, refused_card, stays_where}

-- A NOTE THAT IS TOO OLD, on a card: refused by checks 1 to 12, or to wait
too_old :
    (c : Card) (q : List ℕ) → guarded c.face ≡ true → command q ≡ WriteIssuerData → sent_counter (sent_in q) ≤ c.face.held.issuer.counter
    → Passed (row (command q)) (matched c.codes (sent_in q)) c.face (sent_in q) → ⊥
too_old c q g e l h =
    let m : Matched = matched c.codes (sent_in q) in
    omega (arith, above m c.face (sent_in q) (subst (λ j. Passed (row j) m c.face (sent_in q)) e h) g)

record Old (s : Said) (x : List Question) : Type 0 where
  number : s.number ≡ 0
  word : eqb s.word sw_need_pause ≡ false → is_refusal s.reason s.word ≡ true
  refusal : is_done s.word ≡ false
  answer : accepted s.response ≡ false
  asks : x ≡ []

old_card :
    (c : Card) (q d a : List ℕ) → guarded c.face ≡ true → command q ≡ WriteIssuerData → sent_counter (sent_in q) ≤ c.face.held.issuer.counter
    → Old (paced_to c q d a) (xs c q d)
old_card c q d a g e l =
    let no_way = too_old c q g e l in
    by_outcome (λ s _ _ x. Old s x) (matched c.codes (sent_in q)) c.face q d a
    (λ n w h. record { number = refl; word = λ _. h.word; refusal = h.not_done; answer = accepts [] w ∙ h.not_done; asks = refl })
    (λ t h.
    record { number = refl; word = λ e. clash refl e; refusal = refl; answer = accepts (written (pause_fields t)) sw_need_pause; asks = refl })
    (λ h _. absurd (no_way h.passed))
    (λ h _ _. absurd (no_way h.passed))
    (λ h _ _. absurd (no_way h.passed))

result_is : (s : Said) (c : Card) (out nxt : List ℕ) → s.number ≡ 0 → (lent s c out nxt).result ≡ outcome 0 s.reason s.word (length s.response)
unfolding lent
result_is s c out nxt e = rw e refl

old_model : (m : State) (i : Call) → protected m.image ≡ true → NoteUpTo (note_counter m.image) i → Refused model m i
unfolding settled settled_of accepted
old_model m i g n =
    let o = old_card (decode m.image) i.request i.draw i.answers g (by_ins WriteIssuerData refl i.request n.command) n.counter in
    let r = result_is (said_at m i) (card_at m i) i.buffers.out i.buffers.next o.number in
    record {
      asks = asks_none m i o.asks;
      answer = by_call (λ z. accepted (response z) ≡ false) m i (λ n k. rw k refl) (λ _ _ _. ap accepted (response_is m i) ∙ o.answer);
      word = λ e.
          subst (λ (z : Settled). eqb z.result.word sw_need_pause ≡ false → is_refusal z.result.reason z.result.word ≡ true) (sym (looked m i e))
          (subst (λ (z : Outcome). eqb z.word sw_need_pause ≡ false → is_refusal z.reason z.word ≡ true) (sym r) o.word);
      stays = stays_where m i (λ _. Unit {0}) (λ _. refused_card (decode m.image) i.request i.draw i.answers o.refusal) tt;
    }

-- A NOTE WHOSE COUNTER IS NOT ABOVE THE STORED ONE is refused, or has to wait, and the stored one stays
pub old_note : (f : AnyCard) → Demand2 f → (m : State) (i : Call) → protected m.image ≡ true → NoteUpTo (note_counter m.image) i → Refused f m i
old_note = every (λ f. (m : State) (i : Call) → protected m.image ≡ true → NoteUpTo (note_counter m.image) i → Refused f m i) old_model

-- A NOTE THAT IS RIGHT IN ALL BUT ITS COUNTER, so that the old practice card took it, gets 6985 by check 12, and nothing else, where it need not wait
last_fails :
    (rs : List Rule) (g : Verdict) {k : Command} (w : ℕ) → gate_of (rs ++ (rule 12 true w ∷ [])) g ≡ Ok k
    → gate_of (rs ++ (rule 12 false w ∷ [])) g ≡ stop 12 w
last_fails [] g w = λ e. refl
last_fails (r ∷ rs) g {k} w = go r.ok (last_fails rs g w)
  where
    go : {x y : Verdict} (b : Bool) → (x ≡ Ok k → y ≡ stop 12 w) → cond b x (stop r.check r.word) ≡ Ok k
        → cond b y (stop r.check r.word) ≡ stop 12 w
    go true f e = f e
    go false f e = let z : ◌≡◌ {A = ℕ} 0 1 = cc in absurd (omega arith)

module _ (c : Card) (q d a : List ℕ) where
  abbrev m : Matched
  m = matched c.codes (sent_in q)

  -- all rules but that of check 12
  abbrev others : List Rule
  others =
      let v = sent_in q in
      let r = write_issuer_data in
      let o = rule 10 (not (r.pin2 v) || m.pin2) sw_invalid_params
      ∷ rule 10 (not (asks_cvc r c.face) || holds CVC v c.face.front.fixed.cvc) sw_invalid_params ∷ rule 11 (r.fields c.face v) sw_invalid_params
      ∷ [] in
      head_rules q ++ (form_rules r c.face (well_formed (payload q)) v q ++ (entry_rules r m c.face v ++ o))

  late_verdict :
      guarded c.face ≡ true → command q ≡ WriteIssuerData → sent_counter (sent_in q) ≤ c.face.held.issuer.counter → {k : Command}
      → rows_judge old_rows c q ≡ Ok k → judged m c.face q ≡ stop 12 sw_invalid_status
  unfolding judged_by
  late_verdict g e l t =
      let n = c.face.held.issuer.counter in
      let x : ltb n (sent_counter (sent_in q)) ≡ false = le-ltb n (sent_counter (sent_in q)) l in
      let o : write_issuer_data.conditions m c.face (sent_in q) ≡ false = rw (g, x) refl in
      let y : gate_of (others ++ (rule 12 true sw_invalid_status ∷ [])) (passed q) ≡ Ok _ =
      ap (λ j. gate_of (rules (old_rows j) m c.face (well_formed (payload q)) (sent_in q) q) (passed q)) (sym e) ∙ t in
      ap (λ j. gate_of (rules (row j) m c.face (well_formed (payload q)) (sent_in q) q) (passed q)) e
      ∙ ap (λ b. gate_of (others ++ (rule 12 b sw_invalid_status ∷ [])) (passed q)) o
      ∙ last_fails others (passed q) sw_invalid_status y

  -- what the card says to what check 12 refuses, where it need not wait
  late_card :
      judged m c.face q ≡ stop 12 sw_invalid_status → wait_of c q ≡ 0 → paced_to c q d a ≡ refused 12 sw_invalid_status (with_pending no_pending c.face)
  unfolding paced pace_of pace_by said
  late_card z w = rw (z, w, z) refl

pub late_note :
    (f : AnyCard) → Demand2 f → (s : State) (i : Call) → protected s.image ≡ true → NoteUpTo (note_counter s.image) i → settle_stop s i ≡ 0
    → wait_of (decode s.image) i.request ≡ 0 → {k : Command} → rows_judge old_rows (decode s.image) i.request ≡ Ok k
    → (f.taps.settle s i).result ≡ outcome 0 12 sw_invalid_status 2
unfolding settled_of lent
late_note f h s i g n e w t =
    let c = decode s.image in
    let v = late_verdict c i.request i.draw i.answers g (by_ins WriteIssuerData refl i.request n.command) n.counter t in
    ap (λ y. y.result) (h.settles s i ∙ looked s i e)
    ∙ ap (λ z. (lent z (card_at s i) i.buffers.out i.buffers.next).result) (late_card c i.request i.draw i.answers v w)

-- THE STORED COUNTER of a protected card never falls
climbs_tap : (c : Card) (q d a : List ℕ) → guarded c.face ≡ true → Climbs c.face (after c q d a).face
unfolding done
climbs_tap c q d a g =
    by_tap (λ z _. Climbs c.face z.face) (matched c.codes (sent_in q)) c.face q d a
    (λ s z. rw z.face (same refl refl))
    (λ _ s z. rw z.face (same refl refl))
    (λ y _.
    let x = (conduct (command q) (matched c.codes (sent_in q)) c.face q d a y).climbs g in
    record { replay = x.replay; counter = x.counter })

climbs_call : (m : State) (i : Call) → protected m.image ≡ true → Climbs (decode m.image).face (decode (image_by model m i)).face
climbs_call m i g =
    by_call (λ z. Climbs (decode m.image).face (decode (image m.image z)).face) m i
    (λ n k. rw k (same refl refl))
    (λ o _ _. rw (image_is m i o) (climbs_tap (decode m.image) i.request i.draw i.answers g))

climbs_off : (m : State) (nxt : List ℕ) → Climbs (decode m.image).face (decode (image_off m.image (powered_off m nxt))).face
climbs_off m nxt =
    by_off (λ z. Climbs (decode m.image).face (decode (image_off m.image z)).face) m nxt
    (λ n k. rw k (same refl refl))
    (λ o.
    rw (image_off_lem m.image o nxt, decode_encode (card_off (decode m.image)) (shape_off m.image o)) (same refl refl))

still_protected : {f g : Face} → Climbs f g → guarded f ≡ true → guarded g ≡ true
still_protected x g = ap (λ n. eqb n 1) x.replay ∙ g

and_then : {f g h : Face} → Climbs f g → Climbs g h → Climbs f h
and_then x y = record { replay = y.replay ∙ x.replay; counter = omega (arith, x.counter, y.counter) }

climbs_all : (m : State) (es : List Event) → protected m.image ≡ true → Climbs (decode m.image).face (decode (left model m es).image).face
climbs_all m [] g = same refl refl
climbs_all m (tapped i ∷ es) g =
    let x = climbs_call m i g in
    and_then x (climbs_all (holding (image_by model m i)) es (still_protected x g))
climbs_all m (switched_off nxt ∷ es) g =
    let x = climbs_off m nxt in
    and_then x (climbs_all (holding (image_off m.image (powered_off m nxt))) es (still_protected x g))

-- A NOTE THAT WAS ACCEPTED: its counter is stored
stored_card :
    (c : Card) (q d a : List ℕ) → guarded c.face ≡ true → did WriteIssuerData (tap q (paced_to c q d a).response) ≡ true
    → (after c q d a).face.held.issuer.counter ≡ sent_counter (sent_in q)
unfolding done
stored_card c q d a g e =
    let y = did_note (tap q (paced_to c q d a).response) e in
    let b = carried (matched c.codes (sent_in q)) c.face q d a y.0 in
    ap (λ z. z.face.held.issuer.counter) b.is_done ∙ (ap (λ j. ((row j).next c.face (sent_in q) a).held.issuer.counter) y.1 ∙ rw g)

stored_model :
    (m : State) (i : Call) → protected m.image ≡ true → did WriteIssuerData (tap_by model m i) ≡ true
    → note_counter (image_by model m i) ≡ sent_counter (sent_in i.request)
unfolding accepted
stored_model m i g =
    by_call
    (λ z. did WriteIssuerData (tap i.request (response z)) ≡ true → note_counter (image m.image z) ≡ sent_counter (sent_in i.request)) m i
    (λ n k e. clash (rw k at e) refl)
    (λ o _ _ e.
    ap (λ c. c.face.held.issuer.counter) (image_is m i o)
    ∙ stored_card (decode m.image) i.request i.draw i.answers g (ap (λ r. did WriteIssuerData (tap i.request r)) (sym (response_is m i)) ∙ e))

-- FOR GOOD: after a note with counter n was accepted, and any calls since, every note with a counter up to n is refused
guarded_model :
    (m : State) (i : Call) (es : List Event) (j : Call) → protected m.image ≡ true → did WriteIssuerData (tap_by model m i) ≡ true
    → NoteUpTo (sent_counter (sent_in i.request)) j → Refused model (left model (holding (image_by model m i)) es) j
guarded_model m i es j g e n =
    let y : protected (image_by model m i) ≡ true = still_protected (climbs_call m i g) g in
    let z = climbs_all (holding (image_by model m i)) es y in
    let s = stored_model m i g e in
    old_model (left model (holding (image_by model m i)) es) j (still_protected z y)
    (record { command = n.command; counter = omega (arith, s, z.counter, n.counter) })

pub notes_guarded :
    (f : AnyCard) → Demand2 f → (m : State) (i : Call) (es : List Event) (j : Call) → protected m.image ≡ true → did WriteIssuerData (tap_by f m i) ≡ true
    → NoteUpTo (sent_counter (sent_in i.request)) j → Refused f (left f (holding (image_by f m i)) es) j
notes_guarded =
    every
    (λ f.
    (m : State) (i : Call) (es : List Event) (j : Call) → protected m.image ≡ true → did WriteIssuerData (tap_by f m i) ≡ true
    → NoteUpTo (sent_counter (sent_in i.request)) j → Refused f (left f (holding (image_by f m i)) es) j)
    guarded_model
