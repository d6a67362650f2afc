-- What demand 3 says of one more call, on a card that fits its history. Assumes nothing.
use Prim.Native.Nat.{ℕ, ◌+◌, ◌-◌, ◌≤◌, ◌<◌}
use native.Mathlib.Omega.{arith}
use mathlib.Core.Path.{◌≡◌, refl, sym, ap, ◌∙◌, subst}
use mathlib.Core.List.{List, [], ◌∷◌, ◌++◌, append_assoc}
use mathlib.Core.Bool.{Bool, true, false, cond, not}
use lib.ListN.{length}
use lib.Dec.{eqb}
use borrow.Author.Tests.{ltb-true, eqb-true}
use Rattle.wire.specs.Wire.{be1, be2, be4, joined}
use Rattle.fields.specs.Fields.{View, has, val, holds, tlv, each, written, among, first_of}
use Rattle.card.specs.declared.Face.{Face}
use Rattle.card.specs.declared.Card.{Card}
use Rattle.card.specs.Layout.{top16}
use Rattle.card.specs.Values.{u16, no_pending, with_pending, last_of}
use Rattle.manual.specs.Words.{sw_process_completed, questions_room}
use Rattle.manual.specs.Tags.{CID, CVC, Status, Challenge, ActivationSeed, TransactionHash}
use Rattle.manual.specs.Tags.{Signature, Remaining, SignedHashes}
use Rattle.manual.specs.declared.Command.{Command}
use Rattle.manual.specs.declared.Command.TheVariants.{ReadCard, CreateWallet, CheckWallet, Sign, ActivateCard}
use Rattle.manual.specs.Request.{code, command}
use Rattle.manual.specs.Row.{Matched, Question, question, asked, each_asked, shaped, Row, asks_cvc}
use Rattle.manual.specs.Wallet.{is_loaded, is_active, read_card, create_wallet, sign, is_new, count, hash_questions}
use Rattle.manual.specs.Checking.{check_wallet, key_asked, key_message, salt}
use Rattle.manual.specs.Commands.{row}
use Rattle.manual.specs.Settle.{Call, sent_in, matched, fields_of, done, paced_to}
use Rattle.facts.proofs.Facts.{Small, small_shape, facts, writes}
use Rattle.story.specs.Sums.{Sheet, History, tap, told_in, accepted, ins, did, signed_new, active, status, wallets, ever_purged, made, total, uses_wallet}
use Rattle.history.specs.Demands.{sign_fields, sign_response, Entitled, NewSign, sign_questions, Asks, nothing, due, all_kinds, Poses, is_card_kind, may_ask}
use Rattle.history.specs.Demands.{given, Waking, wake_questions, while_asleep, is_wake_kind, Rightful, Repeated, Woken, OneMore}
use Rattle.history.proofs.Choice.{both_true, or_false, or_other, clash, did_read, did_sign, did_activate}
use Rattle.history.proofs.Choice.{listed_ins, by_ins, may_ask_lem, may_ask_purged, uses_by}
use Rattle.history.proofs.Taps.{has_told, val_told, Passed, by_tap, Carried, carried, lists}
use Rattle.history.proofs.Seen.{look, watch, Inv, awake}
use Rattle.history.proofs.Conduct.{Reports, loaded, emptied}
use Rattle.history.proofs.Activation.{Sleeper, sleeper, seed_among, seed_first, asleep_face, wake_due, woke}
use Rattle.history.proofs.Commands.{conduct}
use Rattle.history.proofs.Sign.{needed, still, Signed, new_signed, no_question}
use Rattle.history.proofs.Cards.{after, xs, Fits, fits_tap}

-- SIGN's response, of the face after it
sign_bytes : Face → List ℕ
sign_bytes g =
    written (sign_fields g.front.fixed.cid (last_of g.last) g.front.wallet.remaining g.front.wallet.signed) ++ be2 sw_process_completed

sign_says : (m : Matched) (f : Face) (v : View) (d a : List ℕ) → (done sign m f v d a).response ≡ sign_bytes (sign.next f v a)
unfolding done sign_bytes
sign_says m f v d a = refl

alive_after : (m : Matched) (f : Face) (v : View) (a : List ℕ) → Passed sign m f v → (sign.next f v a).front.wallet.status ≡ 2
alive_after m f v a h = still (is_new v) f (count v) a ∙ (needed m f v h).alive

module _ (sh : Sheet) (c : Card) (h : History) (i : Fits sh c h) (t : Call) where
  abbrev q : List ℕ
  q = t.request

  abbrev v : View
  v = sent_in t.request

  abbrev d : List ℕ
  d = t.draw

  abbrev a : List ℕ
  a = t.answers

  abbrev k : Command
  k = command t.request

  abbrev m : Matched
  m = matched c.codes (sent_in t.request)

  abbrev f : Face
  f = c.face

  abbrev r : List ℕ
  r = (paced_to c t.request t.draw t.answers).response

  -- the face after, but for the wait
  abbrev g : Face
  g = (row k).next f v a

  small_after : Small g
  small_after = small_shape ((facts k).shape f v a i.shape.face)

  carried_by : accepted r ≡ true → Carried (row k) m f v d a (paced_to c q d a) (xs c q d)
  carried_by e = carried m f q d a e

  -- the response to a tap that was accepted, by its fields
  has_by : (tag : ℕ) → accepted r ≡ true → has tag (told_in r) ≡ among tag (fields_of (row k) g v d a)
  unfolding done
  has_by tag e =
      ap (λ z. has tag (told_in z.response)) (carried_by e).is_done
      ∙ has_told tag (sw_process_completed + (row k).more m) (fields_of (row k) g v d a) (writes (facts k) g v d a small_after)

  val_by : (tag : ℕ) → accepted r ≡ true → val tag (told_in r) ≡ first_of tag (fields_of (row k) g v d a)
  unfolding done
  val_by tag e =
      ap (λ z. val tag (told_in z.response)) (carried_by e).is_done
      ∙ val_told tag (sw_process_completed + (row k).more m) (fields_of (row k) g v d a) (writes (facts k) g v d a small_after)

  face_after : accepted r ≡ true → (after c q d a).face ≡ with_pending no_pending g
  unfolding done
  face_after e = ap (λ z. z.face) (carried_by e).is_done

  -- what is watched after a tap that was accepted
  inv_after : accepted r ≡ true → Inv sh (watch g) (after c q d a).codes (look sh (tap q r ∷ h))
  inv_after e = subst (λ z. Inv sh (watch z) (after c q d a).codes (look sh (tap q r ∷ h))) (face_after e) (fits_tap c q d a sh h i).inv

  reports_by : accepted r ≡ true → Reports (watch g) (fields_of (row k) g v d a)
  reports_by e = (conduct k m f q d a (carried_by e).passed).reports

  remains : accepted r ≡ true → g.front.wallet.status ≡ 2 → g.front.wallet.remaining ≡ sh.fixed.max - made (tap q r ∷ h)
  remains e z =
      let j = inv_after e in
      let b : g.front.wallet.remaining + made (tap q r ∷ h) ≡ sh.fixed.max = j.balance (sym j.status ∙ z) in
      omega arith

  remaining_by : accepted r ≡ true → has Remaining (told_in r) ≡ true → val Remaining (told_in r) ≡ be4 (sh.fixed.max - made (tap q r ∷ h))
  remaining_by e z =
      let y = (reports_by e).remaining (sym (has_by Remaining e) ∙ z) in
      val_by Remaining e ∙ (y.0 ∙ ap be4 (remains e y.1))

  state_by : accepted r ≡ true → has Status (told_in r) ≡ true → val Status (told_in r) ≡ be1 (status sh (tap q r ∷ h))
  state_by e z = val_by Status e ∙ ((reports_by e).state (sym (has_by Status e) ∙ z) ∙ ap be1 (inv_after e).status)

  signed_by : accepted r ≡ true → has SignedHashes (told_in r) ≡ true → val SignedHashes (told_in r) ≡ be4 (total (tap q r ∷ h))
  signed_by e z = val_by SignedHashes e ∙ ((reports_by e).signed (sym (has_by SignedHashes e) ∙ z) ∙ ap be4 (inv_after e).total)

  -- every response begins with CID
  cid_by : accepted r ≡ true → (rest : List ℕ) × (r ≡ tlv CID sh.fixed.cid ++ rest)
  unfolding done written each joined
  cid_by e =
      let x = tlv CID g.front.fixed.cid in
      let y = joined (each ((row k).fields_out g v d a)) in
      let w = be2 (sw_process_completed + (row k).more m) in (
        y ++ w,
        ap (λ z. z.response) (carried_by e).is_done ∙ append_assoc x y w ∙ ap (λ z. tlv CID z.cid ++ (y ++ w)) (inv_after e).fixed,
      )

  -- WHAT IS DUE to a request that passes checks 1 to 12, by the row of its command
  entitled :
      (j : Row) (wanted : ℕ) (secret : Bool) → j.needs.asleep ≡ false → (secret ≡ true → j.pin2 v ≡ true) → (secret ≡ true → j.needs.cvc ≡ true)
      → f.front.wallet.status ≡ wanted → Passed j m f v → Entitled sh h v wanted secret
  entitled j wanted secret awake two three s p =
      let z = i.inv in
      record {
        activated = sym (ap (λ g. g.active) z.flags) ∙ eqb-true f.front.flags.active 1 (or_false j.needs.asleep _ p.awake awake);
        state = sym z.status ∙ s;
        pin1 = rw (← z.codes) p.pin1;
        pin2 = λ e. rw (← z.codes) (or_false (not (j.pin2 v)) m.pin2 p.pin2 (ap not (two e)));
        cvc = λ e u.
            let w : asks_cvc j f ≡ true = rw (three e, ap (λ g. g.usecvc) z.flags ∙ u) refl in
            rw (← z.fixed) (or_false (not (asks_cvc j f)) (holds CVC v f.front.fixed.cvc) p.cvc (ap not w));
      }

  new_sign : Passed sign m f v → is_new v ≡ true → NewSign sh h v
  new_sign p n =
      let z = needed m f v p in
      let b : f.front.wallet.remaining + made h ≡ sh.fixed.max = i.inv.balance (sym i.inv.status ∙ z.alive) in
      record {
        entitled = entitled sign 2 true refl (λ _. refl) (λ _. refl) z.alive p;
        remains = omega (arith, z.some n);
        is_new = n;
        hashes = p.fields;
      }

  -- the wallet's number and the curve are those of the history and the sheet
  same_questions : hash_questions f.front.wallet.number f.front.fixed.curve (count v) (val TransactionHash v) ≡ sign_questions sh h v
  same_questions = λ n. hash_questions (i.inv.number n) (i.inv.fixed n).curve (count v) (val TransactionHash v)

  -- of a tap of this command: nothing, or what is due
  asks_by :
      (j : Command) (Due : Type 0) (these : List Question) → k ≡ j → (Passed (row j) m f v → Asks Due these (asked ((row j).questions f v d)))
      → Asks Due these (asked (xs c q d))
  unfolding asked each_asked joined
  asks_by j Due these e may =
      let by : Passed (row k) m f v → Asks Due these (asked ((row k).questions f v d)) =
      subst (λ l. Passed (row l) m f v → Asks Due these (asked ((row l).questions f v d))) (sym e) may in
      by_tap (λ _ y. Asks Due these (asked y)) m f q d a (λ s z. nothing refl) (λ p s z. by p) (λ p g. by p)

  sign_due : (b : Bool) → is_new v ≡ b → Passed sign m f v → Asks (NewSign sh h v) (sign_questions sh h v) (asked (sign.questions f v d))
  unfolding asked each_asked joined
  sign_due true n p = rw n (due (new_sign p n) (ap asked same_questions))
  sign_due false n p = rw n (nothing refl)

  make_due :
      Passed create_wallet m f v
      → Asks (Entitled sh h v 1 true) (question 1 (wallets h + 1) sh.fixed.curve [] ∷ []) (asked (create_wallet.questions f v d))
  make_due p =
      let n : f.front.wallet.number < top16 = ltb-true f.front.wallet.number top16 p.conditions in
      let e : u16 (f.front.wallet.number + 1) ≡ wallets h + 1 = omega (arith, i.inv.number) in
      due (entitled create_wallet 1 true refl (λ _. refl) (λ _. refl) (emptied create_wallet.needs _ p.allows refl refl) p)
      (λ l. asked (question 1 (e l) (i.inv.fixed l).curve [] ∷ []))

  -- with tag 14 also the key by the card key
  abbrev key_questions : List Question
  key_questions = cond (key_asked v) (question 4 f.front.wallet.number f.front.fixed.curve (key_message f v d) ∷ []) []

  check_due :
      Passed check_wallet m f v
      → Asks (Entitled sh h v 2 false) (question 3 (wallets h) sh.fixed.curve (val Challenge v ∷ salt d ∷ []) ∷ key_questions)
      (asked (check_wallet.questions f v d))
  check_due p =
      due
      (entitled check_wallet 2 false refl (λ e. clash e refl) (λ e. clash e refl) (loaded check_wallet.needs _ p.allows refl refl) p)
      (λ l. asked (question 3 (i.inv.number l) (i.inv.fixed l).curve (val Challenge v ∷ salt d ∷ []) ∷ key_questions))

  -- the kinds that are asked
  kinds_by : all_kinds (may_ask (ins q) (status sh h)) (xs c q d) ≡ true
  kinds_by =
      let may : Passed (row k) m f v → all_kinds (may_ask (ins q) (status sh h)) ((row k).questions f v d) ≡ true =
      λ p.
      (λ n. all_kinds (λ j. may_ask_lem q (status sh h) j n) ((row k).questions f v d))
      ∙ (λ n. all_kinds (may_ask (code k) (sym i.inv.status n)) ((row k).questions f v d))
      ∙ (conduct k m f q d a p).asks in
      by_tap (λ _ y. all_kinds (may_ask (ins q) (status sh h)) y ≡ true) m f q d a (λ s z. refl) (λ p s z. may p) (λ p g. may p)

  -- SIGN, new or again
  sign_bytes_lem : did Sign (tap q r) ≡ true → r ≡ sign_response sh (tap q r ∷ h) (last_of g.last)
  unfolding sign_bytes
  sign_bytes_lem e =
      let y = did_sign (tap q r) e in
      let s = y.1 in
      let j = inv_after y.0 in
      let z : g.front.wallet.status ≡ 2 =
      subst (λ j. Passed (row j) m f v → ((row j).next f v a).front.wallet.status ≡ 2) (sym s) (alive_after m f v a) (carried_by y.0).passed in
      let says : (done (row k) m f v d a).response ≡ sign_bytes g =
      subst (λ j. (done (row j) m f v d a).response ≡ sign_bytes ((row j).next f v a)) (sym s) (sign_says m f v d a) in
      let u = remains y.0 z in
      let w = j.total in
      ap (λ z. z.response) (carried_by y.0).is_done
      ∙ (says ∙ (λ n. written (sign_fields (j.fixed n).cid (last_of g.last) (u n) (w n)) ++ be2 sw_process_completed))

  told_last : did Sign (tap q r) ≡ true → val Signature (told_in r) ≡ last_of g.last
  told_last e =
      let y = did_sign (tap q r) e in
      val_by Signature y.0
      ∙ subst (λ j. first_of Signature (fields_of (row j) ((row j).next f v a) v d a) ≡ last_of ((row j).next f v a).last) (sym y.1) refl

  repeated : (x : List ℕ) → (xs c q d ≡ [] → x ≡ []) → did Sign (tap q r) ≡ true → is_new v ≡ false → Repeated sh h (tap q r) t x
  repeated x h0 e n =
      let y = did_sign (tap q r) e in
      let b = carried_by y.0 in
      let p : Passed sign m f v = subst (λ j. Passed (row j) m f v) y.1 b.passed in
      let z = needed m f v p in
      let same : g ≡ f = ap (λ j. (row j).next f v a) y.1 ∙ rw n in
      let u : last_of g.last ≡ given h = ap (λ j. last_of j.last) same ∙ i.inv.last in
      record {
        is_due = entitled sign 2 true refl (λ _. refl) (λ _. refl) z.alive p;
        some = (i.inv.held (z.held n)).1;
        questions = h0 (b.is_asked ∙ subst (λ j. (row j).questions f v d ≡ []) (sym y.1) (no_question f v d n));
        told = told_last e ∙ u;
        bytes = sign_bytes_lem e ∙ ap (sign_response sh (tap q r ∷ h)) u;
      }

  rightful :
      (x : List ℕ) → (questions_room ≤ length t.buffers.page → x ≡ asked (xs c q d)) → signed_new (tap q r) ≡ true → Rightful sh h (tap q r) t x
  rightful x hx e =
      let w = both_true (did Sign (tap q r)) (is_new v) e in
      let y = did_sign (tap q r) w.0 in
      let b = carried_by y.0 in
      let s =
      subst
      (λ j. Passed (row j) m f v → shaped ((row j).questions f v d) a ≡ true → Signed f v a ((row j).questions f v d) ((row j).next f v a))
      (sym y.1) (λ o. new_signed m f v d a o w.1) b.passed b.shape in
      record {
        is_due = new_sign (subst (λ j. Passed (row j) m f v) y.1 b.passed) w.1;
        questions = λ u. hx u ∙ ap asked (b.is_asked ∙ (s.questions ∙ same_questions));
        size = s.size;
        answers = told_last w.0 ∙ s.last;
        bytes = sign_bytes_lem w.0 ∙ ap (sign_response sh (tap q r ∷ h)) s.last;
      }

  woken :
      (x : List ℕ) → (questions_room ≤ length t.buffers.page → x ≡ asked (xs c q d)) → did ActivateCard (tap q r) ≡ true → Woken sh h (tap q r) t x
  woken x hx e =
      let y = did_activate (tap q r) e in
      let w = woke sh f c.codes h i.inv v d a (subst (λ j. Carried (row j) m f v d a (paced_to c q d a) (xs c q d)) y.1 (carried_by y.0)) in
      record { is_due = w.is_due; questions = λ u. hx u ∙ w.questions; answers = w.answers; bytes = w.bytes }

  -- what READ_CARD tells of the seed
  seed_by :
      did ReadCard (tap q r) ≡ true
      → (has ActivationSeed (told_in r) ≡ not (eqb (active sh h) 1)) × (eqb (active sh h) 1 ≡ false → val ActivationSeed (told_in r) ≡ sh.fixed.seed)
  seed_by e =
      let y = did_read (tap q r) e in
      let tells : (n : ℕ) → first_of n (fields_of (row k) g v d a) ≡ first_of n (fields_of read_card f v d a) =
      λ n. ap (λ j. first_of n (fields_of (row j) ((row j).next f v a) v d a)) y.1 in (
        has_by ActivationSeed y.0
            ∙ ap (λ j. among ActivationSeed (fields_of (row j) ((row j).next f v a) v d a)) y.1
            ∙ seed_among f (is_active f) (is_loaded f) refl refl
            ∙ ap not (sym (awake i.inv refl)),
        λ o. val_by ActivationSeed y.0 ∙ tells ActivationSeed ∙ seed_first f (asleep_face sh f c.codes h i.inv o) ∙ ap (λ x. x.seed) i.inv.fixed,
      )

  -- a card that is not activated: its three commands, and its one kind
  sleeps_by : eqb (active sh h) 1 ≡ false → (accepted r ≡ true → while_asleep (ins q) ≡ true) × (all_kinds is_wake_kind (xs c q d) ≡ true)
  sleeps_by e =
      let o = asleep_face sh f c.codes h i.inv e in
      let by : Passed (row k) m f v → Sleeper k = λ p. sleeper k (or_other (row k).needs.asleep (is_active f) p.awake o) in
      let may : Passed (row k) m f v → all_kinds is_wake_kind ((row k).questions f v d) ≡ true = λ p. (by p).kinds f v d in (
        λ u. ap while_asleep (listed_ins q (lists m f q d a u)) ∙ (by (carried_by u).passed).ins,
        by_tap (λ _ y. all_kinds is_wake_kind y ≡ true) m f q d a (λ s z. refl) (λ p s z. may p) (λ p g. may p),
      )

  ended_by : sh.flags.reusable ≡ 0 → ever_purged h ≡ true → uses_wallet (ins q) ≡ true → (accepted r ≡ false) × (xs c q d ≡ [])
  ended_by n e u =
      let no_way : Passed (row k) m f v → ⊥ = λ p. (conduct k m f q d a p).alive (uses_by q u) (i.inv.status ∙ i.inv.purged n e) in
      by_tap (λ z y. (accepted z.response ≡ false) × (y ≡ [])) m f q d a
      (λ s z. (z.answer, refl))
      (λ p z k. absurd (no_way p))
      (λ p k. absurd (no_way p))

  -- WHAT IS ASKED, whatever the response: x is the questions, or none
  module _ (x : List ℕ) (some : (P : List ℕ → Type 0) → P [] → P (asked (xs c q d)) → P x) where
    sign_asks : ins q ≡ code Sign → Asks (NewSign sh h v) (sign_questions sh h v) x
    sign_asks e = some (Asks _ _) (nothing refl) (asks_by Sign _ _ (by_ins Sign refl q e) (sign_due (is_new v) refl))

    make_asks : ins q ≡ code CreateWallet → Asks (Entitled sh h v 1 true) (question 1 (wallets h + 1) sh.fixed.curve [] ∷ []) x
    make_asks e = some (Asks _ _) (nothing refl) (asks_by CreateWallet _ _ (by_ins CreateWallet refl q e) make_due)

    check_asks :
        ins q ≡ code CheckWallet
        → (more : List Question)
        × Asks (Entitled sh h v 2 false) (question 3 (wallets h) sh.fixed.curve (val Challenge v ∷ salt d ∷ []) ∷ more) x
    check_asks e = (key_questions, some (Asks _ _) (nothing refl) (asks_by CheckWallet _ _ (by_ins CheckWallet refl q e) check_due))

    wake_asks : ins q ≡ code ActivateCard → Asks (Waking sh h v) (wake_questions sh h v) x
    wake_asks e = some (Asks _ _) (nothing refl) (asks_by ActivateCard _ _ (by_ins ActivateCard refl q e) (wake_due sh f c.codes h i.inv v d a))

    posing : (p : ℕ → Bool) → all_kinds p (xs c q d) ≡ true → Poses p x
    unfolding asked each_asked joined
    posing p e =
        some (Poses p) (record { these = []; bytes = refl; kinds = refl }) (record { these = xs c q d; bytes = refl; kinds = e })

    sparing : sh.flags.reusable ≡ 0 → ever_purged h ≡ true → Poses is_card_kind x
    sparing n e =
        let s : status sh h ≡ 3 = i.inv.purged n e in
        posing is_card_kind
        ((λ l. all_kinds (λ j. sym (may_ask_purged (ins q) j) l) (xs c q d)) ∙ (λ l. all_kinds (may_ask (ins q) (sym s l)) (xs c q d)) ∙ kinds_by)

    pub one_more :
        (questions_room ≤ length t.buffers.page → x ≡ asked (xs c q d)) → (xs c q d ≡ [] → x ≡ []) → OneMore sh h (tap q r) t x
    one_more hx h0 =
        record {
          sign_asks = sign_asks;
          make_asks = make_asks;
          check_asks = check_asks;
          wake_asks = wake_asks;
          poses = posing _ kinds_by;
          spared = sparing;
          signs = rightful x hx;
          repeats = repeated x h0;
          wakes = woken x hx;
          sleeps = λ e. let y = sleeps_by e in (y.0, posing is_wake_kind y.1);
          rows = lists m f q d a;
          pin1 = λ e _. rw (← i.inv.codes) (carried_by e).passed.pin1;
          cid = λ e _. cid_by e;
          state = state_by;
          remaining = remaining_by;
          signed_hashes = signed_by;
          seed = seed_by;
          ended = λ n e u. let y = ended_by n e u in (y.0, h0 y.1);
        }

    -- where settle said one of numbers 1 to 3
    pub no_more : (xs c q d ≡ [] → x ≡ []) → OneMore sh h (tap q []) t x
    unfolding accepted
    no_more h0 =
        record {
          sign_asks = sign_asks;
          make_asks = make_asks;
          check_asks = check_asks;
          wake_asks = wake_asks;
          poses = posing _ kinds_by;
          spared = sparing;
          signs = λ e. clash e refl;
          repeats = λ e n. clash e refl;
          wakes = λ e. clash e refl;
          sleeps = λ e. (λ u. clash u refl, posing is_wake_kind (sleeps_by e).1);
          rows = λ e. clash e refl;
          pin1 = λ e. clash e refl;
          cid = λ e. clash e refl;
          state = λ e. clash e refl;
          remaining = λ e. clash e refl;
          signed_hashes = λ e. clash e refl;
          seed = λ e. clash e refl;
          ended = λ n e u. (refl, h0 (ended_by n e u).1);
        }
