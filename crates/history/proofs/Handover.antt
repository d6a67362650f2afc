-- THE LAST OWNER'S SIGNATURES, 02 Ask 2: a purge takes them, no card holds them without a wallet, and what a repeat tells was newly made for the wallet
-- that lives. Assumes nothing.
use Prim.Native.Nat.{ℕ, ◌≤◌, ◌<◌}
use native.Mathlib.Omega.{arith}
use mathlib.Core.Path.{◌≡◌, refl, sym, ap, ◌∙◌, subst}
use mathlib.Core.List.{List, [], ◌∷◌, ◌++◌, append_assoc, append-nil}
use mathlib.Core.Bool.{Bool, true, false}
use lib.ListN.{length}
use Rattle.wire.specs.Wire.{put, fit, room}
use Rattle.fields.specs.Fields.{val}
use Rattle.card.specs.declared.Card.{Card}
use Rattle.card.specs.Layout.{signature_size}
use Rattle.card.specs.Values.{no_last}
use Rattle.card.specs.Image.{decode}
use Rattle.card.specs.Valid.{is_card, is_loaded}
use Rattle.cards.proofs.Round.{shape_decode, is_card_length, is_card_face}
use Rattle.kept.proofs.Kept.{holds_none}
use Rattle.manual.specs.Words.{hash_size, questions_room}
use Rattle.manual.specs.Tags.{TransactionHash, Signature}
use Rattle.manual.specs.declared.Command.TheVariants.{CreateWallet, Sign, PurgeWallet}
use Rattle.manual.specs.Row.{Question, question, asked}
use Rattle.manual.specs.Wallet.{is_new, count}
use Rattle.manual.specs.Settle.{State, holding, Call, sent_in, paced_to}
use Rattle.story.specs.Sums.{Sheet, Tap, History, tap, told_in, accepted, did, signed_new, wallets, status, made}
use Rattle.story.specs.Buffers.{questions, response, image}
use Rattle.history.specs.Demands.{AnyCard, Demand2, given, Event, tapped, switched_off, tap_by, image_by, adds, Fresh, Demand3}
use Rattle.history.specs.Facts.{Forgotten, answers_of, nth, state_after, history_of, Made, Original}
use Rattle.history.proofs.Choice.{both_true, clash, one_ins, did_purge}
use Rattle.history.proofs.Events.{played_more, one_by_one}
use Rattle.history.proofs.Wallet.{not_two}
use Rattle.history.proofs.Cards.{after}
use Rattle.history.proofs.Images.{model, by_call, response_is, image_is}
use Rattle.history.proofs.Theorems.{every}
use Rattle.history.proofs.Corollaries.{after_done, signature_of_hash}

-- A PURGE takes key and signatures, and leaves the rest
purge_card : (c : Card) (q d a : List ℕ) → did PurgeWallet (tap q (paced_to c q d a).response) ≡ true → Forgotten c (after c q d a)
unfolding fit put room
purge_card c q d a e =
    rw (after_done c q d a PurgeWallet (did_purge (tap q (paced_to c q d a).response) e)).1
    (record {
      state = refl;
      key = refl;
      remaining = refl;
      last = refl;
      number = refl;
      signed_hashes = refl;
      counters = refl;
      held = refl;
      fixed = refl;
      flags = refl;
      codes = refl;
    })

purge_model : (m : State) (i : Call) → did PurgeWallet (tap_by model m i) ≡ true → Forgotten (decode m.image) (decode (image_by model m i))
unfolding accepted
purge_model m i =
    by_call (λ z. did PurgeWallet (tap i.request (response z)) ≡ true → Forgotten (decode m.image) (decode (image m.image z))) m i
    (λ n k e. clash (rw k at e) refl)
    (λ o _ _. rw (image_is m i o, response_is m i) (purge_card (decode m.image) i.request i.draw i.answers))

pub purge_takes :
    (f : AnyCard) → Demand2 f → (m : State) (i : Call) → did PurgeWallet (tap_by f m i) ≡ true → Forgotten (decode m.image) (decode (image_by f m i))
purge_takes =
    every (λ f. (m : State) (i : Call) → did PurgeWallet (tap_by f m i) ≡ true → Forgotten (decode m.image) (decode (image_by f m i))) purge_model

-- AN EMPTY OR PURGED CARD holds none
pub empty_holds_none : (m : List ℕ) → is_card m ≡ true → is_loaded (decode m).face.front.wallet ≡ false → (decode m).face.last ≡ no_last
empty_holds_none m e = holds_none (decode m).face (is_card_face m e) (shape_decode m (is_card_length m e)).face.last

-- A HISTORY WITH ONE TAP MORE: new signatures are those given; or, where a wallet lives that has made some, they are as before
made_now : (t : Tap) (h : History) → signed_new t ≡ true → (wallets (t ∷ h) ≡ wallets h) × (given (t ∷ h) ≡ val Signature (told_in t.response))
made_now t h e =
    let d = (both_true (did Sign t) (is_new (sent_in t.request)) e).0 in
    let c = one_ins t Sign CreateWallet refl d in
    (rw c, rw (c, one_ins t Sign PurgeWallet refl d, e))

record AsBefore (sh : Sheet) (t : Tap) (h : History) : Type 0 where
  state : status sh h ≡ 2
  some : 1 ≤ made h
  wallet : wallets (t ∷ h) ≡ wallets h
  given : given (t ∷ h) ≡ given h

as_before : (sh : Sheet) (t : Tap) (h : History) → status sh (t ∷ h) ≡ 2 → 1 ≤ made (t ∷ h) → signed_new t ≡ false → AsBefore sh t h
as_before sh t h s n e = go (did CreateWallet t) (did PurgeWallet t) refl refl
  where
    go : (a b : Bool) → did CreateWallet t ≡ a → did PurgeWallet t ≡ b → AsBefore sh t h
    go true b c p = absurd (let z : 1 ≤ 0 = rw c at n in omega arith)
    go false true c p = absurd (not_two sh.flags.reusable (rw (c, p) at s))
    go false false c p = record { state = rw (c, p) at s; some = rw (c, e) at n; wallet = rw c; given = rw (c, p, e) }

-- THE SOURCE of what is given after events es that followed `past`, of any card
module _ (f : AnyCard) (sh : Sheet) (m : List ℕ) (past : List Event) where
  abbrev S : List Event → State
  S es = state_after f m (past ++ es)

  abbrev H : List Event → History
  H es = history_of f m (past ++ es)

  abbrev Sourced : List Event → Type 0
  Sourced es = status sh (H es) ≡ 2 → 1 ≤ made (H es) → Made f m past es (given (H es))

  one_event_more : (es : List Event) (e : Event) → H (es ++ (e ∷ [])) ≡ adds f (S es) e ++ H es
  one_event_more es e = ap (history_of f m) (sym (append_assoc past es (e ∷ []))) ∙ played_more f (holding m) [] (past ++ es) e

  -- an event more that makes none, and no wallet
  made_before :
      (es : List Event) (e : Event) {x y : List ℕ} → Made f m past es x → wallets (H (es ++ (e ∷ []))) ≡ wallets (H es) → y ≡ x
      → Made f m past (es ++ (e ∷ [])) y
  made_before es e z w t =
      record {
        before = z.before;
        call = z.call;
        after = z.after ++ (e ∷ []);
        whole = ap (λ l. l ++ (e ∷ [])) z.whole ∙ append_assoc z.before (tapped z.call ∷ z.after) (e ∷ []);
        signed = z.signed;
        wallet = z.wallet ∙ sym w;
        told = t ∙ z.told;
      }

  sourced_more : (es : List Event) (e : Event) → Sourced es → Sourced (es ++ (e ∷ []))
  sourced_more es (tapped i) p s n = go (signed_new t) refl
    where
      t : Tap
      t = tap_by f (S es) i

      more : H (es ++ (tapped i ∷ [])) ≡ t ∷ H es
      more = one_event_more es (tapped i)

      go : (b : Bool) → signed_new t ≡ b → Made f m past (es ++ (tapped i ∷ [])) (given (H (es ++ (tapped i ∷ []))))
      go true e =
          let y = made_now t (H es) e in
          record {
            before = es;
            call = i;
            after = [];
            whole = refl;
            signed = e;
            wallet = sym (ap wallets more ∙ y.0);
            told = ap given more ∙ y.1;
          }
      go false e =
          let y = as_before sh t (H es) (ap (status sh) (sym more) ∙ s) (subst (λ h. 1 ≤ made h) more n) e in
          made_before es (tapped i) (p y.state y.some) (ap wallets more ∙ y.wallet) (ap given more ∙ y.given)
  sourced_more es (switched_off nxt) p s n =
      let more : H (es ++ (switched_off nxt ∷ [])) ≡ H es = one_event_more es (switched_off nxt) in
      made_before es (switched_off nxt) (p (ap (status sh) (sym more) ∙ s) (subst (λ h. 1 ≤ made h) more n)) (ap wallets more) (ap given more)

  sourced : (status sh (H []) ≡ 2 → ⊥) → (es : List Event) → Sourced es
  sourced none = one_by_one Sourced (λ s n. absurd (none s)) sourced_more

-- WHAT A REPEAT TELLS, where no wallet lived after the events `past`
module _ (f : AnyCard) (d : Demand3 f) (sh : Sheet) (m : List ℕ) (o : Fresh sh m) where
  original :
      (past es : List Event) (i : Call) → (status sh (history_of f m (past ++ [])) ≡ 2 → ⊥) → did Sign (tap_by f (state_after f m (past ++ es)) i) ≡ true
      → is_new (sent_in i.request) ≡ false
      → Original f sh m past es (val Signature (told_in (tap_by f (state_after f m (past ++ es)) i).response))
  original past es i none e n =
      let y = (d.next sh m o (past ++ es) i).repeats e n in
      let z = sourced f sh m past none es y.is_due.state y.some in
      record { told = y.told; made = z; rightful = (d.next sh m o (past ++ z.before) z.call).signs z.signed }

  -- EVERY REPEAT tells what a SIGN of this history newly made for the live wallet
  pub repeat_is_own :
      (es : List Event) (i : Call) → did Sign (tap_by f (state_after f m es) i) ≡ true → is_new (sent_in i.request) ≡ false
      → Original f sh m [] es (val Signature (told_in (tap_by f (state_after f m es) i).response))
  repeat_is_own es i = original [] es i (λ e. omega arith)

  -- AFTER A PURGE every repeat tells what a SIGN after that purge made: no signature of before is told again
  pub repeat_after_purge :
      (past : List Event) (p : Call) → did PurgeWallet (tap_by f (state_after f m past) p) ≡ true → (es : List Event) (i : Call)
      → did Sign (tap_by f (state_after f m ((past ++ (tapped p ∷ [])) ++ es)) i) ≡ true → is_new (sent_in i.request) ≡ false
      → Original f sh m (past ++ (tapped p ∷ [])) es (val Signature (told_in (tap_by f (state_after f m ((past ++ (tapped p ∷ [])) ++ es)) i).response))
  repeat_after_purge past p u es i =
      let t : Tap = tap_by f (state_after f m past) p in
      let c = one_ins t PurgeWallet CreateWallet refl u in
      let h = ap (history_of f m) (append-nil (past ++ (tapped p ∷ []))) ∙ played_more f (holding m) [] past (tapped p) in
      original (past ++ (tapped p ∷ [])) es i (λ s. not_two sh.flags.reusable (rw (c, u) at (ap (status sh) (sym h) ∙ s)))

  -- and signature k of them is the provider's answer to the question that names the live wallet's number and hash k of that SIGN
  pub repeated_hash :
      {past es : List Event} {signatures : List ℕ} (x : Original f sh m past es signatures) (provider : Question → List ℕ)
      → ((y : Question) → length (provider y) ≡ signature_size) → questions_room ≤ length x.made.call.buffers.page
      → ((these : List Question) → questions (f.taps.ask (state_after f m (past ++ x.made.before)) x.made.call) ≡ asked these
      → x.made.call.answers ≡ answers_of provider these)
      → (k : ℕ) → k < count (sent_in x.made.call.request)
      → nth signature_size k signatures
      ≡ provider
      (question 2 (wallets (history_of f m (past ++ es))) sh.fixed.curve (nth hash_size k (val TransactionHash (sent_in x.made.call.request)) ∷ []))
  repeated_hash {past} {es} {signatures} x provider s l a k u =
      let v = val TransactionHash (sent_in x.made.call.request) in
      ap (nth signature_size k) (x.told ∙ x.made.told)
      ∙ signature_of_hash f d sh m o (past ++ x.made.before) x.made.call provider s x.made.signed l a k u
      ∙ ap (λ n. provider (question 2 n sh.fixed.curve (nth hash_size k v ∷ []))) x.made.wallet
