-- THE CONDUCT of FE, what is due to it, and what a card tells and takes before it. Assumes nothing.
use Prim.Native.Nat.{ℕ}
use native.Mathlib.Omega.{arith}
use mathlib.Core.Path.{◌≡◌, refl, ap, ◌∙◌}
use mathlib.Core.List.{List, [], ◌∷◌, ◌++◌}
use mathlib.Core.Bool.{Bool, true, false, cond, not}
use lib.ListN.{length, get_or}
use lib.Dec.{leb, eqb}
use borrow.Author.Tests.{eqb-true, not-true}
use Rattle.wire.specs.Wire.{be1, be2, be4}
use Rattle.fields.specs.Fields.{View, val, fld, written, among, first_of}
use Rattle.card.specs.declared.Codes.{Codes}
use Rattle.card.specs.declared.Flags.{Flags}
use Rattle.card.specs.declared.Face.{Face}
use Rattle.card.specs.Values.{activated, key_of}
use Rattle.kept.proofs.Tests.{valid}
use Rattle.kept.proofs.Kept.{keeps_activate}
use Rattle.kept.proofs.Next.{ok_flags_lem}
use Rattle.manual.specs.Words.{sw_process_completed}
use Rattle.manual.specs.Tags.{CID, Status, CurveID, ActivationSignature, ResetPIN1, ActivationSeed, WalletPublicKey, Remaining, SignedHashes}
use Rattle.manual.specs.declared.Command.{Command}
use Rattle.manual.specs.declared.Command.TheVariants.{ReadCard, CreateWallet, CheckWallet, SetPin, Sign, VerifyCard, ValidateCard, PurgeWallet}
use Rattle.manual.specs.declared.Command.TheVariants.{ReadUserData, WriteUserData, WriteIssuerData, ReadIssuerData, ActivateCard}
use Rattle.manual.specs.Request.{code}
use Rattle.manual.specs.Row.{Matched, Question, question, asked, shaped, yes}
use Rattle.manual.specs.Wallet.{is_loaded, is_active, curve_name, read_fields}
use Rattle.manual.specs.Activation.{activated_face, activated_codes, activate_card}
use Rattle.manual.specs.Commands.{row}
use Rattle.manual.specs.Settle.{sent_in, matched, done, Said}
use Rattle.story.specs.Sums.{Sheet, History, active}
use Rattle.history.specs.Demands.{flags_by, all_kinds, Asks, due, Waking, wake_questions, wake_response, while_asleep, is_wake_kind}
use Rattle.history.proofs.Choice.{clash}
use Rattle.history.proofs.Taps.{Passed, Carried}
use Rattle.history.proofs.Seen.{look, watch, Inv, awake}
use Rattle.history.proofs.Conduct.{Conduct, same}
use Rattle.history.proofs.Wallet.{read_reports}
use Rattle.history.proofs.Sign.{exact}

pub of_activate_card : (m : Matched) (f : Face) (q d a : List ℕ) → Passed activate_card m f (sent_in q) → Conduct ActivateCard f q d a
of_activate_card m f q d a p =
    record {
      reports = read_reports (activated_face f) true (is_loaded f) refl refl;
      asks = refl;
      keeps = λ sh x h r i t s.
          rw (t.create, t.pin, t.sign, t.purge, t.activate)
          (record {
            fixed = i.fixed;
            flags = ap (flags_by 1) i.flags;
            codes = ap (activated_codes (sent_in q)) i.codes;
            status = i.status;
            number = i.number;
            total = i.total;
            fits = i.fits;
            last = i.last;
            held = i.held;
            balance = i.balance;
            asleep = λ e. clash refl e;
            purged = i.purged;
          });
      stays = λ o g.
          let v = valid f o in
          let k = keeps_activate f.front.flags f.front.wallet v.flags v.state in
          ok_flags_lem f o (activated f.front.flags) k.0 k.1;
      alive = λ u e. clash u refl;
      climbs = λ g. same refl refl;
    }

-- THE ANSWER YES is one byte
pub said_yes : (f : Face) (v : View) (d a : List ℕ) → shaped (activate_card.questions f v d) a ≡ true → yes a ≡ true → a ≡ 1 ∷ []
unfolding shaped
said_yes f v d a e y = one a (exact 1 (λ b. leb b 1) a e).0 (eqb-true (get_or a 0 0) 1 y)
  where
    one : (l : List ℕ) → length l ≡ 1 → get_or l 0 0 ≡ 1 → l ≡ 1 ∷ []
    one [] n z = absurd (omega (arith, n))
    one (x ∷ []) n z = ap (λ k. k ∷ []) z
    one (x ∷ y ∷ l) n z = absurd (omega (arith, n))

-- WHAT RUNS ON A CARD THAT IS NOT ACTIVATED, and asks nothing but kind 6
pub record Sleeper (k : Command) : Type 0 where
  pub ins : while_asleep (code k) ≡ true
  pub kinds : (f : Face) (v : View) (d : List ℕ) → all_kinds is_wake_kind ((row k).questions f v d) ≡ true

pub sleeper : (k : Command) → (row k).needs.asleep ≡ true → Sleeper k
sleeper ReadCard e = record { ins = refl; kinds = λ f v d. refl }
sleeper CreateWallet e = clash e refl
sleeper CheckWallet e = clash e refl
sleeper SetPin e = clash e refl
sleeper Sign e = clash e refl
sleeper VerifyCard e = clash e refl
sleeper ValidateCard e = clash e refl
sleeper PurgeWallet e = clash e refl
sleeper ReadUserData e = clash e refl
sleeper WriteUserData e = clash e refl
sleeper WriteIssuerData e = clash e refl
sleeper ReadIssuerData e = record { ins = refl; kinds = λ f v d. refl }
sleeper ActivateCard e = record { ins = refl; kinds = λ f v d. refl }

-- WHAT READ_CARD TELLS of the seed, up to the activation
pub seed_among : (f : Face) (b c : Bool) → is_active f ≡ b → is_loaded f ≡ c → among ActivationSeed (fld CID f.front.fixed.cid ∷ read_fields f) ≡ not b
seed_among f false c e l = rw e refl
seed_among f true false e l = rw (e, l) refl
seed_among f true true e l = rw (e, l) refl

pub seed_first : (f : Face) → is_active f ≡ false → first_of ActivationSeed (fld CID f.front.fixed.cid ∷ read_fields f) ≡ f.front.fixed.seed
seed_first f e = rw e refl

-- WHAT IS DUE to an activation, and what it asks and answers, on a card that fits its history
pub record Woke (sh : Sheet) (h : History) (v : View) (a : List ℕ) (s : Said) (y : List Question) : Type 0 where
  pub is_due : Waking sh h v
  pub questions : asked y ≡ asked (wake_questions sh h v)
  pub answers : a ≡ 1 ∷ []
  pub bytes : s.response ≡ wake_response sh h

module _ (sh : Sheet) (f : Face) (x : Codes) (h : History) (i : Inv sh (watch f) x (look sh h)) where
  pub asleep_face : eqb (active sh h) 1 ≡ false → is_active f ≡ false
  asleep_face e = ap (λ (g : Flags). eqb g.active 1) i.flags ∙ e

  module _ (v : View) (d a : List ℕ) where
    waking : Passed activate_card (matched x v) f v → Waking sh h v
    waking p = record { asleep = awake i (not-true (is_active f) p.conditions); pin1 = rw (← i.codes) p.pin1; fields = p.fields }

    -- the issuer's word on CID, seed and Reset_PIN1
    same_wake : asked (activate_card.questions f v d) ≡ asked (wake_questions sh h v)
    same_wake =
        λ n.
        let z = i.fixed n in
        asked (question 6 (i.number n) z.curve (val ActivationSignature v ∷ z.cid ∷ z.seed ∷ val ResetPIN1 v ∷ []) ∷ [])

    -- the card was Empty, so READ_CARD tells no more of it
    wake_bytes : f.front.wallet.status ≡ 1 → (done activate_card (matched x v) f v d a).response ≡ wake_response sh h
    unfolding done
    wake_bytes s =
        let none : is_loaded f ≡ false = ap (λ n. eqb n 2) s in
        λ n.
        let z = i.fixed n in
        written
        (fld CID z.cid ∷ fld Status (be1 (s n)) ∷ fld CurveID (curve_name z.curve) ∷ fld SignedHashes (be4 (i.total n))
        ∷ cond (none n) (fld WalletPublicKey (key_of f.front.key) ∷ fld Remaining (be4 f.front.wallet.remaining) ∷ []) [])
        ++ be2 sw_process_completed

    pub wake_due : Passed activate_card (matched x v) f v → Asks (Waking sh h v) (wake_questions sh h v) (asked (activate_card.questions f v d))
    wake_due p = due (waking p) same_wake

    pub woke : {s : Said} {y : List Question} → Carried activate_card (matched x v) f v d a s y → Woke sh h v a s y
    woke b =
        let p = waking b.passed in
        record {
          is_due = p;
          questions = ap asked b.is_asked ∙ same_wake;
          answers = said_yes f v d a b.shape b.yes;
          bytes = ap (λ z. z.response) b.is_done ∙ wake_bytes (i.status ∙ i.asleep p.asleep);
        }
