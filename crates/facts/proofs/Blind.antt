-- NO COMMAND LOOKS AT THE WAIT, 02 Ask 7: of a face with another wait, each row says what it says of the face, and leaves the next face with that wait. So
-- do the checks, the questions and what is said where nobody has to wait. Assumes nothing.
use Prim.Native.Nat.{ℕ}
use mathlib.Core.Path.{◌≡◌, refl, ap, ◌∙◌}
use mathlib.Core.List.{List}
use mathlib.Core.Bool.{Bool, true, false, cond}
use Rattle.std.specs.Prelude.{Ok, Err}
use Rattle.fields.specs.Fields.{View}
use Rattle.card.specs.declared.Pending.{Pending}
use Rattle.card.specs.declared.Face.{Face}
use Rattle.card.specs.Values.{with_pending}
use Rattle.manual.specs.Words.{sw_error_processing_command}
use Rattle.manual.specs.declared.Command.{Command}
use Rattle.manual.specs.declared.Command.TheVariants.{ReadCard, CreateWallet, CheckWallet, SetPin, Sign, VerifyCard, ValidateCard, PurgeWallet}
use Rattle.manual.specs.declared.Command.TheVariants.{ReadUserData, WriteUserData, WriteIssuerData, ReadIssuerData, ActivateCard}
use Rattle.manual.specs.Request.{command}
use Rattle.manual.specs.Row.{Row, Matched, shaped, Verdict}
use Rattle.manual.specs.Wallet.{is_new, count, signed_face}
use Rattle.manual.specs.Commands.{row}
use Rattle.manual.specs.Settle.{Said, sent_in, judged_by, judged, questions_of, done, refused, silent, answered, said_by, said}

pub record Blind (r : Row) : Type 0 where
  pub fields : (p : Pending) (f : Face) (v : View) → r.fields (with_pending p f) v ≡ r.fields f v
  pub conditions : (p : Pending) (m : Matched) (f : Face) (v : View) → r.conditions m (with_pending p f) v ≡ r.conditions m f v
  pub questions : (p : Pending) (f : Face) (v : View) (d : List ℕ) → r.questions (with_pending p f) v d ≡ r.questions f v d
  pub next : (p : Pending) (f : Face) (v : View) (a : List ℕ) → r.next (with_pending p f) v a ≡ with_pending p (r.next f v a)
  pub fields_out : (p : Pending) (f : Face) (v : View) (d a : List ℕ) → r.fields_out (with_pending p f) v d a ≡ r.fields_out f v d a

sign_next : (b : Bool) (p : Pending) (f : Face) (v : View) (a : List ℕ)
    → cond b (signed_face (with_pending p f) (count v) a) (with_pending p f) ≡ with_pending p (cond b (signed_face f (count v) a) f)
sign_next true p f v a = refl
sign_next false p f v a = refl

pub blind : (k : Command) → Blind (row k)
blind ReadCard =
    record { fields = λ p f v. refl; conditions = λ p m f v. refl; questions = λ p f v d. refl; next = λ p f v a. refl; fields_out = λ p f v d a. refl }
blind CreateWallet =
    record { fields = λ p f v. refl; conditions = λ p m f v. refl; questions = λ p f v d. refl; next = λ p f v a. refl; fields_out = λ p f v d a. refl }
blind CheckWallet =
    record { fields = λ p f v. refl; conditions = λ p m f v. refl; questions = λ p f v d. refl; next = λ p f v a. refl; fields_out = λ p f v d a. refl }
blind SetPin =
    record { fields = λ p f v. refl; conditions = λ p m f v. refl; questions = λ p f v d. refl; next = λ p f v a. refl; fields_out = λ p f v d a. refl }
blind Sign =
    record {
      fields = λ p f v. refl;
      conditions = λ p m f v. refl;
      questions = λ p f v d. refl;
      next = λ p f v a. sign_next (is_new v) p f v a;
      fields_out = λ p f v d a. refl;
    }
blind VerifyCard =
    record { fields = λ p f v. refl; conditions = λ p m f v. refl; questions = λ p f v d. refl; next = λ p f v a. refl; fields_out = λ p f v d a. refl }
blind ValidateCard =
    record { fields = λ p f v. refl; conditions = λ p m f v. refl; questions = λ p f v d. refl; next = λ p f v a. refl; fields_out = λ p f v d a. refl }
blind PurgeWallet =
    record { fields = λ p f v. refl; conditions = λ p m f v. refl; questions = λ p f v d. refl; next = λ p f v a. refl; fields_out = λ p f v d a. refl }
blind ReadUserData =
    record { fields = λ p f v. refl; conditions = λ p m f v. refl; questions = λ p f v d. refl; next = λ p f v a. refl; fields_out = λ p f v d a. refl }
blind WriteUserData =
    record { fields = λ p f v. refl; conditions = λ p m f v. refl; questions = λ p f v d. refl; next = λ p f v a. refl; fields_out = λ p f v d a. refl }
blind WriteIssuerData =
    record { fields = λ p f v. refl; conditions = λ p m f v. refl; questions = λ p f v d. refl; next = λ p f v a. refl; fields_out = λ p f v d a. refl }
blind ReadIssuerData =
    record { fields = λ p f v. refl; conditions = λ p m f v. refl; questions = λ p f v d. refl; next = λ p f v a. refl; fields_out = λ p f v d a. refl }
blind ActivateCard =
    record { fields = λ p f v. refl; conditions = λ p m f v. refl; questions = λ p f v d. refl; next = λ p f v a. refl; fields_out = λ p f v d a. refl }

-- WHAT IS SAID, with this wait in its face
abbrev pub bearing : Pending → Said → Said
bearing p s =
    record { number = s.number; reason = s.reason; word = s.word; response = s.response; face = with_pending p s.face; executed = s.executed }

module _ {r : Row} (x : Blind r) (p : Pending) (m : Matched) (f : Face) (v : View) (d a : List ℕ) where
  done_blind : done r m (with_pending p f) v d a ≡ bearing p (done r m f v d a)
  unfolding done
  done_blind = rw (x.next p f v a, x.fields_out p (r.next f v a) v d a)

  answered_blind : answered r m (with_pending p f) v d a ≡ bearing p (answered r m f v d a)
  unfolding answered
  answered_blind = rw (x.questions p f v d) (go (shaped (r.questions f v d) a) (r.confirmed a))
    where
      go : (b c : Bool)
          → cond b (cond c (done r m (with_pending p f) v d a) (refused 13 sw_error_processing_command (with_pending p f))) (silent 4 (with_pending p f))
          ≡ bearing p (cond b (cond c (done r m f v d a) (refused 13 sw_error_processing_command f)) (silent 4 f))
      go true true = done_blind
      go true false = refl
      go false c = refl

module _ (p : Pending) (m : Matched) (f : Face) (q : List ℕ) where
  pub judged_blind : judged m (with_pending p f) q ≡ judged m f q
  unfolding judged_by
  judged_blind = let x = blind (command q) in rw (x.fields p f (sent_in q), x.conditions p m f (sent_in q))

  pub questions_blind : (d : List ℕ) → questions_of (judged m (with_pending p f) q) (with_pending p f) q d ≡ questions_of (judged m f q) f q d
  questions_blind d = ap (λ (g : Verdict). questions_of g (with_pending p f) q d) judged_blind ∙ go (judged m f q)
    where
      go : (g : Verdict) → questions_of g (with_pending p f) q d ≡ questions_of g f q d
      go (Ok k) = (blind k).questions p f (sent_in q) d
      go (Err e) = refl

  pub said_blind : (d a : List ℕ) → said m (with_pending p f) q d a ≡ bearing p (said m f q d a)
  unfolding said
  said_blind d a = ap (λ (g : Verdict). said_by g m (with_pending p f) q d a) judged_blind ∙ go (judged m f q)
    where
      go : (g : Verdict) → said_by g m (with_pending p f) q d a ≡ bearing p (said_by g m f q d a)
      go (Ok k) = answered_blind (blind k) p m f (sent_in q) d a
      go (Err e) = refl

-- and none of them changes it
pub said_pending : (m : Matched) (f : Face) (q d a : List ℕ) → (said m f q d a).face.pending ≡ f.pending
said_pending m f q d a = ap (λ (s : Said). s.face.pending) (said_blind f.pending m f q d a)
