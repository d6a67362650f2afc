-- WHAT A ROW READS: each of its columns is the same of two views that agree on the tags of its entry. One record a row. Assumes nothing.
use Prim.Native.Nat.{ℕ}
use mathlib.Core.Path.{◌≡◌, refl}
use mathlib.Core.List.{List}
use mathlib.Core.Bool.{true}
use Rattle.std.specs.Prelude.{Some, None}
use Rattle.wire.specs.Wire.{alike}
use Rattle.fields.specs.Fields.{View, has, val, holds, found, value_of, holds_at, Found}
use Rattle.card.specs.declared.Codes.{Codes}
use Rattle.card.specs.declared.Face.{Face}
use Rattle.manual.specs.declared.Command.{Command}
use Rattle.manual.specs.declared.Command.TheVariants.{ReadCard, CreateWallet, CheckWallet, SetPin, Sign, VerifyCard, ValidateCard, PurgeWallet}
use Rattle.manual.specs.declared.Command.TheVariants.{ReadUserData, WriteUserData, WriteIssuerData, ReadIssuerData, ActivateCard}
use Rattle.manual.specs.Tags.{CID, PIN1, PIN2, CVC, NewPIN1, NewPIN2}
use Rattle.manual.specs.Row.{Row}
use Rattle.manual.specs.Commands.{row}
use Rattle.manual.specs.Settle.{matched}
use Rattle.history.specs.Facts.{SameField, SameOn}
use Rattle.history.proofs.Choice.{clash}

-- what a code is held to, by absence and value
pub same_holds : (t : ℕ) (v w : View) → SameField t v w → (code : List ℕ) → holds t v code ≡ holds t w code
unfolding has val holds
same_holds t v w h code = go (v.at t) (w.at t) h.0 h.1
  where
    go : (f g : Found) → found f ≡ found g → value_of v.bytes f ≡ value_of w.bytes g → holds_at v.bytes f code ≡ holds_at w.bytes g code
    go (Some x) (Some y) e i = λ j. alike (i j) code
    go (Some x) None e i = clash refl e
    go None (Some y) e i = clash e refl
    go None None e i = refl

pub record Reads (r : Row) (v w : View) : Type 0 where
  pub pin1 : SameField PIN1 v w
  pub cid : r.needs.cid ≡ true → SameField CID v w
  pub asks_pin2 : r.pin2 v ≡ r.pin2 w
  pub pin2 : r.pin2 w ≡ true → SameField PIN2 v w
  pub cvc : r.needs.cvc ≡ true → SameField CVC v w
  pub fields : (f : Face) → r.fields f v ≡ r.fields f w
  pub conditions : (x : Codes) (f : Face) → r.conditions (matched x v) f v ≡ r.conditions (matched x w) f w
  pub questions : (f : Face) (d : List ℕ) → r.questions f v d ≡ r.questions f w d
  pub next : (f : Face) (a : List ℕ) → r.next f v a ≡ r.next f w a
  pub recode : (x : Codes) → r.recode v x ≡ r.recode w x
  pub fields_out : (f : Face) (d a : List ℕ) → r.fields_out f v d a ≡ r.fields_out f w d a
  pub more : (x : Codes) → r.more (matched x v) ≡ r.more (matched x w)

-- every command reads the tags of its entry alone
pub reads : (k : Command) (v w : View) → SameOn (row k).reads v w → Reads (row k) v w
reads ReadCard v w h =
    record {
      pin1 = h.0;
      cid = λ e. clash e refl;
      asks_pin2 = refl;
      pin2 = λ e. clash e refl;
      cvc = λ e. clash e refl;
      fields = λ f. refl;
      conditions = λ x f. refl;
      questions = λ f d. refl;
      next = λ f a. refl;
      recode = λ x. refl;
      fields_out = λ f d a. refl;
      more = λ x. refl;
    }
reads CreateWallet v w h =
    record {
      pin1 = h.0;
      cid = λ _. h.1.0;
      asks_pin2 = refl;
      pin2 = λ _. h.1.1.0;
      cvc = λ _. h.1.1.1.0;
      fields = λ f. refl;
      conditions = λ x f. refl;
      questions = λ f d. refl;
      next = λ f a. refl;
      recode = λ x. refl;
      fields_out = λ f d a. refl;
      more = λ x. refl;
    }
reads CheckWallet v w h =
    let challenge = h.1.1.0 in
    let key = h.1.1.1.0 in
    record {
      pin1 = h.0;
      cid = λ _. h.1.0;
      asks_pin2 = refl;
      pin2 = λ e. clash e refl;
      cvc = λ e. clash e refl;
      fields = λ f. rw (challenge.1, key.0, key.1);
      conditions = λ x f. refl;
      questions = λ f d. rw (challenge.1, key.0, key.1);
      next = λ f a. refl;
      recode = λ x. refl;
      fields_out = λ f d a. rw (key.0, key.1);
      more = λ x. refl;
    }
reads SetPin v w h =
    let new1 = h.1.1.1.1.0 in
    let new2 = h.1.1.1.1.1.0 in
    record {
      pin1 = h.0;
      cid = λ _. h.1.0;
      asks_pin2 = refl;
      pin2 = λ _. h.1.1.0;
      cvc = λ _. h.1.1.1.0;
      fields = λ f. rw (new1.1, new2.1);
      conditions = λ x f. rw (same_holds NewPIN1 v w new1 x.pin1, same_holds NewPIN2 v w new2 x.pin2);
      questions = λ f d. refl;
      next = λ f a. refl;
      recode = λ x. rw (new1.1, new2.1);
      fields_out = λ f d a. refl;
      more = λ x. rw (same_holds NewPIN1 v w new1 x.pin1, same_holds NewPIN2 v w new2 x.pin2);
    }
reads Sign v w h =
    let hashes = h.1.1.1.1.0 in
    let size = h.1.1.1.1.1.0 in
    record {
      pin1 = h.0;
      cid = λ _. h.1.0;
      asks_pin2 = refl;
      pin2 = λ _. h.1.1.0;
      cvc = λ _. h.1.1.1.0;
      fields = λ f. rw (hashes.0, hashes.1, size.0, size.1);
      conditions = λ x f. rw (hashes.0, hashes.1, size.0);
      questions = λ f d. rw (hashes.0, hashes.1, size.0);
      next = λ f a. rw (hashes.0, hashes.1, size.0);
      recode = λ x. refl;
      fields_out = λ f d a. refl;
      more = λ x. refl;
    }
reads VerifyCard v w h =
    let challenge = h.1.1.0 in
    record {
      pin1 = h.0;
      cid = λ _. h.1.0;
      asks_pin2 = refl;
      pin2 = λ e. clash e refl;
      cvc = λ e. clash e refl;
      fields = λ f. rw challenge.1;
      conditions = λ x f. refl;
      questions = λ f d. rw challenge.1;
      next = λ f a. refl;
      recode = λ x. refl;
      fields_out = λ f d a. refl;
      more = λ x. refl;
    }
reads ValidateCard v w h =
    record {
      pin1 = h.0;
      cid = λ _. h.1.0;
      asks_pin2 = refl;
      pin2 = λ _. h.1.1.0;
      cvc = λ e. clash e refl;
      fields = λ f. refl;
      conditions = λ x f. refl;
      questions = λ f d. refl;
      next = λ f a. refl;
      recode = λ x. refl;
      fields_out = λ f d a. refl;
      more = λ x. refl;
    }
reads PurgeWallet v w h =
    record {
      pin1 = h.0;
      cid = λ _. h.1.0;
      asks_pin2 = refl;
      pin2 = λ _. h.1.1.0;
      cvc = λ e. clash e refl;
      fields = λ f. refl;
      conditions = λ x f. refl;
      questions = λ f d. refl;
      next = λ f a. refl;
      recode = λ x. refl;
      fields_out = λ f d a. refl;
      more = λ x. refl;
    }
reads ReadUserData v w h =
    record {
      pin1 = h.0;
      cid = λ _. h.1.0;
      asks_pin2 = refl;
      pin2 = λ e. clash e refl;
      cvc = λ e. clash e refl;
      fields = λ f. refl;
      conditions = λ x f. refl;
      questions = λ f d. refl;
      next = λ f a. refl;
      recode = λ x. refl;
      fields_out = λ f d a. refl;
      more = λ x. refl;
    }
reads WriteUserData v w h =
    let block = h.1.1.1.0 in
    let secret = h.1.1.1.1.0 in
    let user = h.1.1.1.1.1.0 in
    let protected = h.1.1.1.1.1.1.0 in
    record {
      pin1 = h.0;
      cid = λ _. h.1.0;
      asks_pin2 = rw (secret.0, protected.0);
      pin2 = λ _. h.1.1.0;
      cvc = λ e. clash e refl;
      fields = λ f. rw (block.0, block.1, secret.0, secret.1, user.0, user.1, protected.0, protected.1);
      conditions = λ x f. refl;
      questions = λ f d. refl;
      next = λ f a. rw (block.0, block.1, secret.0, secret.1, user.0, user.1, protected.0, protected.1);
      recode = λ x. refl;
      fields_out = λ f d a. refl;
      more = λ x. refl;
    }
reads WriteIssuerData v w h =
    let mode = h.1.1.0 in
    let note = h.1.1.1.0 in
    let signature = h.1.1.1.1.0 in
    let counter = h.1.1.1.1.1.0 in
    record {
      pin1 = h.0;
      cid = λ _. h.1.0;
      asks_pin2 = refl;
      pin2 = λ e. clash e refl;
      cvc = λ e. clash e refl;
      fields = λ f. rw (mode.0, mode.1, note.1, signature.1, counter.1);
      conditions = λ x f. rw counter.1;
      questions = λ f d. rw (note.1, signature.1, counter.1);
      next = λ f a. rw (note.1, signature.1, counter.1);
      recode = λ x. refl;
      fields_out = λ f d a. refl;
      more = λ x. refl;
    }
reads ReadIssuerData v w h =
    let mode = h.1.1.0 in
    record {
      pin1 = h.0;
      cid = λ _. h.1.0;
      asks_pin2 = refl;
      pin2 = λ e. clash e refl;
      cvc = λ e. clash e refl;
      fields = λ f. rw (mode.0, mode.1);
      conditions = λ x f. refl;
      questions = λ f d. refl;
      next = λ f a. refl;
      recode = λ x. refl;
      fields_out = λ f d a. refl;
      more = λ x. refl;
    }
reads ActivateCard v w h =
    let reset = h.1.1.0 in
    let signature = h.1.1.1.0 in
    record {
      pin1 = h.0;
      cid = λ _. h.1.0;
      asks_pin2 = refl;
      pin2 = λ e. clash e refl;
      cvc = λ e. clash e refl;
      fields = λ f. rw (reset.1, signature.1);
      conditions = λ x f. refl;
      questions = λ f d. rw (reset.1, signature.1);
      next = λ f a. refl;
      recode = λ x. rw reset.1;
      fields_out = λ f d a. refl;
      more = λ x. refl;
    }
