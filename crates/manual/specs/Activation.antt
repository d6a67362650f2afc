-- The row of FE, 02 Ask 1 with sections 7 and 8.1 of the card's manual: a card that goes by post works once its issuer has confirmed it. Assumes nothing.
use Rattle.std.specs.Prelude.{ℕ, List, [], ◌∷◌, Bool, true, false, cond, not, ◌&&◌, ◌||◌, length, eqb}
use Rattle.wire.specs.Wire.{alike}
use Rattle.fields.specs.Fields.{View, val}
use Rattle.card.specs.declared.Face.{Face}
use Rattle.card.specs.declared.Codes.{Codes}
use Rattle.card.specs.Layout.{signature_size}
use Rattle.card.specs.Values.{activated, reset_pin1, with_flags}
use Rattle.manual.specs.Tags.{CID, PIN1, ActivationSignature, ResetPIN1}
use Rattle.manual.specs.Row.{question, yes, Row}
use Rattle.manual.specs.Wallet.{is_active, read_fields}

-- Reset_PIN1 (36): one byte, 0 or 1
abbrev pub resets : View → Bool
resets v = alike (val ResetPIN1 v) (1 ∷ [])

abbrev pub reset_said : View → Bool
reset_said v = alike (val ResetPIN1 v) (0 ∷ []) || resets v

-- and the confirmation, Activation_Signature (34): 64 bytes
abbrev pub activation_fields : View → Bool
activation_fields v = reset_said v && eqb (length (val ActivationSignature v)) signature_size

-- kind 6 on the confirmation and what it signs: CID, seed, Reset_PIN1
abbrev pub activation_message : Face → View → List (List ℕ)
activation_message f v = val ActivationSignature v ∷ f.front.fixed.cid ∷ f.front.fixed.seed ∷ val ResetPIN1 v ∷ []

-- activated, and nothing else of the face; PIN1 becomes its default if it is to be reset, whoever may change it by SET_PIN
abbrev pub activated_face : Face → Face
activated_face f = with_flags (activated f.front.flags) f

abbrev pub activated_codes : View → Codes → Codes
activated_codes v x = cond (resets v) (reset_pin1 x) x

-- FE ACTIVATE_CARD: in every Status, not activated yet; READ_CARD's response, of the card after
abbrev pub activate_card : Row
activate_card =
    record {
      reads = PIN1 ∷ CID ∷ ResetPIN1 ∷ ActivationSignature ∷ [];
      needs = record { cid = true; asleep = true; empty = true; loaded = true; purged = true; cvc = false };
      pin2 = λ v. false;
      fields = λ f v. activation_fields v;
      conditions = λ m f v. not (is_active f);
      questions = λ f v d. question 6 f.front.wallet.number f.front.fixed.curve (activation_message f v) ∷ [];
      confirmed = yes;
      next = λ f v a. activated_face f;
      recode = activated_codes;
      fields_out = λ f v d a. read_fields f;
      more = λ m. 0;
    }
