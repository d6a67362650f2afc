-- The rows of the commands that prove something to a challenger, 01 "The commands": F9, F3, F4. Assumes nothing.
use Rattle.std.specs.Prelude.{ℕ, ◌+◌, List, [], ◌∷◌, Bool, true, false, cond, not, ◌&&◌, ◌||◌, length, ltb, eqb}
use Rattle.wire.specs.Wire.{part, be2, be4}
use Rattle.fields.specs.Fields.{View, has, val, Tagged, fld}
use Rattle.card.specs.declared.Face.{Face}
use Rattle.card.specs.Layout.{signature_size, top16}
use Rattle.card.specs.Values.{u16, checked_once, validated_once, key_of, with_counters}
use Rattle.manual.specs.Tags.{CID, PIN1, PIN2}
use Rattle.manual.specs.Tags.{CardSignature, PublicKeyChallenge, PublicKeySalt, Challenge, Salt, CardValidationCounter, Signature, CheckWalletCounter}
use Rattle.manual.specs.Row.{Question, question, Row, stays}

-- a challenge, a salt
abbrev pub salt_size : ℕ
salt_size = 16

-- draw bytes 0 to 15, and 16 to 31
abbrev pub salt : List ℕ → List ℕ
salt d = part d 0 salt_size

abbrev pub key_salt : List ℕ → List ℕ
key_salt d = part d salt_size salt_size

-- the first, and the second signature among the answers
abbrev pub signature1 : List ℕ → List ℕ
signature1 a = part a 0 signature_size

abbrev pub signature2 : List ℕ → List ℕ
signature2 a = part a signature_size signature_size

abbrev pub challenged : View → Bool
challenged v = eqb (length (val Challenge v)) salt_size

-- F9 CHECK_WALLET. Public_Key_Challenge (14) of 0 or 16 bytes if present
abbrev pub key_asked : View → Bool
key_asked v = has PublicKeyChallenge v

abbrev pub key_alone : View → Bool
key_alone v = eqb (length (val PublicKeyChallenge v)) 0

abbrev pub check_fields : View → Bool
check_fields v = challenged v && (not (key_asked v) || (key_alone v || eqb (length (val PublicKeyChallenge v)) salt_size))

-- kind 4 on key, that challenge, key salt, or on the key alone when tag 14 is empty
abbrev pub key_message : Face → View → List ℕ → List (List ℕ)
key_message f v d = key_of f.front.key ∷ cond (key_alone v) [] (val PublicKeyChallenge v ∷ key_salt d ∷ [])

abbrev pub check_questions : Face → View → List ℕ → List Question
check_questions f v d =
    question 3 f.front.wallet.number f.front.fixed.curve (val Challenge v ∷ salt d ∷ [])
    ∷ cond (key_asked v) (question 4 f.front.wallet.number f.front.fixed.curve (key_message f v d) ∷ []) []

-- with tag 14 also counter after rising, key salt unless tag 14 is empty, card signature
abbrev pub key_fields : Face → View → List ℕ → List ℕ → List Tagged
key_fields f v d a =
    fld CheckWalletCounter (be4 f.front.counters.checks)
    ∷ cond (key_alone v) (fld CardSignature (signature2 a) ∷ []) (fld PublicKeySalt (key_salt d) ∷ fld CardSignature (signature2 a) ∷ [])

abbrev pub checked_fields : Face → View → List ℕ → List ℕ → List Tagged
checked_fields f v d a = fld Salt (salt d) ∷ fld Signature (signature1 a) ∷ cond (key_asked v) (key_fields f v d a) []

abbrev pub check_wallet : Row
check_wallet =
    record {
      reads = PIN1 ∷ CID ∷ Challenge ∷ PublicKeyChallenge ∷ [];
      needs = record { cid = true; asleep = false; empty = false; loaded = true; purged = false; cvc = false };
      pin2 = λ v. false;
      fields = λ f v. check_fields v;
      conditions = λ m f v. true;
      questions = check_questions;
      confirmed = λ a. true;
      next = λ f v a. with_counters (checked_once f.front.counters) f;
      recode = stays;
      fields_out = checked_fields;
      more = λ m. 0;
    }

-- F3 VERIFY_CARD: kind 4 on Challenge, Salt
abbrev pub verify_card : Row
verify_card =
    record {
      reads = PIN1 ∷ CID ∷ Challenge ∷ [];
      needs = record { cid = true; asleep = false; empty = true; loaded = true; purged = true; cvc = false };
      pin2 = λ v. false;
      fields = λ f v. challenged v;
      conditions = λ m f v. true;
      questions = λ f v d. question 4 f.front.wallet.number f.front.fixed.curve (val Challenge v ∷ salt d ∷ []) ∷ [];
      confirmed = λ a. true;
      next = λ f v a. f;
      recode = stays;
      fields_out = λ f v d a. fld Salt (salt d) ∷ fld CardSignature (signature1 a) ∷ [];
      more = λ m. 0;
    }

-- F4 VALIDATE_CARD: counter below 65,535; it rises; kind 4 on its two bytes
abbrev pub validate_card : Row
validate_card =
    record {
      reads = PIN1 ∷ CID ∷ PIN2 ∷ [];
      needs = record { cid = true; asleep = false; empty = true; loaded = true; purged = false; cvc = false };
      pin2 = λ v. true;
      fields = λ f v. true;
      conditions = λ m f v. ltb f.front.counters.validations top16;
      questions = λ f v d. question 4 f.front.wallet.number f.front.fixed.curve (be2 (u16 (f.front.counters.validations + 1)) ∷ []) ∷ [];
      confirmed = λ a. true;
      next = λ f v a. with_counters (validated_once f.front.counters) f;
      recode = stays;
      fields_out = λ f v d a. fld CardValidationCounter (be2 f.front.counters.validations) ∷ fld CardSignature (signature1 a) ∷ [];
      more = λ m. 0;
    }
