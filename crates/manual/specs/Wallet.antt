-- The rows of the commands on the wallet and the codes, 01 "The commands": F2, F8, FA, FB, FC. Assumes nothing.
use Rattle.std.specs.Prelude.{ℕ, zero, suc, ◌+◌, ◌/◌, ◌%◌, List, [], ◌∷◌, Bool, true, false, cond, ◌&&◌, ◌||◌, length, take, drop, ltb, leb, eqb}
use Rattle.wire.specs.Wire.{be1, be4, pad, alike}
use Rattle.fields.specs.Fields.{View, has, val, Tagged, fld}
use Rattle.card.specs.declared.Face.{Face}
use Rattle.card.specs.declared.Codes.{Codes}
use Rattle.card.specs.Layout.{pin_size, most_hashes, top16, top32}
use Rattle.card.specs.Values.{u16, created, spent, purged, risen, held_key, held_last, key_of, last_of, with_wallet, with_key, with_counters, with_last}
use Rattle.manual.specs.Words.{hash_size}
use Rattle.manual.specs.Tags.{CID, Status, CurveID, PIN1, PIN2, NewPIN1, NewPIN2, CVC, IsActivated, ActivationSeed}
use Rattle.manual.specs.Tags.{TransactionHash, TransactionHashSize, WalletPublicKey, Signature, Remaining, SignedHashes}
use Rattle.manual.specs.declared.Signing.{Signing}
use Rattle.manual.specs.declared.Signing.TheVariants.{New, Again}
use Rattle.manual.specs.Row.{Question, question, Row, stays}

abbrev pub status_field : Face → Tagged
status_field f = fld Status (be1 f.front.wallet.status)

abbrev pub is_loaded : Face → Bool
is_loaded f = eqb f.front.wallet.status 2

abbrev pub is_active : Face → Bool
is_active f = eqb f.front.flags.active 1

-- the curve's name without a zero
unfoldable pub curve_name : ℕ → List ℕ
curve_name n = cond (eqb n 1) (0x73 ∷ 0x65 ∷ 0x63 ∷ 0x70 ∷ 0x32 ∷ 0x35 ∷ 0x36 ∷ 0x6B ∷ 0x31 ∷ []) (0x65 ∷ 0x64 ∷ 0x32 ∷ 0x35 ∷ 0x35 ∷ 0x31 ∷ 0x39 ∷ [])

-- F2 READ_CARD: Status; not activated: Is_Activated and the seed (02 Ask 1), and no more; else Curve_ID, Signed_Hashes, and when Loaded the key and
-- Remaining
abbrev pub wallet_fields : Face → List Tagged
wallet_fields f = cond (is_loaded f) (fld WalletPublicKey (key_of f.front.key) ∷ fld Remaining (be4 f.front.wallet.remaining) ∷ []) []

abbrev pub active_fields : Face → List Tagged
active_fields f = fld CurveID (curve_name f.front.fixed.curve) ∷ fld SignedHashes (be4 f.front.wallet.signed) ∷ wallet_fields f

abbrev pub asleep_fields : Face → List Tagged
asleep_fields f = fld IsActivated (be1 0) ∷ fld ActivationSeed f.front.fixed.seed ∷ []

abbrev pub read_fields : Face → List Tagged
read_fields f = status_field f ∷ cond (is_active f) (active_fields f) (asleep_fields f)

abbrev pub read_card : Row
read_card =
    record {
      reads = PIN1 ∷ [];
      needs = record { cid = false; asleep = true; empty = true; loaded = true; purged = true; cvc = false };
      pin2 = λ v. false;
      fields = λ f v. true;
      conditions = λ m f v. true;
      questions = λ f v d. [];
      confirmed = λ a. true;
      next = λ f v a. f;
      recode = stays;
      fields_out = λ f v d a. read_fields f;
      more = λ m. 0;
    }

-- F8 CREATE_WALLET: wallet number below 65,535; kind 1 names the number about to begin
abbrev pub created_face : Face → List ℕ → Face
created_face f a = with_key (held_key a) (with_wallet (created f.front.fixed.max f.front.wallet) f)

abbrev pub create_wallet : Row
create_wallet =
    record {
      reads = PIN1 ∷ CID ∷ PIN2 ∷ CVC ∷ [];
      needs = record { cid = true; asleep = false; empty = true; loaded = false; purged = false; cvc = true };
      pin2 = λ v. true;
      fields = λ f v. true;
      conditions = λ m f v. ltb f.front.wallet.number top16;
      questions = λ f v d. question 1 (u16 (f.front.wallet.number + 1)) f.front.fixed.curve [] ∷ [];
      confirmed = λ a. true;
      next = λ f v a. created_face f a;
      recode = stays;
      fields_out = λ f v d a. status_field f ∷ fld WalletPublicKey (key_of f.front.key) ∷ [];
      more = λ m. 0;
    }

-- FA SET_PIN: New_PIN1 and New_PIN2, 32 bytes each; one that differs from the stored code may change; both are stored
abbrev pub pin_fields : View → Bool
pin_fields v = eqb (length (val NewPIN1 v)) pin_size && eqb (length (val NewPIN2 v)) pin_size

abbrev pub new_codes : View → Codes
new_codes v = record { pin1 = pad pin_size (val NewPIN1 v); pin2 = pad pin_size (val NewPIN2 v) }

abbrev pub set_pin : Row
set_pin =
    record {
      reads = PIN1 ∷ CID ∷ PIN2 ∷ CVC ∷ NewPIN1 ∷ NewPIN2 ∷ [];
      needs = record { cid = true; asleep = false; empty = true; loaded = true; purged = false; cvc = true };
      pin2 = λ v. true;
      fields = λ f v. pin_fields v;
      conditions = λ m f v. (m.new1 || eqb f.front.flags.setpin1 1) && (m.new2 || eqb f.front.flags.setpin2 1);
      questions = λ f v d. [];
      confirmed = λ a. true;
      next = λ f v a. f;
      recode = λ v x. new_codes v;
      fields_out = λ f v d a. [];
      more = λ m. cond m.new1 0 1 + cond m.new2 0 2;
    }

-- FB SIGN: the hash array (50) and the hash size (51). Both absent: the last signatures again
abbrev pub is_new : View → Bool
is_new v = has TransactionHash v || has TransactionHashSize v

abbrev pub count : View → ℕ
count v = length (val TransactionHash v) / hash_size

-- what it asks for
unfoldable pub signing : View → Signing
signing v = cond (is_new v) (New (length (val TransactionHash v))) Again

-- 1 to 10 hashes of 32 bytes
abbrev pub hashes_ok : ℕ → Bool
hashes_ok n = eqb (n % hash_size) 0 && (leb 1 (n / hash_size) && leb (n / hash_size) most_hashes)

-- both present, size one byte 32
abbrev pub sign_fields : View → Bool
sign_fields v = cond (is_new v) (has TransactionHash v && (alike (val TransactionHashSize v) (hash_size ∷ []) && hashes_ok (length (val TransactionHash v)))) true

-- kind 2 for each hash, in order
unfoldable pub hash_questions : ℕ → ℕ → ℕ → List ℕ → List Question
hash_questions number curve zero l = []
hash_questions number curve (suc n) l = question 2 number curve (take hash_size l ∷ []) ∷ hash_questions number curve n (drop hash_size l)

abbrev pub signed_face : Face → ℕ → List ℕ → Face
signed_face f n a = with_last (held_last a) (with_counters (risen f.front.counters) (with_wallet (spent n f.front.wallet) f))

-- Remaining above 0, and Signed_Hashes plus the new hashes fits 32 bits; of the repeat: there are some
abbrev pub sign_conditions : Face → View → Bool
sign_conditions f v = cond (is_new v) (ltb 0 f.front.wallet.remaining && leb (f.front.wallet.signed + count v) top32) (ltb 0 f.last.count)

abbrev pub sign : Row
sign =
    record {
      reads = PIN1 ∷ CID ∷ PIN2 ∷ CVC ∷ TransactionHash ∷ TransactionHashSize ∷ [];
      needs = record { cid = true; asleep = false; empty = false; loaded = true; purged = false; cvc = true };
      pin2 = λ v. true;
      fields = λ f v. sign_fields v;
      conditions = λ m f v. sign_conditions f v;
      questions = λ f v d. cond (is_new v) (hash_questions f.front.wallet.number f.front.fixed.curve (count v) (val TransactionHash v)) [];
      confirmed = λ a. true;
      next = λ f v a. cond (is_new v) (signed_face f (count v) a) f;
      recode = stays;
      fields_out = λ f v d a. fld Signature (last_of f.last) ∷ fld Remaining (be4 f.front.wallet.remaining)
          ∷ fld SignedHashes (be4 f.front.wallet.signed) ∷ [];
      more = λ m. 0;
    }

-- FC PURGE_WALLET: purge not prohibited; key and last signatures (02 Ask 2) forgotten, Remaining 0, Empty if reusable, else Purged; the other values stay
abbrev pub purged_face : Face → Face
purged_face f = with_last (held_last []) (with_key (held_key []) (with_wallet (purged f.front.flags.reusable f.front.wallet) f))

abbrev pub purge_wallet : Row
purge_wallet =
    record {
      reads = PIN1 ∷ CID ∷ PIN2 ∷ [];
      needs = record { cid = true; asleep = false; empty = false; loaded = true; purged = false; cvc = false };
      pin2 = λ v. true;
      fields = λ f v. true;
      conditions = λ m f v. eqb f.front.flags.nopurge 0;
      questions = λ f v d. [];
      confirmed = λ a. true;
      next = λ f v a. purged_face f;
      recode = stays;
      fields_out = λ f v d a. status_field f ∷ [];
      more = λ m. 0;
    }
