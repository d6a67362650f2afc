-- The rows of the commands on user and issuer data, 01 "The commands": E1, E0, F6, F7. Assumes nothing.
use Rattle.std.specs.Prelude.{ℕ, List, [], ◌∷◌, ◌++◌, Bool, true, false, cond, not, ◌&&◌, ◌||◌, length, ltb, leb, eqb}
use Rattle.wire.specs.Wire.{be4, num32, alike}
use Rattle.fields.specs.Fields.{View, has, val, Tagged, fld}
use Rattle.card.specs.declared.Face.{Face}
use Rattle.card.specs.declared.Block.{Block}
use Rattle.card.specs.declared.Counters.{Counters}
use Rattle.card.specs.Layout.{data_room, signature_size}
use Rattle.card.specs.Values.{held_block, held_issuer, block_of, with_user, with_protected, with_counters, with_issuer}
use Rattle.manual.specs.Tags.{CID, PIN1, PIN2}
use Rattle.manual.specs.Tags.{Mode, UserData, UserProtectedData, UserCounter, UserProtectedCounter, IssuerData, IssuerDataSignature, IssuerDataCounter}
use Rattle.manual.specs.Row.{question, yes, Row, stays}

-- a field with held data, only if not empty
abbrev pub held_field : ℕ → List ℕ → List Tagged
held_field t d = cond (eqb (length d) 0) [] (fld t d ∷ [])

-- E1 READ_USER_DATA: 2A and 2B, each only if not empty, then 2C, 2D
abbrev pub read_user_data : Row
read_user_data =
    record {
      reads = PIN1 ∷ CID ∷ [];
      needs = record { cid = true; asleep = false; empty = true; loaded = true; purged = true; cvc = false };
      pin2 = λ v. false;
      fields = λ f v. true;
      conditions = λ m f v. true;
      questions = λ f v d. [];
      confirmed = λ a. true;
      next = λ f v a. f;
      recode = stays;
      fields_out = λ f v d a. held_field UserData (block_of f.held.user)
          ++ (held_field UserProtectedData (block_of f.held.protected)
          ++ (fld UserCounter (be4 f.front.counters.user) ∷ fld UserProtectedCounter (be4 f.front.counters.protected) ∷ []));
      more = λ m. 0;
    }

-- E0 WRITE_USER_DATA: any of 2A, 2B (1 to 512 bytes), 2C, 2D (4); at least one
abbrev pub is_data : List ℕ → Bool
is_data v = leb 1 (length v) && leb (length v) data_room

abbrev pub is_number : List ℕ → Bool
is_number v = eqb (length v) 4

abbrev pub block_sent : ℕ → View → Bool
block_sent t v = not (has t v) || is_data (val t v)

abbrev pub number_sent : ℕ → View → Bool
number_sent t v = not (has t v) || is_number (val t v)

abbrev pub any_sent : View → Bool
any_sent v = (has UserData v || has UserProtectedData v) || (has UserCounter v || has UserProtectedCounter v)

abbrev pub user_fields : View → Bool
user_fields v = any_sent v && ((block_sent UserData v && block_sent UserProtectedData v) && (number_sent UserCounter v && number_sent UserProtectedCounter v))

-- what is there is stored
abbrev pub stored_block : ℕ → View → Block → Block
stored_block t v b = cond (has t v) (held_block (val t v)) b

abbrev pub stored_number : ℕ → View → ℕ → ℕ
stored_number t v n = cond (has t v) (num32 (val t v) 0) n

abbrev pub stored_counters : View → Counters → Counters
stored_counters v x = record {
  checks = x.checks;
  validations = x.validations;
  user = stored_number UserCounter v x.user;
  protected = stored_number UserProtectedCounter v x.protected;
}

abbrev pub stored_face : Face → View → Face
stored_face f v =
    with_counters (stored_counters v f.front.counters)
    (with_protected (stored_block UserProtectedData v f.held.protected) (with_user (stored_block UserData v f.held.user) f))

abbrev pub write_user_data : Row
write_user_data =
    record {
      reads = PIN1 ∷ CID ∷ PIN2 ∷ UserData ∷ UserProtectedData ∷ UserCounter ∷ UserProtectedCounter ∷ [];
      needs = record { cid = true; asleep = false; empty = true; loaded = true; purged = false; cvc = false };
      pin2 = λ v. has UserProtectedData v || has UserProtectedCounter v;
      fields = λ f v. user_fields v;
      conditions = λ m f v. true;
      questions = λ f v d. [];
      confirmed = λ a. true;
      next = λ f v a. stored_face f v;
      recode = stays;
      fields_out = λ f v d a. [];
      more = λ m. 0;
    }

-- F6 WRITE_ISSUER_DATA and F7: Mode (23) if present one byte 0
abbrev pub mode_ok : View → Bool
mode_ok v = not (has Mode v) || alike (val Mode v) (0 ∷ [])

abbrev pub guarded : Face → Bool
guarded f = eqb f.front.flags.replay 1

abbrev pub sent_counter : View → ℕ
sent_counter v = num32 (val IssuerDataCounter v) 0

-- the counter, if protected
abbrev pub counter_bytes : Face → View → List ℕ
counter_bytes f v = cond (guarded f) (val IssuerDataCounter v) []

-- 32 (1 to 512), 33 (64), with replay protection 35 (4)
abbrev pub issuer_fields : Face → View → Bool
issuer_fields f v =
    mode_ok v && (is_data (val IssuerData v)
    && (eqb (length (val IssuerDataSignature v)) signature_size && (not (guarded f) || is_number (val IssuerDataCounter v))))

-- kind 5 on signature, CID, data, and the counter if protected
abbrev pub issuer_message : Face → View → List (List ℕ)
issuer_message f v = val IssuerDataSignature v ∷ f.front.fixed.cid ∷ val IssuerData v ∷ counter_bytes f v ∷ []

abbrev pub kept_counter : Face → View → ℕ
kept_counter f v = cond (guarded f) (sent_counter v) f.held.issuer.counter

abbrev pub issuer_face : Face → View → Face
issuer_face f v = with_issuer (held_issuer (val IssuerData v) (val IssuerDataSignature v) (kept_counter f v)) f

abbrev pub write_issuer_data : Row
write_issuer_data =
    record {
      reads = PIN1 ∷ CID ∷ Mode ∷ IssuerData ∷ IssuerDataSignature ∷ IssuerDataCounter ∷ [];
      needs = record { cid = true; asleep = false; empty = true; loaded = true; purged = false; cvc = false };
      pin2 = λ v. false;
      fields = issuer_fields;
      conditions = λ m f v. not (guarded f) || ltb f.held.issuer.counter (sent_counter v);
      questions = λ f v d. question 5 f.front.wallet.number f.front.fixed.curve (issuer_message f v) ∷ [];
      confirmed = yes;
      next = λ f v a. issuer_face f v;
      recode = stays;
      fields_out = λ f v d a. [];
      more = λ m. 0;
    }

-- F7 READ_ISSUER_DATA: 32 and 33 if data is held, then 35 if protected
abbrev pub note_of : Face → List ℕ
note_of f = block_of f.held.issuer.block

abbrev pub note_fields : Face → List Tagged
note_fields f =
    cond (eqb (length (note_of f)) 0) [] (fld IssuerData (note_of f) ∷ fld IssuerDataSignature f.held.issuer.signature ∷ [])

abbrev pub counter_field : Face → List Tagged
counter_field f = cond (guarded f) (fld IssuerDataCounter (be4 f.held.issuer.counter) ∷ []) []

abbrev pub read_issuer_data : Row
read_issuer_data =
    record {
      reads = PIN1 ∷ CID ∷ Mode ∷ [];
      needs = record { cid = true; asleep = true; empty = true; loaded = true; purged = true; cvc = false };
      pin2 = λ v. false;
      fields = λ f v. mode_ok v;
      conditions = λ m f v. true;
      questions = λ f v d. [];
      confirmed = λ a. true;
      next = λ f v a. f;
      recode = stays;
      fields_out = λ f v d a. note_fields f ++ counter_field f;
      more = λ m. 0;
    }
