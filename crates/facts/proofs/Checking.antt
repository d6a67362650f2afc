-- THE FACTS of the commands that prove something to a challenger: F9, F3, F4. Assumes nothing.
use Prim.Native.Nat.{ℕ, ◌+◌, ◌≤◌}
use native.Mathlib.Omega.{arith}
use mathlib.Core.Path.{◌≡◌}
use mathlib.Core.List.{List, [], ◌∷◌}
use mathlib.Core.Bool.{Bool, true, false, cond, not, ◌||◌}
use lib.ListN.{length}
use lib.Dec.{eqb}
use borrow.Author.Tests.{eqb-true}
use Rattle.wire.proofs.Laws.{by_cases, both_true, part_most}
use Rattle.fields.specs.Fields.{View, val, fld}
use Rattle.card.specs.declared.Face.{Face}
use Rattle.card.specs.Layout.{key_room, signature_size}
use Rattle.card.specs.Values.{checked_once, validated_once}
use Rattle.cards.proofs.Shape.{shape_with_counters}
use Rattle.manual.specs.Tags.{CardSignature, PublicKeyChallenge, PublicKeySalt, Challenge}
use Rattle.manual.specs.Row.{Question, question}
use Rattle.manual.specs.Checking.{salt_size, challenged, key_salt, signature2, key_asked, key_alone, check_fields, key_message, key_fields}
use Rattle.manual.specs.Checking.{check_wallet, verify_card, validate_card}
use Rattle.facts.proofs.Row.{Small, Facts}
use Rattle.facts.proofs.Sizes.{parts, load, weight_cond, key_long}

challenge_long : (v : View) → challenged v ≡ true → length (val Challenge v) ≡ salt_size
challenge_long v e = eqb-true (length (val Challenge v)) salt_size e

-- the key, and what follows it
key_message_long :
    (f : Face) (v : View) (d : List ℕ) → Small f → check_fields v ≡ true → key_asked v ≡ true
    → parts (key_message f v d) ≤ key_room + salt_size + salt_size
key_message_long f v d s e h =
    let sized = eqb (length (val PublicKeyChallenge v)) salt_size in
    let k = key_long f.front.key in
    let l = rest (key_alone v) (asked (key_asked v) (key_alone v || sized) h (both_true (challenged v) (not (key_asked v) || (key_alone v || sized)) e).1) in
    omega arith
  where
    asked : (a b : Bool) → a ≡ true → (not a || b) ≡ true → b ≡ true
    asked a b p e = rw p at e

    rest :
        (b : Bool) → (b || eqb (length (val PublicKeyChallenge v)) salt_size) ≡ true
        → parts (cond b [] (val PublicKeyChallenge v ∷ key_salt d ∷ [])) ≤ salt_size + salt_size
    rest true z = omega arith
    rest false z = omega (arith, eqb-true (length (val PublicKeyChallenge v)) salt_size z, part_most d salt_size salt_size)

pub of_check_wallet : Facts check_wallet
of_check_wallet =
    record {
      shape = λ f v a s. shape_with_counters f s (checked_once f.front.counters);
      codes = λ v x s. s;
      more = λ m. omega arith;
      loads = λ f v d s e.
          let c = challenge_long v (both_true (challenged v) _ e).0 in
          let x = part_most d 0 salt_size in
          let q = question 4 f.front.wallet.number f.front.fixed.curve (key_message f v d) in
          let k : load (cond (key_asked v) (q ∷ []) []) ≤ key_room + salt_size + salt_size + 6 =
          by_cases (λ (z : List Question). load z ≤ key_room + salt_size + salt_size + 6) (key_asked v)
          (λ h. omega (arith, key_message_long f v d s e h))
          (λ _. omega arith) in
          omega arith;
      weighs = λ f v d a s.
          let x = part_most d 0 salt_size in
          let y = part_most d salt_size salt_size in
          let z = part_most a 0 signature_size in
          let u = part_most a signature_size signature_size in
          let k = weight_cond (key_alone v) (fld CardSignature (signature2 a) ∷ []) (fld PublicKeySalt (key_salt d) ∷ fld CardSignature (signature2 a) ∷ []) in
          let l = weight_cond (key_asked v) (key_fields f v d a) [] in
          omega arith;
    }

pub of_verify_card : Facts verify_card
of_verify_card =
    record {
      shape = λ f v a s. s;
      codes = λ v x s. s;
      more = λ m. omega arith;
      loads = λ f v d s e. omega (arith, challenge_long v e, part_most d 0 salt_size);
      weighs = λ f v d a s. omega (arith, part_most d 0 salt_size, part_most a 0 signature_size);
    }

pub of_validate_card : Facts validate_card
of_validate_card =
    record {
      shape = λ f v a s. shape_with_counters f s (validated_once f.front.counters);
      codes = λ v x s. s;
      more = λ m. omega arith;
      loads = λ f v d s e. omega arith;
      weighs = λ f v d a s. omega (arith, part_most a 0 signature_size);
    }
