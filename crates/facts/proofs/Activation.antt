-- THE FACTS of FE. Assumes nothing.
use native.Mathlib.Omega.{arith}
use mathlib.Core.Path.{◌≡◌, refl, ap}
use mathlib.Core.List.{[], ◌∷◌}
use mathlib.Core.Bool.{Bool, true, false, ◌||◌}
use lib.ListN.{length}
use lib.Dec.{eqb}
use borrow.Author.Tests.{eqb-true}
use Rattle.wire.specs.Wire.{alike}
use Rattle.wire.proofs.Laws.{by_cases, both_true, alike_same}
use Rattle.fields.specs.Fields.{View, val}
use Rattle.card.specs.Layout.{signature_size}
use Rattle.card.specs.Shape.{ShapeCodes}
use Rattle.card.specs.Values.{activated}
use Rattle.cards.proofs.Shape.{shape_with_flags}
use Rattle.manual.specs.Tags.{ActivationSignature, ResetPIN1}
use Rattle.manual.specs.Activation.{resets, reset_said, activation_fields, activate_card}
use Rattle.facts.proofs.Row.{Facts}
use Rattle.facts.proofs.Wallet.{read_light}

-- what a confirmation brings
pub record Confirmation (v : View) : Type 0 where
  pub signature : length (val ActivationSignature v) ≡ signature_size
  pub reset : length (val ResetPIN1 v) ≡ 1

pub confirmation : (v : View) → activation_fields v ≡ true → Confirmation v
confirmation v e =
    let x = both_true (reset_said v) (eqb (length (val ActivationSignature v)) signature_size) e in
    record { signature = eqb-true _ _ x.1; reset = one (alike (val ResetPIN1 v) (0 ∷ [])) refl x.0 }
  where
    one : (b : Bool) → alike (val ResetPIN1 v) (0 ∷ []) ≡ b → (b || resets v) ≡ true → length (val ResetPIN1 v) ≡ 1
    one true z h = ap length (alike_same (val ResetPIN1 v) (0 ∷ []) z)
    one false z h = ap length (alike_same (val ResetPIN1 v) (1 ∷ []) h)

pub of_activate_card : Facts activate_card
of_activate_card =
    record {
      shape = λ f v a s. shape_with_flags f s (activated f.front.flags);
      codes = λ v x s. by_cases ShapeCodes (resets v) (λ _. record { pin1 = refl; pin2 = s.pin2 }) (λ _. s);
      more = λ m. omega arith;
      loads = λ f v d s e. let n = confirmation v e in omega arith;
      weighs = λ f v d a s. let r = read_light f s in omega arith;
    }
