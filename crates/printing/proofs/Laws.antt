-- How long a printed line can be. Assumes nothing.
use Prim.Native.Nat.{ℕ, ◌+◌, ◌*◌, ◌≤◌, ◌<◌}
use native.Mathlib.Omega.{arith}
use mathlib.Core.List.{List}
use mathlib.Core.Bool.{Bool, true, false}
use lib.ListN.{length, length-append}
use lib.Dec.{eqb}
use Rattle.wire.specs.Wire.{joined}
use Rattle.wire.proofs.Laws.{by_cases}
use Rattle.text.specs.Text.{hex_of, decimal_of}
use Rattle.text.proofs.Laws.{length_hex_of, ten_digits}
use Rattle.printing.specs.Printing.{told_as, sameness, tap_text, sums_text, bad_text}

-- THE LONGEST LINES
pub told_short : (number : ℕ) (v : List ℕ) → number < 4294967296 → length (told_as number v) ≤ 2 * length v + 10
unfolding told_as
told_short number v h =
    by_cases (λ t. length t ≤ 2 * length v + 10) (eqb number 0) {x = hex_of v} {y = decimal_of number}
    (λ e. omega (arith, length_hex_of v))
    (λ e. omega (arith, ten_digits number h))

same_short : (b : Bool) → length (sameness b) ≤ 5
unfolding sameness
same_short true = omega arith
same_short false = omega arith

pub tap_short : (n : ℕ) (b : Bool) (v : List ℕ) → length (decimal_of n) ≤ 10 → length (tap_text n b v) ≤ length v + 18
unfolding tap_text joined
tap_short n b v h = simp length-append (omega (arith, h, same_short b))

pub sums_short :
    (a b c d : ℕ) → length (decimal_of a) ≤ 10 → length (decimal_of b) ≤ 10 → length (decimal_of c) ≤ 10 → length (decimal_of d) ≤ 10
    → length (sums_text a b c d) ≤ 44
unfolding sums_text joined
sums_short a b c d h h₁ h₂ h₃ = simp length-append (omega (arith, h, h₁, h₂, h₃))

pub bad_short : (n : ℕ) → length (decimal_of n) ≤ 10 → length (bad_text n) ≤ 16
unfolding bad_text joined
bad_short n h = simp length-append (omega (arith, h))
