use lib.ListN.{drop}
use mathlib.Core.Path.{◌≡◌}
use Rattle.text.specs.Text.{is_digits}
use Rattle.text.proofs.is_digits.Given as goal

abbrev pub invariant-loop-b : goal.invariant-loop-b
invariant-loop-b l = is_digits l.s ≡ is_digits (drop l.b-index l.s)
