use lib.ListN.{drop}
use mathlib.Core.Path.{◌≡◌}
use Rattle.text.specs.Text.{is_hex}
use Rattle.text.proofs.is_hex.Given as goal

abbrev pub invariant-loop-b : goal.invariant-loop-b
invariant-loop-b l = is_hex l.s ≡ is_hex (drop l.b-index l.s)
