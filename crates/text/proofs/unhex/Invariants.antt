use lib.Seq.{paste}
use mathlib.Core.Path.{◌≡◌}
use Rattle.text.specs.Text.{unhex}
use Rattle.text.proofs.unhex.Given as goal

abbrev pub invariant-loop-i : goal.invariant-loop-i
invariant-loop-i l = l.out ≡ paste l.initial.out l.at (unhex l.s) l.i
