use Rattle.std.proofs.Common.{◌≡◌, ◌≤◌, ◌++◌, length}
use lib.ListN.{drop}
use Rattle.text.specs.Text.{decimal_of}
use Rattle.text.proofs.put_decimal.Given as goal

abbrev pub invariant-loop-left : goal.invariant-loop-left
invariant-loop-left l = (l.first ≤ 10) × (length l.digits ≡ 10) × (decimal_of l.n ≡ decimal_of l.left ++ drop l.first l.digits)

abbrev pub decreases-loop-left : goal.decreases-loop-left
decreases-loop-left l = l.first
