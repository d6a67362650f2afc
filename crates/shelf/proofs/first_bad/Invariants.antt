use Rattle.std.proofs.Common.{◌≡◌, ◌+◌, ◌-◌, ◌≤◌, drop}
use Rattle.shelf.specs.Shelf.{most, bad_from, first_bad}
use Rattle.shelf.proofs.first_bad.Given as goal

abbrev pub invariant-loop-i : goal.invariant-loop-i
invariant-loop-i l = (l.i ≤ most) × (first_bad l.list ≡ bad_from (most - l.i) (l.i + 1) l.last (drop l.i l.list))
