use Prim.Native.Nat.{◌≤◌, max}
use mathlib.Core.Path.{◌≡◌}
use Rattle.text.specs.Lines.{start_of}
use Rattle.text.proofs.lines.start_of.Given as goal

abbrev pub invariant-loop : goal.invariant-loop
invariant-loop l = (l.counter ≤ max 1 l.k) × (l.at ≡ start_of l.counter l.s)
