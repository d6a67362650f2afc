use Prim.Native.Nat.{◌+◌}
use native.Mathlib.Omega.{arith}
use mathlib.Core.Path.{ap, ◌∙◌}
use lib.ListN.{length}
use Rattle.wire.specs.Wire.{part, put}
use Rattle.wire.proofs.Parts.{there_and_back}
use Rattle.wire.proofs.copy.Goals as goal

pub copy_each-requires-then-v-le-SPAN : goal.copy_each-requires-then-v-le-SPAN
copy_each-requires-then-v-le-SPAN c = let x = c.args in
    let v = x.v.now in
    let b = c.part.ensures ∙ ap (λ l. part l 0 (length v)) c.copy_each.ensures.0 ∙ there_and_back 4096 v c.if-v-le-SPAN.true in
    omega (arith, ap length b, c.requires)

pub returns-then-v-le-SPAN : goal.returns-then-v-le-SPAN
returns-then-v-le-SPAN c = let x = c.args in
    let v = x.v.now in
    let b = c.part.ensures ∙ ap (λ l. part l 0 (length v)) c.copy_each.ensures.0 ∙ there_and_back 4096 v c.if-v-le-SPAN.true in
    let z = c.copy_each-then-v-le-SPAN.ensures in
    (z.0 ∙ ap (put x.out.now x.at) b, z.1 ∙ ap (λ l. x.at + length l) b)
