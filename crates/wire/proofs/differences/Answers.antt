use mathlib.Core.Path.{refl, sym, ap, ◌∙◌}
use mathlib.Core.Bool.{◌&&◌}
use Prim.Native.Nat.{ℕ, ◌+◌}
use native.Mathlib.Omega.{arith}
use lib.ListN.{length, get_or, drop}
use lib.Bits.{bit_or, bit_xor}
use lib.Dec.{eqb}
use Rattle.wire.specs.Wire.{alike}
use Rattle.wire.proofs.Comparing.{laid, differ, differed}
use Rattle.wire.proofs.differences.Goals as goal

pub loop-i-init : goal.loop-i-init
loop-i-init c = refl

pub loop-i-preserved : goal.loop-i-preserved
loop-i-preserved c = let x = c.args in
    let k = x.code.now in
    let d = c.loop-i.any in
    let i = c.loop-i.i in
    c.loop-i.invariant ∙ differ x.sent.now k d i (omega arith)
    ∙ ap (λ (y : ℕ). eqb (bit_or d (bit_xor y (get_or k i 0))) 0 && alike (drop (i + 1) (laid x.sent.now (length k))) (drop (i + 1) k))
    (sym c.byte_at.ensures)

pub returns : goal.returns
returns c = let x = c.args in
    sym (c.loop-i.invariant ∙ differed x.sent.now x.code.now c.loop-i.any c.loop-i.i (omega arith))
