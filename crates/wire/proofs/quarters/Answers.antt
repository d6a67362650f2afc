use Rattle.std.proofs.Common.{refl, arith}
use Rattle.wire.specs.Wire.{all_zero}
use Rattle.wire.proofs.Laws.{quarters_more, quarters_whole}
use Rattle.wire.proofs.quarters.Goals as goal

pub loop-i-init : goal.loop-i-init
unfolding all_zero
loop-i-init c = refl

pub loop-i-preserved : goal.loop-i-preserved
loop-i-preserved c = let x = c.args in quarters_more x.s.now x.at x.n c.loop-i.any c.loop-i.i (omega arith) (omega arith) c.loop-i.invariant

pub returns : goal.returns
returns c = let x = c.args in quarters_whole x.s.now x.at x.n c.loop-i.any c.loop-i.i (omega arith) c.loop-i.invariant
