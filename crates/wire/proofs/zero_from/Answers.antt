use Rattle.std.proofs.Common.{◌≤◌, ◌∙◌, sym, arith, length}
use lib.ListN.{drop_of_length-le}
use Rattle.wire.specs.Wire.{all_zero}
use Rattle.wire.proofs.Laws.{gather, gathered}
use Rattle.wire.proofs.zero_from.Goals as goal

pub returns-then-s-at : goal.returns-then-s-at
unfolding all_zero
returns-then-s-at c = let x = c.args in let h : length x.s.now ≤ x.at = omega arith in rw (drop_of_length-le x.s.now h)

pub loop-b-init : goal.loop-b-init
loop-b-init c = rw c.rest-b-items.ensures c.quarters-any.ensures

pub loop-b-preserved : goal.loop-b-preserved
loop-b-preserved c = c.loop-b.invariant ∙ gather _ c.loop-b.any c.loop-b.b-index (omega arith)

pub returns : goal.returns
returns c = sym (c.loop-b.invariant ∙ gathered _ c.loop-b.any c.loop-b.b-index (omega arith))
