use Rattle.std.proofs.Common.{arith, refl, ◌∙◌}
use Rattle.text.proofs.LineLaws.{start_reached}
use Rattle.text.specs.Lines.{start_of}
use Rattle.text.proofs.lines.start_of.Goals as goal

pub loop-init : goal.loop-init
unfolding start_of
loop-init c = (omega arith, refl)

pub returns : goal.returns
returns c = let l = c.loop in let x = c.args in
    l.invariant.1 ∙ start_reached x.k l.counter x.s.now l.auto.counter l.invariant.0 c.loop-test.false
