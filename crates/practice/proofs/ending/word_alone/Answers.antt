use native.Mathlib.Omega.{arith}
use mathlib.Core.Path.{ap, ◌∙◌}
use Rattle.wire.specs.Wire.{be2}
use Rattle.wire.proofs.Laws.{runs, front}
use Rattle.manual.specs.declared.Outcome.{Outcome}
use Rattle.manual.specs.Settle.{over}
use Rattle.practice.proofs.ending.word_alone.Goals as goal

pub returns : goal.returns
returns c = let e = ap (λ (z : Outcome). over (be2 z.word) c.args.response.now) c.says-o.ensures in
    (c.says-o.ensures, (front (runs c.put16.ensures) (omega (arith, c.requires))).0 ∙ e)
