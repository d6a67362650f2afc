use Rattle.std.proofs.Common.{◌∙◌, refl, arith, add-one}
use lib.Seq.{paste-zero, paste-suc}
use Rattle.wire.proofs.Laws.{pasted}
use Rattle.wire.proofs.copy_each.Goals as goal

pub loop-i-init : goal.loop-i-init
loop-i-init c = paste-zero c.args.out.now c.args.at c.args.v.now

pub loop-i-preserved : goal.loop-i-preserved
loop-i-preserved c = let x = c.args in
    rw (c.loop-i.invariant, add-one) (paste-suc x.out.now x.at x.v.now c.loop-i.i 0 (omega arith) (omega arith))

pub returns : goal.returns
returns c = (c.loop-i.invariant ∙ pasted _ _ _ _ (omega arith), refl)
