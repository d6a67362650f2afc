use Rattle.std.proofs.Common.{ℕ, List, replicate, ◌≡◌, ◌∙◌, refl, arith, add-one, length, get_or}
use lib.ListN.{length-replicate, get_or-replicate}
use lib.Seq.{paste-zero, paste-suc}
use Rattle.wire.proofs.Laws.{pasted}
use Rattle.wire.proofs.wipe.Goals as goal

pub loop-i-init : goal.loop-i-init
loop-i-init c = paste-zero c.args.out.now c.args.at (replicate c.args.n 0)

pub loop-i-preserved : goal.loop-i-preserved
loop-i-preserved c = let x = c.args in
    let z : List ℕ = replicate x.n 0 in
    let l : length z ≡ x.n = length-replicate x.n 0 in
    let e : get_or z c.loop-i.i 0 ≡ 0 = get_or-replicate x.n c.loop-i.i 0 0 (omega arith) in
    rw (c.loop-i.invariant, add-one) (rw e at (paste-suc x.out.now x.at z c.loop-i.i 0 (omega arith) (omega arith)))

pub returns : goal.returns
returns c = let l : length (replicate {A = ℕ} c.args.n 0) ≡ c.args.n = length-replicate c.args.n 0 in (c.loop-i.invariant ∙ pasted _ _ _ _ (omega (arith, l)), refl)
