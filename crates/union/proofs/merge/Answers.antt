use Rattle.std.proofs.Common.{◌∙◌, ap, inl, arith, length}
use Rattle.union.proofs.Laws.{laid_none, laid_more, laid_all}
use Rattle.union.proofs.merge.Goals as goal

pub loop-i-init : goal.loop-i-init
loop-i-init c =
    let e = c.into_iter-i-iterator.ensures.into_iter_gives in
    let a = laid_none (record { first = c.args.first; second = c.args.second }) c.args.joined.now (ap (λ i. i.count) e ∙ c.enumerate-i-items.ensures.count) (ap (λ i. i.iter) e ∙ c.enumerate-i-items.ensures.source) in
    let l = a.left in
    ((tt, tt, inl (omega arith)), tt, a)

pub bounds-joined-i : goal.bounds-joined-i
bounds-joined-i c =
    let s = c.in-Some.ensures.steps in
    let l = c.loop-i.invariant.2.left in
    let k = ap length s.0 in
    omega arith

pub loop-i-preserved : goal.loop-i-preserved
loop-i-preserved c =
    let s = c.in-Some.ensures.steps in
    let a = laid_more c.loop-i.invariant.2 c.requires s.0 c.note.ensures in
    let l = a.left in
    ((tt, tt, inl (omega arith)), tt, rw (s.1, s.2) a)

pub returns : goal.returns
returns c = laid_all c.loop-i.invariant.2 c.in-None.ensures.steps.0.0
