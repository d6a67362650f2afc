use Rattle.std.proofs.Common.{refl}
use Rattle.std.proofs.lemmas.Result.{err_from_is_err_and}
use Rattle.shelf.specs.Outcome.{after_of}
use Rattle.handed.specs.Handed.{outcome_of, union_of}
use Rattle.handed.proofs.Laws.{read_bad, read_done}
use Rattle.handed.proofs.join.Goals as goal

pub returns-in_err-n : goal.returns-in_err-n
unfolding outcome_of after_of
returns-in_err-n c =
    let p = err_from_is_err_and c.from_residual.result c.from_residual.ensures.1 in
    let h = read_bad c.args.first.now 1 c.in_err-n.ensures.0 in
    rw (p.1, p.2, h.2, h.1) (refl, refl)

pub returns-in_err-m : goal.returns-in_err-m
unfolding outcome_of after_of
returns-in_err-m c =
    let p = err_from_is_err_and c.from_residual-in_err-m.result c.from_residual-in_err-m.ensures.1 in
    let a = read_done c.args.first.now 1 _ _ (c.in_ok-n.ensures.0, c.in_ok-n.ensures.1) in
    let h = read_bad c.args.second.now 2 c.in_err-m.ensures.0 in
    rw (p.1, p.2, h.2, a.0, h.1) (refl, refl)

pub returns : goal.returns
unfolding outcome_of union_of
returns c =
    let a = read_done c.args.first.now 1 _ _ (c.in_ok-n.ensures.0, c.in_ok-n.ensures.1) in
    let b = read_done c.args.second.now 2 _ _ (c.in_ok-m.ensures.0, c.in_ok-m.ensures.1) in
    rw (a.0, b.0, ← c.told-joined) (c.join.ensures.0, c.join.ensures.1)
