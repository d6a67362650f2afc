use mathlib.Core.Path.{refl, sym}
use Rattle.sent.specs.Sent.{view}
use Rattle.card.specs.Image.{decode}
use Rattle.gate.proofs.Laws.{by_groups}
use Rattle.gate.proofs.judge.Goals as goal

pub returns-in-Err : goal.returns-in-Err
returns-in-Err c = let x = c.args in
    let d = decode x.img.now in
    let e = by_groups x.sent.now.whole d (view x.sent.now) x.q.now x.cmd (c.form.ensures d) refl refl in
    sym (rw c.in-Err.is at e)

pub returns-in-Err-entry : goal.returns-in-Err-entry
returns-in-Err-entry c = let x = c.args in
    let d = decode x.img.now in
    let e = by_groups x.sent.now.whole d (view x.sent.now) x.q.now x.cmd (c.form.ensures d) c.entry.ensures refl in
    sym (rw (c.in_default.is, c.in-Err-entry.is) at e)

pub returns-in-Err-own : goal.returns-in-Err-own
returns-in-Err-own c = let x = c.args in
    let d = decode x.img.now in
    let e = by_groups x.sent.now.whole d (view x.sent.now) x.q.now x.cmd (c.form.ensures d) c.entry.ensures c.own.ensures in
    sym (rw (c.in_default.is, c.in_default-entry.is, c.in-Err-own.is) at e)

pub returns : goal.returns
returns c = let x = c.args in
    let d = decode x.img.now in
    let e = by_groups x.sent.now.whole d (view x.sent.now) x.q.now x.cmd (c.form.ensures d) c.entry.ensures c.own.ensures in
    sym (rw (c.in_default.is, c.in_default-entry.is, c.in_default-own.is) at e)
