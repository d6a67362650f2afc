use native.Mathlib.Omega.{arith}
use Rattle.sent.specs.Sent.{view}
use Rattle.practice.proofs.Laws.{responded}
use Rattle.practice.proofs.respond.Goals as goal

pub overflow_cast-result : goal.overflow_cast-result
overflow_cast-result c = let x = c.args in
    let z = responded x.cmd x.img.now x.word (view x.sent.now) x.draw.now x.answers.now c.tell-at.ensures
    c.put16-end.ensures c.requires in
    omega (arith, z.1)

pub returns : goal.returns
returns c = let x = c.args in
    let z = responded x.cmd x.img.now x.word (view x.sent.now) x.draw.now x.answers.now c.tell-at.ensures
    c.put16-end.ensures c.requires in
    z.0
