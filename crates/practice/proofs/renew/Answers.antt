use Rattle.sent.specs.Sent.{view}
use Rattle.practice.proofs.Laws.{left}
use Rattle.practice.proofs.renew.Goals as goal

pub returns : goal.returns
returns c = let x = c.args in
    left x.cmd x.img.bytes.now (view x.sent.now) x.answers.now x.next.now x.img.sized c.change.ensures c.requires
    (rw c.none.ensures at c.pending.ensures)
