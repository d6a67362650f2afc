use Rattle.std.proofs.Common.{◌∙◌, ap, not}
use Rattle.notes.proofs.Laws.{same_note}
use Rattle.union.specs.Union.{clashes}
use Rattle.union.proofs.Pair.clashes.Goals as goal

pub returns-in-Both : goal.returns-in-Both
unfolding clashes
returns-in-Both c = rw c.in-Both.is (c.ne.ensures ∙ ap not (same_note c.in-Both.x c.in-Both.y))

pub returns-in-First : goal.returns-in-First
unfolding clashes
returns-in-First c = rw c.in-First.is

pub returns-in-Second : goal.returns-in-Second
unfolding clashes
returns-in-Second c = rw c.in-Second.is
