use Rattle.std.proofs.Common.{rules}
use Rattle.noteline.specs.NoteLine.{note_at}
use Rattle.noteline.proofs.note_at.Goals as goal

pub returns-then-not-is_ended : goal.returns-then-not-is_ended
unfolding note_at
returns-then-not-is_ended c = search rules

pub returns : goal.returns
unfolding note_at
returns c = search rules
