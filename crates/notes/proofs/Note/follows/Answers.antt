use Rattle.std.proofs.Common.{rules}
use Rattle.notes.specs.Notes.{follows}
use Rattle.notes.proofs.Note.follows.Goals as goal

pub returns-then-is_good : goal.returns-then-is_good
unfolding follows
returns-then-is_good c = search rules

pub returns-else-is_good : goal.returns-else-is_good
unfolding follows
returns-else-is_good c = search rules
