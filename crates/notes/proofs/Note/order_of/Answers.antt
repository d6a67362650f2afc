use Rattle.std.proofs.Common.{rules}
use Rattle.notes.specs.Notes.{order_of}
use Rattle.notes.proofs.Note.order_of.Goals as goal

pub returns : goal.returns
unfolding order_of
returns c = search rules
