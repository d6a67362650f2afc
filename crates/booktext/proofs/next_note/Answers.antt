use Rattle.std.proofs.Common.{rules}
use Rattle.booktext.specs.BookText.{standing}
use Rattle.booktext.proofs.next_note.Goals as goal

pub returns-in_err-note : goal.returns-in_err-note
unfolding standing
returns-in_err-note c = search rules

pub returns : goal.returns
unfolding standing
returns c = search rules
