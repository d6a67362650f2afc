use Rattle.std.proofs.Common.{rules}
use Rattle.notes.specs.Notes.{text_good}
use Rattle.notes.proofs.is_text_good.Goals as goal

pub returns-then-is_clean : goal.returns-then-is_clean
unfolding text_good
returns-then-is_clean c = search rules

pub returns-else-is_clean : goal.returns-else-is_clean
unfolding text_good
returns-else-is_clean c = search rules
