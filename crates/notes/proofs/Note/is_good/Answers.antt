use Rattle.std.proofs.Common.{arith}
use Rattle.std.proofs.lemmas.Bool.Decides.{nat_tests}
use Rattle.notes.specs.Notes.{good_of}
use Rattle.notes.proofs.Note.is_good.Goals as goal

pub returns-then-self-lt61 : goal.returns-then-self-lt61
unfolding good_of
returns-then-self-lt61 c = grind (arith, nat_tests)

pub returns-else-self-lt61 : goal.returns-else-self-lt61
unfolding good_of
returns-else-self-lt61 c = grind (arith, nat_tests)
