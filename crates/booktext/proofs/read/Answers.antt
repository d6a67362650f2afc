use Rattle.booktext.specs.BookText.{read_of}
use Rattle.booktext.proofs.read.Goals as goal

pub returns : goal.returns
unfolding read_of
returns c = c.read_as.ensures
