use Rattle.book.specs.Book.{read_into}
use Rattle.book.proofs.book_read.Goals as goal

pub returns : goal.returns
unfolding read_into
returns c = rw (← c.read.ensures.0) (c.from.ensures, c.read.ensures.1)
