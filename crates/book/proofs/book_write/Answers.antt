use Rattle.book.specs.Book.{written_into}
use Rattle.book.proofs.book_write.Goals as goal

pub returns : goal.returns
unfolding written_into
returns c = rw (← c.write.ensures.0) (c.from.ensures, c.write.ensures.1)
