use Rattle.book.specs.Book.{joined_into}
use Rattle.book.proofs.book_join.Goals as goal

pub returns : goal.returns
unfolding joined_into
returns c = rw (← c.join.ensures.0) (c.from.ensures, c.join.ensures.1)
