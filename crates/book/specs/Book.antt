-- THE HANDOVER BOOK as a lent list, Ask 8: what each function leaves in what is lent. Assumes nothing.
use Rattle.std.specs.Prelude.{List, ℕ, length}
use Rattle.notes.specs.declared.Note.{Note}
use Rattle.shelf.specs.Outcome.{after_of}
use Rattle.union.specs.Union.{merged, join_of}
use Rattle.booktext.specs.BookText.{meaning, notes_of, read_of, text_of, write_of}

-- the lent list p after a text is read: its notes in front and the rest as it was, or all as it was
unfoldable pub read_into : List ℕ → List Note → List Note
read_into s p = after_of (read_of (length p) s) (notes_of (meaning s)) p

-- the lent buffer p after a book is written
unfoldable pub written_into : List Note → List ℕ → List ℕ
written_into l p = after_of (write_of (length p) l) (text_of l) p

-- the lent list p after two books are joined
unfoldable pub joined_into : List Note → List Note → List Note → List Note
joined_into f s p = after_of (join_of (length p) f s) (merged f s) p
