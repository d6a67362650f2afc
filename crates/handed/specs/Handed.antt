-- WHAT HANDOVER PRINTS for two texts, Ask 8: the joined book, or one line that no book begins with. Every definition is total. Assumes nothing.
use Rattle.std.specs.Prelude.{List, [], ◌∷◌, ℕ, Ok, Err}
use Rattle.wire.specs.Wire.{joined}
use Rattle.text.specs.Text.{ascii, decimal_of}
use Rattle.notes.specs.declared.Note.{Note}
use Rattle.shelf.specs.declared.Refusal.TheVariants.{BadLine, Clash, Full, NoRoom}
use Rattle.shelf.specs.Shelf.{most}
use Rattle.shelf.specs.Outcome.{Outcome}
use Rattle.noteline.specs.NoteLine.{tab, feed}
use Rattle.union.specs.Union.{merged, join_of}
use Rattle.booktext.specs.BookText.{Meaning, Book, BadAt, book_parts}

-- THE OUTCOME for two texts: a bad line, "the first book's before the second's", else that of the join; and the notes of both
unfoldable pub outcome_of : Meaning → Meaning → Outcome
outcome_of (BadAt k) m = Err (BadLine 1 k)
outcome_of (Book f) (BadAt k) = Err (BadLine 2 k)
outcome_of (Book f) (Book s) = join_of most f s

unfoldable pub union_of : Meaning → Meaning → List Note
union_of (BadAt k) m = []
union_of (Book f) (BadAt k) = []
union_of (Book f) (Book s) = merged f s

-- a word and two numbers
abbrev pub told : List ℕ → ℕ → ℕ → List (List ℕ)
told word a b = word ∷ tab ∷ decimal_of a ∷ tab ∷ decimal_of b ∷ feed ∷ []

-- THE PRINT: the lines of the book, or one line: no field of a book begins with a letter
unfoldable pub printed : Outcome → List Note → List (List ℕ)
printed (Ok k) l = book_parts l
printed (Err (BadLine b n)) l = told (ascii "line") b n
printed (Err (Clash t n)) l = told (ascii "clash") t n
printed (Err Full) l = ascii "full" ∷ feed ∷ []
printed (Err NoRoom) l = []

unfoldable pub handed_parts : Meaning → Meaning → List (List ℕ)
handed_parts m n = printed (outcome_of m n) (union_of m n)

-- as one text
unfoldable pub handed_text : Meaning → Meaning → List ℕ
handed_text m n = joined (handed_parts m n)
