-- A BOOK AS TEXT, Ask 8: what a text means, and the text of a book. Every definition is total. Assumes nothing.
use Rattle.std.specs.Prelude.{cond, List, [], ◌∷◌, ◌++◌, ℕ, zero, suc, ◌+◌, ltb, length, Option, Some, None, Ok, Err}
use Rattle.wire.specs.Wire.{joined}
use Rattle.text.specs.Lines.{tail_after}
use Rattle.notes.specs.declared.Note.{Note}
use Rattle.notes.specs.Notes.{blank, follows}
use Rattle.shelf.specs.declared.Refusal.TheVariants.{BadLine, NoRoom}
use Rattle.shelf.specs.Shelf.{most, first_bad}
use Rattle.shelf.specs.Outcome.{Outcome}
use Rattle.noteline.specs.NoteLine.{line_parts, note_at}

-- THE MEANING of a text: a list of notes, or its first bad line
pub data Meaning : Type 0 where
  Book : List Note → Meaning
  BadAt : ℕ → Meaning

-- a note in front of what the lines after it mean
unfoldable pub also : Note → Meaning → Meaning
also x (Book l) = Book (x ∷ l)
also x (BadAt k) = BadAt k

-- a note that is there and may stand right after y
unfoldable pub standing : Note → Option Note → Option Note
standing y None = None
standing y (Some x) = cond (follows y x) (Some x) None

-- what is said of such a note, or that line k is bad
unfoldable pub or_bad : ℕ → Option Note → (Note → Meaning) → Meaning
or_bad k None f = BadAt k
or_bad k (Some x) f = f x

-- the lines of a text, where y is the note before them, room for n notes is left, and the first is line k: it is bad where it is no good note, does not rise
-- above the one before it, or there is no room for it ("line 257 is one")
unfoldable pub notes_from : ℕ → ℕ → Note → List ℕ → Meaning
notes_from zero k y [] = Book []
notes_from zero k y (b ∷ s) = BadAt k
notes_from (suc n) k y [] = Book []
notes_from (suc n) k y (b ∷ s) = or_bad k (standing y (note_at (b ∷ s))) (λ x. also x (notes_from n (k + 1) x (tail_after 10 (b ∷ s))))

-- lines are counted from 1; a blank, which is below every good note, stands before the first
unfoldable pub meaning : List ℕ → Meaning
meaning s = notes_from most 1 blank s

-- THE TEXT of notes
unfoldable pub book_parts : List Note → List (List ℕ)
book_parts [] = []
book_parts (x ∷ xs) = line_parts x ++ book_parts xs

unfoldable pub text_of : List Note → List ℕ
text_of l = joined (book_parts l)

-- READ: the notes, and the outcome
unfoldable pub notes_of : Meaning → List Note
notes_of (Book l) = l
notes_of (BadAt k) = []

-- where the text is that of book b
unfoldable pub read_outcome : ℕ → Meaning → Outcome
read_outcome b (Book l) = Ok (length l)
read_outcome b (BadAt k) = Err (BadLine b k)

-- "a list for notes with fewer than 256 places", then the bad line
unfoldable pub read_as_of : ℕ → ℕ → List ℕ → Outcome
read_as_of b places s = cond (ltb places most) (Err NoRoom) (read_outcome b (meaning s))

unfoldable pub read_of : ℕ → List ℕ → Outcome
read_of places s = read_as_of 1 places s

-- WRITTEN: "a buffer for text below 20,480 bytes", then the first bad record
abbrev pub text_room : ℕ
text_room = 20480

unfoldable pub written_as : Option ℕ → ℕ → Outcome
written_as None bytes = Ok bytes
written_as (Some bad) bytes = Err (BadLine 1 bad)

unfoldable pub write_of : ℕ → List Note → Outcome
write_of size l = cond (ltb size text_room) (Err NoRoom) (written_as (first_bad l) (length (text_of l)))
