-- What the theorems of proofs/ speak of: a note whose values fit their places, a list of them, and the two faces of a book. Assumes nothing.
use Rattle.std.specs.Prelude.{ℕ, ◌+◌, ◌<◌, ◌≡◌, true, List, [], ◌∷◌, ◌++◌, length, None}
use Rattle.wire.specs.Wire.{Bytes}
use Rattle.notes.specs.declared.Note.{Note}
use Rattle.notes.specs.Notes.{blank}
use Rattle.shelf.specs.Shelf.{is_book}
use Rattle.noteline.specs.NoteLine.{note_at}
use Rattle.booktext.specs.BookText.{Book, standing, meaning, text_of}

-- what the places of a note in memory hold, whatever is in them
pub record Ranges (x : Note) : Type 0 where
  pub tablet : x.tablet < 256
  pub number : x.number < 65536
  pub hours : x.hours < 4294967296
  pub len : x.len < 256
  pub text : length x.text ≡ 60

-- each note of a list
unfoldable pub Each : List Note → Type 0
Each [] = Unit {0}
Each (x ∷ l) = Ranges x × Each l

-- and that the text of each is bytes
unfoldable pub EachBytes : List Note → Type 0
EachBytes [] = Unit {0}
EachBytes (x ∷ l) = Bytes x.text × EachBytes l

-- A BOOK AND ITS TEXT are two faces of one thing: the text of a book means that book, and whatever means a book is the text of it, byte for byte
pub record TwoFaces : Type 0 where
  pub back : (l : List Note) → is_book l ≡ true → Each l → meaning (text_of l) ≡ Book l
  pub spelled : (s : List ℕ) (l : List Note) → meaning s ≡ Book l → s ≡ text_of l
  pub book : (s : List ℕ) (l : List Note) → meaning s ≡ Book l → is_book l ≡ true
  pub ranges : (s : List ℕ) (l : List Note) → meaning s ≡ Book l → Each l

-- the note before what comes next: the last of a list, or y where it has none
unfoldable pub last_of : Note → List Note → Note
last_of y [] = y
last_of y (x ∷ l) = last_of x l

-- LINE k IS THE FIRST BAD ONE: before it stands the text of a book, of k - 1 notes; there is a line; and it is no good note, does not rise above the last, or
-- 256 notes are there already
pub record FirstBadLine (s : List ℕ) (k : ℕ) : Type 0 where
  pub notes : List Note
  pub rest : List ℕ
  pub text : s ≡ text_of notes ++ rest
  pub book : is_book notes ≡ true
  pub ranges : Each notes
  pub line : k ≡ length notes + 1
  pub some : 0 < length rest
  pub bad : length notes < 256 → standing (last_of blank notes) (note_at rest) ≡ None
