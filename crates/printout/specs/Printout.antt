-- What the theorems of a print speak of, Ask 8: a refusal, a print of two texts that is a book, that print handed over again. Assumes nothing.
use Rattle.std.specs.Prelude.{ℕ, ◌≡◌, List, length, Ok, Err}
use Rattle.notes.specs.declared.Note.{Note}
use Rattle.shelf.specs.Outcome.{Outcome}
use Rattle.shelf.specs.declared.Refusal.TheVariants.{BadLine, Clash, Full}
use Rattle.union.specs.Union.{merged}
use Rattle.booktext.specs.BookText.{Book, meaning, text_of}
use Rattle.handed.specs.Handed.{outcome_of, union_of, handed_text}

-- A REFUSAL: a bad line, a clash, or more than 256 notes
pub data Refused : Outcome → Type 0 where
  bad : {b k : ℕ} → Refused (Err (BadLine b k))
  clash : {t n : ℕ} → Refused (Err (Clash t n))
  full : Refused (Err Full)

-- what handover prints for two texts
abbrev pub print_of : List ℕ → List ℕ → List ℕ
print_of s t = handed_text (meaning s) (meaning t)

-- HANDED OVER AGAIN: the union of f and g, with either of the two and in either order, is printed as it is
pub record Again (f g : List Note) : Type 0 where
  pub with_first : handed_text (Book (merged f g)) (Book f) ≡ text_of (merged f g)
  pub with_second : handed_text (Book (merged f g)) (Book g) ≡ text_of (merged f g)
  pub first_with : handed_text (Book f) (Book (merged f g)) ≡ text_of (merged f g)
  pub second_with : handed_text (Book g) (Book (merged f g)) ≡ text_of (merged f g)

-- A PRINT THAT IS THE BOOK l: the join is done, and l is the union
pub record PrintedBook (s t : List ℕ) (l : List Note) : Type 0 where
  pub outcome : outcome_of (meaning s) (meaning t) ≡ Ok (length l)
  pub union : union_of (meaning s) (meaning t) ≡ l
