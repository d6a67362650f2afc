-- TWO BOOKS JOINED, Ask 8: side by side, the lowest clash, the union, the outcome. Every definition is total. Assumes nothing.
use Rattle.std.specs.Prelude.{Bool, false, cond, not, List, [], ◌∷◌, ℕ, ltb, length, Option, Some, None, Ok, Err}
use Rattle.std.specs.declared.cmp.Ordering.{Ordering}
use Rattle.std.specs.declared.cmp.Ordering.TheVariants.{Less, Equal, Greater}
use Rattle.notes.specs.declared.Note.{Note}
use Rattle.notes.specs.Notes.{order_of, alike_of}
use Rattle.shelf.specs.declared.Refusal.TheVariants.{BadLine, Clash, Full, NoRoom}
use Rattle.shelf.specs.Shelf.{most, first_bad}
use Rattle.shelf.specs.Outcome.{Outcome}
-- a note that the first book alone has, or the second alone, or one of each with the same tablet and number
pub use Rattle.union.specs.declared.Pair.{Pair}
pub use Rattle.union.specs.declared.Pair.TheVariants.{First, Second, Both}

-- by the order of two notes
unfoldable pub by : {X : Type 0} → Ordering → X → X → X → X
by Less x y z = x
by Equal x y z = y
by Greater x y z = z

-- SIDE BY SIDE, by tablet and number
unfoldable pub seconds : List Note → List Pair
seconds [] = []
seconds (y ∷ ys) = Second y ∷ seconds ys

unfoldable pub besides : Note → (List Note → List Pair) → List Note → List Pair
besides x rest [] = First x ∷ rest []
besides x rest (y ∷ ys) = by (order_of x y) (First x ∷ rest (y ∷ ys)) (Both x y ∷ rest ys) (Second y ∷ besides x rest ys)

unfoldable pub aside : List Note → List Note → List Pair
aside [] = seconds
aside (x ∷ xs) = besides x (aside xs)

-- THE UNION, "each note of both once": a note of each pair
unfoldable pub note_in : Pair → Note
note_in (First x) = x
note_in (Second y) = y
note_in (Both x y) = x

unfoldable pub notes_in : List Pair → List Note
notes_in [] = []
notes_in (p ∷ ps) = note_in p ∷ notes_in ps

unfoldable pub merged : List Note → List Note → List Note
merged f s = notes_in (aside f s)

-- A CLASH: "same tablet and number with other content", and the first of them
unfoldable pub clashes : Pair → Bool
clashes (First x) = false
clashes (Second y) = false
clashes (Both x y) = not (alike_of x y)

-- its tablet and number
unfoldable pub lowest : List Pair → Option (ℕ × ℕ)
lowest [] = None
lowest (p ∷ ps) = cond (clashes p) (Some ((note_in p).tablet, (note_in p).number)) (lowest ps)

-- THE OUTCOME, "Refusals, in this order": no room in the lent list, a bad line of the first book, of the second, a clash, more than 256 notes
unfoldable pub fitting_of : ℕ → Outcome
fitting_of total = cond (ltb most total) (Err Full) (Ok total)

unfoldable pub matched_of : Option (ℕ × ℕ) → ℕ → Outcome
matched_of None total = fitting_of total
matched_of (Some c) total = Err (Clash c.0 c.1)

-- a bad line of the book b, or what is said next
unfoldable pub unless_bad : ℕ → Option ℕ → Outcome → Outcome
unless_bad b None next = next
unless_bad b (Some k) next = Err (BadLine b k)

unfoldable pub decided : ℕ → Option ℕ → Option ℕ → Option (ℕ × ℕ) → ℕ → Outcome
decided places first second found total =
    cond (ltb places most) (Err NoRoom)
    (unless_bad 1 first
    (unless_bad 2 second
    (matched_of found total)))

unfoldable pub join_of : ℕ → List Note → List Note → Outcome
join_of places f s = decided places (first_bad f) (first_bad s) (lowest (aside f s)) (length (merged f s))
