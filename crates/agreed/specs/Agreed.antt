-- What the theorems of joined books speak of, Ask 8: a note of a book, what a book is, what two books have in other words, their union. Assumes nothing.
use Rattle.std.specs.Prelude.{◌≡◌, true, List, [], ◌∷◌, ◌⊎◌, ℕ, ◌≤◌, length, Some, Ok}
use Rattle.notes.specs.declared.Note.{Note}
use Rattle.std.specs.declared.cmp.Ordering.TheVariants.{Less}
use Rattle.notes.specs.Notes.{good_of, order_of}
use Rattle.shelf.specs.Shelf.{first_bad, is_book}
use Rattle.union.specs.Union.{merged, join_of}

-- A NOTE OF A LIST
pub data In (x : Note) : List Note → Type 0 where
  here : {y : Note} {l : List Note} → x ≡ y → In x (y ∷ l)
  there : {y : Note} {l : List Note} → In x l → In x (y ∷ l)

-- STRICTLY RISING: each note comes before every later one
abbrev pub Below : Note → List Note → Type 0
Below x l = (z : Note) → In z l → order_of x z ≡ Less

abbrev pub Rising : List Note → Type 0
Rising [] = Unit {0}
Rising (x ∷ l) = Below x l × Rising l

-- A BOOK: at most 256 notes, each good, strictly rising
pub record ABook (l : List Note) : Type 0 where
  pub few : length l ≤ 256
  pub good : (x : Note) → In x l → good_of x ≡ true
  pub rising : Rising l

-- EACH NOTE OF BOTH ONCE: l is a book, which has each note of f and each of s, and no other
pub record Agreed (f s l : List Note) : Type 0 where
  pub book : is_book l ≡ true
  pub first : (x : Note) → In x f → In x l
  pub second : (x : Note) → In x s → In x l
  pub only : (x : Note) → In x l → In x f ⊎ In x s

-- OTHER CONTENT: x of f and y of s have the same tablet and number, and are not the same
pub record Clashing (f s : List Note) (x y : Note) : Type 0 where
  pub first : In x f
  pub second : In y s
  pub tablet : x.tablet ≡ y.tablet
  pub number : x.number ≡ y.number
  pub other : x ≡ y → ⊥

-- the tablet and number of the lowest: two notes clash there, and no clash of f and s is below them
pub record Lowest (f s : List Note) (t n : ℕ) : Type 0 where
  pub x : Note
  pub y : Note
  pub clash : Clashing f s x y
  pub tablet : x.tablet ≡ t
  pub number : x.number ≡ n
  pub lowest : (a b : Note) → Clashing f s a b → order_of a x ≡ Less → ⊥

-- WHERE NO REFUSAL COMES BEFORE: there is room, and both are books
pub record Books (places : ℕ) (f s : List Note) : Type 0 where
  pub room : 256 ≤ places
  pub first : is_book f ≡ true
  pub second : is_book s ≡ true

abbrev pub NoClash : List Note → List Note → Type 0
NoClash f s = (x y : Note) → Clashing f s x y → ⊥

-- A BAD LINE k of the book b: the first bad record of the first book, or of the second where the first is a book
abbrev pub BadRecord : List Note → List Note → ℕ → ℕ → Type 0
BadRecord f s b k = ((b ≡ 1) × (first_bad f ≡ Some k)) ⊎ ((b ≡ 2) × (is_book f ≡ true) × (first_bad s ≡ Some k))

-- ANY GROUPING: books joined two by two, in any order
pub data Joins : Type 0 where
  one : List Note → Joins
  join : Joins → Joins → Joins

unfoldable pub all : Joins → List Note
all (one l) = l
all (join a b) = merged (all a) (all b)

-- each is a book, and none of the joins refuses
abbrev pub Agreeing : ℕ → Joins → Type 0
Agreeing p (one l) = is_book l ≡ true
Agreeing p (join a b) = Agreeing p a × Agreeing p b × ((n : ℕ) × (join_of p (all a) (all b) ≡ Ok n))

-- l is one of the books
pub data Of (l : List Note) : Joins → Type 0 where
  itself : {k : List Note} → l ≡ k → Of l (one k)
  left : {a b : Joins} → Of l a → Of l (join a b)
  right : {a b : Joins} → Of l b → Of l (join a b)
