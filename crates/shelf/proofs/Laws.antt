-- What the callers of `shelf` cite, and its own proofs. Assumes nothing.
use Rattle.std.proofs.Common.{◌≡◌, refl, ◌∙◌, ℕ, zero, suc, ◌+◌, ◌-◌, ◌<◌, ◌≤◌, arith, add-one, cond, Bool, true, false, List, [], ◌∷◌, length, get_or, drop, drop-cons, Option, Some, None}
use Rattle.std.specs.Option.{is_none}
use lib.ListN.{drop_of_length-le}
use Rattle.notes.specs.declared.Note.{Note}
use Rattle.notes.specs.Notes.{blank, follows}
use Rattle.shelf.specs.Shelf.{bad_from, first_bad, is_book}
use Rattle.shelf.specs.contracts.NumbersFromOutcome.from as numbers
use Rattle.wire.specs.OneOutcome.{OneOutcome, plain}
use Rattle.wire.proofs.Unique.{one_equal}

-- what a place past the end of a list of notes is said to have
abbrev pub past : Note
past = record { tablet = 0; number = 0; hours = 0; len = 0; text = [] }

-- THE FIRST BAD RECORD, from the place i on
module _ (l : List Note) (i : ℕ) (y : Note) where
  abbrev x : Note
  x = get_or l i past

  abbrev left : ℕ → Note → Option ℕ
  left j z = bad_from (256 - j) (j + 1) z (drop j l)

  apart : i < length l → i < 256 → left i y ≡ cond (follows y x) (left (i + 1) x) (Some (i + 1))
  unfolding bad_from
  apart h g =
      let r : 256 - i ≡ suc (256 - (i + 1)) = omega arith in
      rw (drop-cons l i past, r, add-one)

  pub bad_here : i < length l → i < 256 → follows y x ≡ false → left i y ≡ Some (i + 1)
  bad_here h g e = apart h g ∙ rw e

  pub bad_on : i < length l → i < 256 → follows y x ≡ true → left i y ≡ left (i + 1) x
  bad_on h g e = apart h g ∙ rw e

  pub bad_full : i < length l → i ≡ 256 → left i y ≡ Some (i + 1)
  unfolding bad_from
  bad_full h g = let r : 256 - i ≡ 0 = omega arith in rw (drop-cons l i past, r)

  pub bad_none : length l ≤ i → left i y ≡ None
  unfolding bad_from
  bad_none h = rw (drop_of_length-le l h)

-- A LIST WITHOUT ONE has at most 256 notes
room_left : (n k : ℕ) (y : Note) (l : List Note) → bad_from n k y l ≡ None → length l ≤ n
unfolding bad_from
room_left n k y [] e = omega arith
room_left zero k y (x ∷ l) e = cc
room_left (suc n) k y (x ∷ l) e = go (follows y x) e (room_left n (k + 1) x l)
  where
    go : (t : Bool) → cond t (bad_from n (k + 1) x l) (Some k) ≡ None → (bad_from n (k + 1) x l ≡ None → length l ≤ n) → suc (length l) ≤ suc n
    go true g r = let m = r g in omega arith
    go false g r = cc

pub book_fits : (l : List Note) → first_bad l ≡ None → length l ≤ 256
unfolding first_bad
book_fits l e = room_left 256 1 blank l e

-- A BOOK is a list without one
pub book_none : (l : List Note) → is_book l ≡ true → first_bad l ≡ None
unfolding is_book
book_none l e = go (first_bad l) e
  where
    go : (r : Option ℕ) → is_none r ≡ true → r ≡ None
    go None d = refl
    go (Some k) d = cc

pub none_book : (l : List Note) → first_bad l ≡ None → is_book l ≡ true
unfolding is_book
none_book l e = rw e

-- NO TWO ANSWERS MEET what an outcome in numbers is said to be
pub numbers_one : OneOutcome numbers.ended (λ M 𝓤. numbers.clauses {𝓤 = 𝓤})
numbers_one M 𝓤 𝓛 m r κs a g z z' ws ws' = plain 𝓤 (λ p q. one_equal p q)
