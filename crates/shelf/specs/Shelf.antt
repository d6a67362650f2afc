-- A BOOK of notes, Ask 8. Every definition is total. Assumes nothing.
use Rattle.std.specs.Prelude.{Bool, cond, List, [], ◌∷◌, ℕ, zero, suc, ◌+◌, Option, Some, None}
use Rattle.std.specs.Option.{is_none}
use Rattle.notes.specs.declared.Note.{Note}
use Rattle.notes.specs.Notes.{blank, follows}

-- "at most 256 notes"
abbrev pub most : ℕ
most = 256

-- THE FIRST BAD RECORD of a list, where y stands before it, room for n is left, and its first is record k: it is not good, does not rise above the one
-- before it, or there is no room for it
unfoldable pub bad_from : ℕ → ℕ → Note → List Note → Option ℕ
bad_from n k y [] = None
bad_from zero k y (x ∷ xs) = Some k
bad_from (suc n) k y (x ∷ xs) = cond (follows y x) (bad_from n (k + 1) x xs) (Some k)

-- counted from 1; a blank, which is below every good note, stands before the first
unfoldable pub first_bad : List Note → Option ℕ
first_bad l = bad_from most 1 blank l

-- "A book is [..] at most 256 notes, [..] strictly rising by tablet, then number"
unfoldable pub is_book : List Note → Bool
is_book l = is_none (first_bad l)
