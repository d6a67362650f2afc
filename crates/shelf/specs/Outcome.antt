-- THE OUTCOME of what is done with books, Ask 8, and the same in numbers. Assumes nothing.
use Rattle.std.specs.Prelude.{List, ◌++◌, ℕ, length, drop, Result, Ok, Err}
use Rattle.shelf.specs.declared.Numbers.{Numbers}
use Rattle.shelf.specs.declared.Refusal.{Refusal}
use Rattle.shelf.specs.declared.Refusal.TheVariants.{BadLine, Clash, Full, NoRoom}

-- how many notes or bytes, or why none
abbrev pub Outcome : Type 0
Outcome = Result ℕ Refusal

-- 0 done: how many; 1 bad line: which book, and its line; 2 clash: which tablet, and its number; 3 more than 256 notes; 99 no room
abbrev pub numbers_of : Outcome → Numbers
numbers_of (Ok k) = record { number = 0; which = 0; at = 0; count = k }
numbers_of (Err (BadLine b l)) = record { number = 1; which = b; at = l; count = 0 }
numbers_of (Err (Clash t n)) = record { number = 2; which = t; at = n; count = 0 }
numbers_of (Err Full) = record { number = 3; which = 0; at = 0; count = 0 }
numbers_of (Err NoRoom) = record { number = 99; which = 0; at = 0; count = 0 }

-- what a lent list or buffer p holds then: l in front and the rest as it was, or all as it was
unfoldable pub after_of : {X : Type 0} → Outcome → List X → List X → List X
after_of (Ok k) l p = l ++ drop (length l) p
after_of (Err r) l p = p
