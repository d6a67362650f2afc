-- Text in lines, each ended by a line feed, and the parts of a line, parted by tabs. Every definition is total. Assumes nothing.
use Rattle.std.specs.Prelude.{ℕ, zero, suc, ◌+◌, Bool, cond, List, [], ◌∷◌, length, take, drop, ltb, eqb}

-- how many elements stand before the first b, all where there is none
unfoldable pub length_to : ℕ → List ℕ → ℕ
length_to b [] = 0
length_to b (x ∷ s) = cond (eqb x b) 0 (suc (length_to b s))

-- what stands before the first b, and what stands after it
unfoldable pub head_to : ℕ → List ℕ → List ℕ
head_to b s = take (length_to b s) s

unfoldable pub tail_after : ℕ → List ℕ → List ℕ
tail_after b s = drop (length_to b s + 1) s

-- LINES. Where the next line starts, after the one that starts at `at`; past the end there is none
unfoldable pub next_line : List ℕ → ℕ → ℕ
next_line s at = cond (ltb at (length s)) (at + length_to 10 (drop at s) + 1) at

-- where line k starts; lines are counted from 1
unfoldable pub start_of : ℕ → List ℕ → ℕ
start_of zero s = 0
start_of (suc zero) s = 0
start_of (suc (suc k)) s = next_line s (start_of (suc k) s)

-- the text from line k on, and line k without its line feed
unfoldable pub from_line : ℕ → List ℕ → List ℕ
from_line k s = drop (start_of k s) s

unfoldable pub line_of : ℕ → List ℕ → List ℕ
line_of k s = head_to 10 (from_line k s)

-- the line that the text begins with has its line feed
unfoldable pub ended : List ℕ → Bool
ended s = ltb (length (head_to 10 s)) (length s)

-- ALL LINES of a text, each with its line feed; the last may have none
unfoldable pub before : ℕ → List (List ℕ) → List (List ℕ)
before b [] = (b ∷ []) ∷ []
before b (l ∷ ls) = (b ∷ l) ∷ ls

unfoldable pub lines_of : List ℕ → List (List ℕ)
lines_of [] = []
lines_of (b ∷ s) = cond (eqb b 10) ((b ∷ []) ∷ lines_of s) (before b (lines_of s))
