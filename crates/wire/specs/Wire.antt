-- Bytes: numbers in big-endian form, a part of a list, what a write leaves. Every definition is total. Assumes nothing.
use Rattle.std.specs.Prelude.{ℕ, ◌+◌, ◌-◌, ◌*◌, ◌/◌, ◌%◌, ◌≤◌, ◌<◌, ◌≡◌, List, [], ◌∷◌, ◌++◌, Bool, true, false, cond, ◌&&◌, length, take, drop, get_or, replicate, leb, eqb}

-- the n elements from at on, or nothing where they run past the end
unfoldable pub part : List ℕ → ℕ → ℕ → List ℕ
part s at n = cond (leb at (length s)) (cond (leb n (length s - at)) (take n (drop at s)) []) []

-- d with v written at `at`; what stands before and after stays
unfoldable pub put : List ℕ → ℕ → List ℕ → List ℕ
put d at v = take at d ++ v ++ drop (at + length v) d

-- there is room for n elements at `at`
unfoldable pub room : ℕ → ℕ → ℕ → Bool
room size at n = leb (at + n) size

-- a write without room changes nothing, and the place after it is where it was
unfoldable pub fit : List ℕ → ℕ → List ℕ → List ℕ
fit d at v = cond (room (length d) at (length v)) (put d at v) d

unfoldable pub placed : List ℕ → ℕ → List ℕ → ℕ
placed d at v = cond (room (length d) at (length v)) (at + length v) at

-- THE PROMISE of every public writer: v at `at` of d gave d', and r is the place after it
pub record Wrote (d : List ℕ) (at : ℕ) (v d' : List ℕ) (r : ℕ) : Type 0 where
  pub bytes : d' ≡ fit d at v
  pub next : r ≡ placed d at v

-- what a run of writes leaves where there is room for all of it: the one law that gives the plain form
pub record Ran (d : List ℕ) (at : ℕ) (v d' : List ℕ) (r : ℕ) : Type 0 where
  pub bytes : d' ≡ put d at v
  pub next : r ≡ at + length v

abbrev pub Runs : List ℕ → ℕ → List ℕ → List ℕ → ℕ → Type 0
Runs d at v d' r = at + length v ≤ length d → Ran d at v d' r

-- WRITES one after the other, each where there is room: what the buffer then holds, and the place after them
pub record Page : Type 0 where
  pub bytes : List ℕ
  pub at : ℕ

unfoldable pub page : List ℕ → ℕ → List (List ℕ) → Page
page d at [] = record { bytes = d; at = at }
page d at (v ∷ vs) = page (fit d at v) (placed d at v) vs

-- the promise of a writer of several parts: vs from `at` of d on gave d', and r is the place after them
pub record Wrotes (d : List ℕ) (at : ℕ) (vs : List (List ℕ)) (d' : List ℕ) (r : ℕ) : Type 0 where
  pub bytes : d' ≡ (page d at vs).bytes
  pub next : r ≡ (page d at vs).at

-- parts as one
unfoldable pub joined : List (List ℕ) → List ℕ
joined [] = []
joined (v ∷ vs) = v ++ joined vs

-- n elements that begin with x, and are zero after it (all zero where x is longer)
abbrev pub pad : ℕ → List ℕ → List ℕ
pad n x = fit (replicate n 0) 0 x

abbrev pub num16 : List ℕ → ℕ → ℕ
num16 l at = get_or l at 0 * 256 + get_or l (at + 1) 0

abbrev pub num32 : List ℕ → ℕ → ℕ
num32 l at = get_or l at 0 * 16777216 + get_or l (at + 1) 0 * 65536 + get_or l (at + 2) 0 * 256 + get_or l (at + 3) 0

abbrev pub be1 : ℕ → List ℕ
be1 n = n ∷ []

abbrev pub be2 : ℕ → List ℕ
be2 n = n / 256 ∷ n % 256 ∷ []

abbrev pub be4 : ℕ → List ℕ
be4 n = n / 16777216 ∷ n / 65536 % 256 ∷ n / 256 % 256 ∷ n % 256 ∷ []

unfoldable pub alike : List ℕ → List ℕ → Bool
alike [] [] = true
alike [] (y ∷ ys) = false
alike (x ∷ xs) [] = false
alike (x ∷ xs) (y ∷ ys) = eqb x y && alike xs ys

-- unused room: every element is zero
unfoldable pub all_zero : List ℕ → Bool
all_zero [] = true
all_zero (x ∷ xs) = eqb x 0 && all_zero xs

-- every element is a byte
abbrev pub Bytes : List ℕ → Type 0
Bytes l = (i : ℕ) → get_or l i 0 < 256
