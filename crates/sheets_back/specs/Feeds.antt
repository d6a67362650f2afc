-- A text by its line feeds, and with one byte more: what the theorems of proofs/Early.antt and proofs/Parted.antt are about. Assumes nothing.
use Rattle.std.specs.Prelude.{ℕ, suc, ◌≡◌, cond, List, [], ◌∷◌, ◌++◌, eqb}

-- how many line feeds stand in a text
unfoldable pub feeds : List ℕ → ℕ
feeds [] = 0
feeds (b ∷ l) = cond (eqb b 10) (suc (feeds l)) (feeds l)

abbrev pub snoc : List ℕ → ℕ → List ℕ
snoc v b = v ++ (b ∷ [])

-- a text that begins with w
abbrev pub Begins : List ℕ → List ℕ → Type 0
Begins w l = (r : List ℕ) × (l ≡ w ++ r)
