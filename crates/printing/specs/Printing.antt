-- THE LINES THAT A PLAY PRINTS, Ask 4: each as the parts that it is made of, and as text. Assumes nothing.
use Rattle.std.specs.Prelude.{ℕ, List, [], ◌∷◌, Bool, cond, eqb}
use Rattle.wire.specs.Wire.{joined}
use Rattle.text.specs.Text.{ascii, hex_of, decimal_of}

abbrev pub tab : List ℕ
tab = 9 ∷ []

abbrev pub feed : List ℕ
feed = 10 ∷ []

-- a response; a refusal by number has none, and its number is told
unfoldable pub told_as : ℕ → List ℕ → List ℕ
told_as number v = cond (eqb number 0) (hex_of v) (decimal_of number)

unfoldable pub sameness : Bool → List ℕ
sameness b = cond b (ascii "same") (ascii "other")

-- of a tap: its number, `same` or `other`, the response
abbrev pub tap_parts : ℕ → Bool → List ℕ → List (List ℕ)
tap_parts n same v = decimal_of n ∷ tab ∷ sameness same ∷ tab ∷ v ∷ feed ∷ []

unfoldable pub tap_text : ℕ → Bool → List ℕ → List ℕ
tap_text n same v = joined (tap_parts n same v)

-- of the sums: Remaining, Signed_Hashes, the live wallet's new SIGNs, all new hashes
abbrev pub sums_parts : ℕ → ℕ → ℕ → ℕ → List (List ℕ)
sums_parts a b c d = decimal_of a ∷ tab ∷ decimal_of b ∷ tab ∷ decimal_of c ∷ tab ∷ decimal_of d ∷ feed ∷ []

unfoldable pub sums_text : ℕ → ℕ → ℕ → ℕ → List ℕ
sums_text a b c d = joined (sums_parts a b c d)

-- of a line that ends the play
abbrev pub bad_parts : ℕ → List (List ℕ)
bad_parts n = ascii "line" ∷ tab ∷ decimal_of n ∷ feed ∷ []

unfoldable pub bad_text : ℕ → List ℕ
bad_text n = joined (bad_parts n)
