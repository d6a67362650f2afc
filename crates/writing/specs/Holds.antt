-- A buffer that holds the image of a card at its front, and how it turns into one that holds another card's. Assumes nothing.
use Rattle.std.specs.Prelude.{ℕ, ◌≡◌, List, ◌++◌}
use Rattle.card.specs.declared.Card.{Card}
use Rattle.card.specs.Image.{encode}
use Rattle.card.specs.Shape.{Shape}

pub record Holds (c : Card) (rest d : List ℕ) : Type 0 where
  pub shape : Shape c
  pub bytes : d ≡ encode c ++ rest

-- what follows the image stays
abbrev pub Turned : Card → Card → List ℕ → List ℕ → Type 0
Turned c c' d d' = (rest : List ℕ) → Holds c rest d → Holds c' rest d'
