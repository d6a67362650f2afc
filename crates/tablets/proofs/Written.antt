-- THE CARD THAT AN E0 LEAVES: what is sent stands in it, all else is as it was, and nothing is held or counted. Two laws over any tag: two values of which
-- one is absent may be stored in either order, and to store one again changes nothing. Assumes nothing.
use Prim.Native.Nat.{ℕ}
use mathlib.Core.Path.{◌≡◌, refl}
use mathlib.Core.Bool.{Bool, true, false, cond, ◌&&◌}
use Rattle.wire.specs.Wire.{num32}
use Rattle.fields.specs.Fields.{View, has, val}
use Rattle.card.specs.declared.Block.{Block}
use Rattle.card.specs.declared.Card.{Card}
use Rattle.card.specs.Values.{held_block, no_pending, faced}
use Rattle.manual.specs.Tags.{UserData, UserProtectedData, UserCounter, UserProtectedCounter}
use Rattle.manual.specs.Storage.{stored_face}
use Rattle.manual.specs.Settle.{waiting}
use Rattle.history.specs.Facts.{is_of}
use Rattle.history.proofs.Choice.{clash}
use Rattle.tablets.specs.Tablets.{user_tags, with_user_data}

-- WHAT IS STORED under a tag: what the view has there, read by g, or the old value z
abbrev pub kept : {A : Type 0} → ℕ → (View → A) → View → A → A
kept t g v z = cond (has t v) (g v) z

-- THE TWO LAWS
either_way :
    {A : Type 0} (t : ℕ) (g : View → A) (v w : View) (z : A) → (has t v && has t w) ≡ false → kept t g w (kept t g v z) ≡ kept t g v (kept t g w z)
either_way t g v w z = go (has t v) (has t w)
  where
    go : (a b : Bool) → (a && b) ≡ false → cond b (g w) (cond a (g v) z) ≡ cond a (g v) (cond b (g w) z)
    go true true e = clash refl e
    go true false e = refl
    go false b e = refl

once_more : {A : Type 0} (t : ℕ) (g : View → A) (v : View) (z : A) → kept t g v (kept t g v z) ≡ kept t g v z
once_more t g v z = go (has t v)
  where
    go : (a : Bool) → cond a (g v) (cond a (g v) z) ≡ cond a (g v) z
    go true = refl
    go false = refl

-- a block, and a number
abbrev pub block_in : ℕ → View → Block
block_in t v = held_block (val t v)

abbrev pub number_in : ℕ → View → ℕ
number_in t v = num32 (val t v) 0

-- the card after an E0 with this view
abbrev pub wrote : View → Card → Card
wrote v c = waiting no_pending (faced (stored_face c.face v) c)

-- none of 2A to 2D is in both views
abbrev pub Parted : View → View → Type 0
Parted v w = (t : ℕ) → is_of t user_tags ≡ true → (has t v && has t w) ≡ false

module _ (c : Card) where
  abbrev x : Block
  x = c.face.held.user

  abbrev y : Block
  y = c.face.held.protected

  abbrev n : ℕ
  n = c.face.front.counters.user

  abbrev k : ℕ
  k = c.face.front.counters.protected

  pub either : (v w : View) → Parted v w → wrote w (wrote v c) ≡ wrote v (wrote w c)
  either v w e =
      λ j. with_user_data
      (either_way UserData (block_in UserData) v w x (e UserData refl) j)
      (either_way UserProtectedData (block_in UserProtectedData) v w y (e UserProtectedData refl) j)
      (either_way UserCounter (number_in UserCounter) v w n (e UserCounter refl) j)
      (either_way UserProtectedCounter (number_in UserProtectedCounter) v w k (e UserProtectedCounter refl) j) c

  pub again : (v : View) → wrote v (wrote v c) ≡ wrote v c
  again v =
      λ j. with_user_data
      (once_more UserData (block_in UserData) v x j)
      (once_more UserProtectedData (block_in UserProtectedData) v y j)
      (once_more UserCounter (number_in UserCounter) v n j)
      (once_more UserProtectedCounter (number_in UserProtectedCounter) v k j) c
