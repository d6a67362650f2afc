-- The drill sheet's payloads, 01 "Drill sheet", rows 1 to 4, as one table: each row is the run of fields that the definitions
-- make of the bytes. Assumes nothing.
use Rattle.std.specs.Prelude.{ℕ, ◌≡◌, refl, [], ◌∷◌, true, false}
use Rattle.fields.specs.Fields.{Item, ended, broken, one, rest_from, run_n, step_at, field_at, well_formed}

-- a field with the tag, whose value starts at b and has n bytes, and which ends at x
abbrev pub item : ℕ → ℕ → ℕ → ℕ → Item
item t b n x = record { tag = t; start = b; len = n; next = x }

pub drill_fields :
    -- (1) `1000` is a field of length 0
    (rest_from (0x10 ∷ 0x00 ∷ []) 0 ≡ one (item 0x10 2 0 2) ended)
    -- (2) `10FF0000` the same
    × (rest_from (0x10 ∷ 0xFF ∷ 0x00 ∷ 0x00 ∷ []) 0 ≡ one (item 0x10 4 0 4) ended)
    -- (3) `10FF` malformed
    × (rest_from (0x10 ∷ 0xFF ∷ []) 0 ≡ broken) × (well_formed (0x10 ∷ 0xFF ∷ []) ≡ false)
    -- (4) the empty payload has no field, and is well formed
    × (rest_from [] 0 ≡ ended) × (well_formed [] ≡ true)
unfolding well_formed rest_from run_n step_at field_at
drill_fields = (refl, refl, refl, refl, refl, refl)
