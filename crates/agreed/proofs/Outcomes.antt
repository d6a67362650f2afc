-- WHAT AN OUTCOME SAYS, Ask 8: which of the refusals came first, and that none before it did. Assumes nothing.
use Rattle.std.proofs.Common.{◌≡◌, refl, sym, ◌∙◌, subst, ℕ, ◌≤◌, ◌<◌, arith, List, length, lt-ltb, le-ltb, Option, Some, None, Ok, Err}
use native.Mathlib.Decide.{dec_lt}
use Rattle.notes.specs.declared.Note.{Note}
use Rattle.shelf.specs.declared.Refusal.TheVariants.{BadLine, Clash, Full, NoRoom}
use Rattle.shelf.specs.Shelf.{first_bad}
use Rattle.shelf.specs.Outcome.{Outcome}
use Rattle.union.specs.Union.{aside, merged, lowest, fitting_of, matched_of, unless_bad, decided, join_of}

-- the six ways, each with what was not so before it
pub data Way (places : ℕ) (first second : Option ℕ) (found : Option (ℕ × ℕ)) (total : ℕ) : Outcome → Type 0 where
  no_room : places < 256 → Way places first second found total (Err NoRoom)
  bad_one : {k : ℕ} → 256 ≤ places → first ≡ Some k → Way places first second found total (Err (BadLine 1 k))
  bad_two : {k : ℕ} → 256 ≤ places → first ≡ None → second ≡ Some k → Way places first second found total (Err (BadLine 2 k))
  clash : {t n : ℕ} → 256 ≤ places → first ≡ None → second ≡ None → found ≡ Some (t, n) → Way places first second found total (Err (Clash t n))
  full : 256 ≤ places → first ≡ None → second ≡ None → found ≡ None → 256 < total → Way places first second found total (Err Full)
  done : 256 ≤ places → first ≡ None → second ≡ None → found ≡ None → total ≤ 256 → Way places first second found total (Ok total)

-- each way is the outcome
pub way_is :
    (places : ℕ) (first second : Option ℕ) (found : Option (ℕ × ℕ)) (total : ℕ) (o : Outcome) → Way places first second found total o
    → decided places first second found total ≡ o
unfolding decided unless_bad matched_of fitting_of
way_is p a b m t o (no_room h) = rw (lt-ltb p 256 h)
way_is p a b m t o (bad_one h i) = rw (le-ltb p 256 h, i)
way_is p a b m t o (bad_two h i j) = rw (le-ltb p 256 h, i, j)
way_is p a b m t o (clash h i j k) = rw (le-ltb p 256 h, i, j, k)
way_is p a b m t o (full h i j k l) = rw (le-ltb p 256 h, i, j, k, lt-ltb 256 t l)
way_is p a b m t o (done h i j k l) = rw (le-ltb p 256 h, i, j, k, le-ltb 256 t l)

-- and there is always one
some_way : (places : ℕ) (first second : Option ℕ) (found : Option (ℕ × ℕ)) (total : ℕ) → (o : Outcome) × Way places first second found total o
some_way p a b m t = go (dec_lt p 256) a b m (dec_lt 256 t) refl refl refl
  where
    go : Dec (p < 256) → (x y : Option ℕ) (z : Option (ℕ × ℕ)) → Dec (256 < t) → a ≡ x → b ≡ y → m ≡ z → (o : Outcome) × Way p a b m t o
    go (yes h) x y z d i j k = (Err NoRoom, no_room h)
    go (no h) (Some n) y z d i j k = (Err (BadLine 1 n), bad_one (omega (arith, h)) i)
    go (no h) None (Some n) z d i j k = (Err (BadLine 2 n), bad_two (omega (arith, h)) i j)
    go (no h) None None (Some c) d i j k = (Err (Clash c.0 c.1), clash (omega (arith, h)) i j k)
    go (no h) None None None (yes l) i j k = (Err Full, full (omega (arith, h)) i j k l)
    go (no h) None None None (no l) i j k = (Ok t, done (omega (arith, h)) i j k (omega (arith, l)))

module _ (places : ℕ) (f s : List Note) where
  abbrev pub JoinWay : Outcome → Type 0
  JoinWay o = Way places (first_bad f) (first_bad s) (lowest (aside f s)) (length (merged f s)) o

  pub way_joins : (o : Outcome) → JoinWay o → join_of places f s ≡ o
  unfolding join_of
  way_joins o w = way_is places (first_bad f) (first_bad s) (lowest (aside f s)) (length (merged f s)) o w

  pub join_way : (o : Outcome) → join_of places f s ≡ o → JoinWay o
  unfolding join_of
  join_way o e =
      let z = some_way places (first_bad f) (first_bad s) (lowest (aside f s)) (length (merged f s)) in
      subst JoinWay (sym (way_is places (first_bad f) (first_bad s) (lowest (aside f s)) (length (merged f s)) z.0 z.1) ∙ e) z.1
