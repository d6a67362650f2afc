-- No two outcomes meet the promise of the walk: 01, "How much a promise has to say". Assumes nothing.
use mathlib.Core.Path.{◌≡◌}
use mathlib.Core.List.{List}
use mathlib.Core.Bool.{Bool}
use Prim.Native.Nat.{ℕ}
use Rattle.wire.proofs.Unique.{one_result}
use Rattle.sent.specs.declared.Sent.{Sent}
use Rattle.sent.specs.Sent.{Filled, Walked}

-- whether the payload is well formed, and the whole of the places
pub one_filling : {p l : List ℕ} {r r' : Bool} {l' l'' : List ℕ} → Filled p l r l' → Filled p l r' l'' → (r ≡ r') × (l' ≡ l'')
one_filling x y = (one_result x.form y.form, one_result x.places y.places)

-- a payload walked: all of it
pub one_walk : {s t t' : Sent} → Walked s t → Walked s t' → t ≡ t'
one_walk x y = let e = one_filling x.filled y.filled in λ i. record { payload = one_result x.payload y.payload i; places = e.1 i; whole = e.0 i }
