-- What makes no two outcomes meet a promise, by the promise's form: an equation, a `Wrote` or a `Wrotes`. Assumes nothing.
use Prim.Native.Nat.{ℕ}
use mathlib.Core.Path.{◌≡◌, refl, sym, ◌∙◌}
use mathlib.Core.List.{List}
use Rattle.wire.specs.Wire.{Wrote, Wrotes}

-- a result that is said by an equation
pub one_result : {A : Type 0} {r r' x : A} → r ≡ x → r' ≡ x → r ≡ r'
one_result p q = p ∙ sym q

-- and nothing is lent by &mut, or nothing of it is looked at
pub one_equal : {A W : Type 0} {r r' x : A} {w : W} → r ≡ x → r' ≡ x → (r ≡ r') × (w ≡ w)
one_equal p q = (one_result p q, refl)

-- the buffer and the place after one write
pub one_write : {d : List ℕ} {at : ℕ} {v d' : List ℕ} {r : ℕ} {d'' : List ℕ} {r' : ℕ} → Wrote d at v d' r → Wrote d at v d'' r' → (d' ≡ d'') × (r ≡ r')
one_write x y = (one_result x.bytes y.bytes, one_result x.next y.next)

-- and after several
pub one_page : {d : List ℕ} {at : ℕ} {vs : List (List ℕ)} {d' : List ℕ} {r : ℕ} {d'' : List ℕ} {r' : ℕ} → Wrotes d at vs d' r → Wrotes d at vs d'' r'
    → (d' ≡ d'') × (r ≡ r')
one_page x y = (one_result x.bytes y.bytes, one_result x.next y.next)
