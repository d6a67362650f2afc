-- WHAT IS IN THE UNION of two books, Ask 8: each note of both and no other, strictly rising. Assumes nothing.
use mathlib.Core.Path.{◌≡◌, sym, ap, ◌∙◌}
use mathlib.Core.List.{List, [], ◌∷◌}
use mathlib.Core.Logic.{◌⊎◌, inl, inr}
use Rattle.notes.specs.declared.Note.{Note}
use Rattle.std.specs.declared.cmp.Ordering.TheVariants.{Less, Equal}
use Rattle.notes.specs.Notes.{order_of}
use Rattle.std.proofs.Common.{None}
use Rattle.union.specs.declared.Pair.{Pair}
use Rattle.union.specs.declared.Pair.TheVariants.{First, Second, Both}
use Rattle.union.specs.Union.{aside, note_in, notes_in, merged, lowest}
use Rattle.agreed.specs.Agreed.{In, here, there, Below, Rising}
use Rattle.agreed.proofs.Order.{same_first, before_trans, after_back}
use Rattle.agreed.proofs.Books.{none_in}
use Rattle.agreed.proofs.Sides.{Sided, ended, only_second, only_first, before, same, after, sided, agree_head, agree_both}

-- NO OTHER: a note of the union is of the first or of the second
head_or : (z x : Note) (xs s l : List Note) → (In z l → In z xs ⊎ In z s) → In z (x ∷ l) → In z (x ∷ xs) ⊎ In z s
head_or z x xs s l h (here e) = inl (here e)
head_or z x xs s l h (there i) = go (h i)
  where
    go : In z xs ⊎ In z s → In z (x ∷ xs) ⊎ In z s
    go (inl j) = inl (there j)
    go (inr j) = inr j

or_head : (z y : Note) (f ys l : List Note) → (In z l → In z f ⊎ In z ys) → In z (y ∷ l) → In z f ⊎ In z (y ∷ ys)
or_head z y f ys l h (here e) = inr (here e)
or_head z y f ys l h (there i) = go (h i)
  where
    go : In z f ⊎ In z ys → In z f ⊎ In z (y ∷ ys)
    go (inl j) = inl j
    go (inr j) = inr (there j)

both_or : (z x y : Note) (xs ys l : List Note) → (In z l → In z xs ⊎ In z ys) → In z (x ∷ l) → In z (x ∷ xs) ⊎ In z (y ∷ ys)
both_or z x y xs ys l h (here e) = inl (here e)
both_or z x y xs ys l h (there i) = go (h i)
  where
    go : In z xs ⊎ In z ys → In z (x ∷ xs) ⊎ In z (y ∷ ys)
    go (inl j) = inl (there j)
    go (inr j) = inr (there j)

from_either : (z : Note) (f s : List Note) (ps : List Pair) → Sided f s ps → In z (notes_in ps) → In z f ⊎ In z s
unfolding notes_in note_in
from_either z f s ps ended i = inl i
from_either z f s ps (only_second {y = y} {ys = ys} {ps = qs} r) i = or_head z y [] ys (notes_in qs) (from_either z [] ys qs r) i
from_either z f s ps (only_first {x = x} {xs = xs} {ps = qs} r) i = head_or z x xs [] (notes_in qs) (from_either z xs [] qs r) i
from_either z f s ps (before {x = x} {y = y} {xs = xs} {ys = ys} {ps = qs} e r) i = head_or z x xs (y ∷ ys) (notes_in qs) (from_either z xs (y ∷ ys) qs r) i
from_either z f s ps (same {x = x} {y = y} {xs = xs} {ys = ys} {ps = qs} e r) i = both_or z x y xs ys (notes_in qs) (from_either z xs ys qs r) i
from_either z f s ps (after {x = x} {y = y} {xs = xs} {ys = ys} {ps = qs} e r) i = or_head z y (x ∷ xs) ys (notes_in qs) (from_either z (x ∷ xs) ys qs r) i

-- EACH NOTE OF THE FIRST
onward : (z x : Note) (xs l : List Note) → (In z xs → In z l) → In z (x ∷ xs) → In z (x ∷ l)
onward z x xs l h (here e) = here e
onward z x xs l h (there i) = there (h i)

from_first : (z : Note) (f s : List Note) (ps : List Pair) → Sided f s ps → In z f → In z (notes_in ps)
unfolding notes_in note_in
from_first z f s ps ended i = i
from_first z f s ps (only_second {ys = ys} {ps = qs} r) i = absurd (none_in z i)
from_first z f s ps (only_first {x = x} {xs = xs} {ps = qs} r) i = onward z x xs (notes_in qs) (from_first z xs [] qs r) i
from_first z f s ps (before {x = x} {y = y} {xs = xs} {ys = ys} {ps = qs} e r) i = onward z x xs (notes_in qs) (from_first z xs (y ∷ ys) qs r) i
from_first z f s ps (same {x = x} {xs = xs} {ys = ys} {ps = qs} e r) i = onward z x xs (notes_in qs) (from_first z xs ys qs r) i
from_first z f s ps (after {x = x} {xs = xs} {ys = ys} {ps = qs} e r) i = there (from_first z (x ∷ xs) ys qs r i)

-- EACH NOTE OF THE SECOND, where nothing clashes
onward_both : (z x y : Note) (ys l : List Note) → x ≡ y → (In z ys → In z l) → In z (y ∷ ys) → In z (x ∷ l)
onward_both z x y ys l d h (here e) = here (e ∙ sym d)
onward_both z x y ys l d h (there i) = there (h i)

from_second : (z : Note) (f s : List Note) (ps : List Pair) → Sided f s ps → lowest ps ≡ None → In z s → In z (notes_in ps)
unfolding notes_in note_in
from_second z f s ps ended a i = i
from_second z f s ps (only_second {y = y} {ys = ys} {ps = qs} r) a i =
    onward z y ys (notes_in qs) (from_second z [] ys qs r (agree_head (Second y) qs a).1) i
from_second z f s ps (only_first {x = x} {xs = xs} {ps = qs} r) a i = absurd (none_in z i)
from_second z f s ps (before {x = x} {y = y} {xs = xs} {ys = ys} {ps = qs} e r) a i =
    there (from_second z xs (y ∷ ys) qs r (agree_head (First x) qs a).1 i)
from_second z f s ps (same {x = x} {y = y} {xs = xs} {ys = ys} {ps = qs} e r) a i =
    onward_both z x y ys (notes_in qs) (agree_both x y qs a) (from_second z xs ys qs r (agree_head (Both x y) qs a).1) i
from_second z f s ps (after {x = x} {y = y} {xs = xs} {ys = ys} {ps = qs} e r) a i =
    onward z y ys (notes_in qs) (from_second z (x ∷ xs) ys qs r (agree_head (Second y) qs a).1) i

-- BELOW BOTH
pub below_cons : (x y : Note) (ys : List Note) → order_of x y ≡ Less → Below y ys → Below x (y ∷ ys)
below_cons x y ys e b z (here d) = ap (order_of x) d ∙ e
below_cons x y ys e b z (there i) = before_trans x y z e (b z i)

below_same : (x y : Note) (ys : List Note) → order_of x y ≡ Equal → Below y ys → Below x ys
below_same x y ys e b z i = same_first x y z e ∙ b z i

below_either : (w z : Note) (f s : List Note) → Below w f → Below w s → In z f ⊎ In z s → order_of w z ≡ Less
below_either w z f s p q (inl i) = p z i
below_either w z f s p q (inr i) = q z i

-- STRICTLY RISING
union_rises : (f s : List Note) (ps : List Pair) → Sided f s ps → Rising f → Rising s → Rising (notes_in ps)
unfolding notes_in note_in
union_rises f s ps ended p q = tt
union_rises f s ps (only_second {y = y} {ys = ys} {ps = qs} r) p q =
    (λ z i. below_either y z [] ys (λ a j. absurd (none_in a j)) q.0 (from_either z [] ys qs r i), union_rises [] ys qs r p q.1)
union_rises f s ps (only_first {x = x} {xs = xs} {ps = qs} r) p q =
    (λ z i. below_either x z xs [] p.0 (λ a j. absurd (none_in a j)) (from_either z xs [] qs r i), union_rises xs [] qs r p.1 q)
union_rises f s ps (before {x = x} {y = y} {xs = xs} {ys = ys} {ps = qs} e r) p q =
    (λ z i. below_either x z xs (y ∷ ys) p.0 (below_cons x y ys e q.0) (from_either z xs (y ∷ ys) qs r i), union_rises xs (y ∷ ys) qs r p.1 q)
union_rises f s ps (same {x = x} {y = y} {xs = xs} {ys = ys} {ps = qs} e r) p q =
    (λ z i. below_either x z xs ys p.0 (below_same x y ys e q.0) (from_either z xs ys qs r i), union_rises xs ys qs r p.1 q.1)
union_rises f s ps (after {x = x} {y = y} {xs = xs} {ys = ys} {ps = qs} e r) p q = (
  λ z i. below_either y z (x ∷ xs) ys (below_cons y x xs (after_back x y e) p.0) q.0 (from_either z (x ∷ xs) ys qs r i),
  union_rises (x ∷ xs) ys qs r p q.1,
)

-- of the union itself
pub merged_only : (f s : List Note) (z : Note) → In z (merged f s) → In z f ⊎ In z s
unfolding merged
merged_only f s z i = from_either z f s (aside f s) (sided f s) i

pub merged_first : (f s : List Note) (z : Note) → In z f → In z (merged f s)
unfolding merged
merged_first f s z i = from_first z f s (aside f s) (sided f s) i

pub merged_second : (f s : List Note) → lowest (aside f s) ≡ None → (z : Note) → In z s → In z (merged f s)
unfolding merged
merged_second f s a z i = from_second z f s (aside f s) (sided f s) a i

pub merged_rises : (f s : List Note) → Rising f → Rising s → Rising (merged f s)
unfolding merged
merged_rises f s p q = union_rises f s (aside f s) (sided f s) p q
