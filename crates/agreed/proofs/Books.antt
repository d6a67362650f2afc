-- WHAT A BOOK IS, Ask 8: at most 256 good notes that rise strictly; and two books with the same notes are the same. Assumes nothing.
use Prim.Native.Nat.{ℕ, zero, suc, ◌+◌, ◌≤◌, ◌<◌}
use native.Mathlib.Omega.{arith}
use mathlib.Core.Path.{◌≡◌, refl, sym, ap, ap₂, ◌∙◌, subst}
use mathlib.Core.Bool.{true}
use mathlib.Core.List.{List, [], ◌∷◌}
use mathlib.Core.Logic.{◌↔◌}
use lib.ListN.{length}
use Rattle.std.proofs.Common.{Option, Some, None}
use Rattle.shelf.proofs.Laws.{book_none, none_book}
use Rattle.std.specs.Ordering.{is_lt}
use Rattle.wire.proofs.Laws.{both_true, by_cases}
use Rattle.notes.specs.declared.Note.{Note}
use Rattle.std.specs.declared.cmp.Ordering.{Ordering}
use Rattle.std.specs.declared.cmp.Ordering.TheVariants.{Less, Equal, Greater}
use Rattle.notes.specs.Notes.{blank, order_of, good_of, follows}
use Rattle.shelf.specs.Shelf.{bad_from, first_bad, is_book}
use Rattle.agreed.specs.Agreed.{In, here, there, Below, Rising, ABook}
use Rattle.agreed.proofs.Order.{before_trans, before_same, before_self, before_both, blank_below}

-- NOTES OF A LIST
in_some : (x : Note) (l : List Note) → In x l → 0 < length l
in_some x l (here e) = omega arith
in_some x l (there i) = omega arith

pub none_in : (x : Note) → In x [] → ⊥
none_in x i = let h : 0 < length {A = Note} [] = in_some x [] i in omega arith

-- what may follow a note
is_less : (o : Ordering) → is_lt o ≡ true → o ≡ Less
is_less Less e = refl
is_less Equal e = cc
is_less Greater e = cc

follows_means : (y x : Note) → follows y x ≡ true → (good_of x ≡ true) × (order_of y x ≡ Less)
unfolding follows
follows_means y x e = let p = both_true (good_of x) (is_lt (order_of y x)) e in (p.0, is_less (order_of y x) p.1)

means_follows : (y x : Note) → good_of x ≡ true → order_of y x ≡ Less → follows y x ≡ true
unfolding follows
means_follows y x g e = rw (g, e)

-- a list with no bad record after y, where there is room for n
record From (n : ℕ) (y : Note) (l : List Note) : Type 0 where
  few : length l ≤ n
  good : (x : Note) → In x l → good_of x ≡ true
  above : Below y l
  rising : Rising l

from_more : (n : ℕ) (y x : Note) (l : List Note) → (good_of x ≡ true) × (order_of y x ≡ Less) → From n x l → From (suc n) y (x ∷ l)
from_more n y x l h r = record { few = omega (arith, r.few); good = goods; above = aboves; rising = (r.above, r.rising) }
  where
    goods : (z : Note) → In z (x ∷ l) → good_of z ≡ true
    goods z (here e) = ap good_of e ∙ h.0
    goods z (there i) = r.good z i

    aboves : (z : Note) → In z (x ∷ l) → order_of y z ≡ Less
    aboves z (here e) = ap (order_of y) e ∙ h.1
    aboves z (there i) = before_trans y x z h.1 (r.above z i)

none_bad : (n k : ℕ) (y : Note) (l : List Note) → bad_from n k y l ≡ None → From n y l
unfolding bad_from
none_bad n k y [] e = record { few = omega arith; good = λ x i. absurd (none_in x i); above = λ x i. absurd (none_in x i); rising = tt }
none_bad zero k y (x ∷ l) e = cc
none_bad (suc n) k y (x ∷ l) e =
    by_cases (λ (r : Option ℕ). r ≡ None → From (suc n) y (x ∷ l)) (follows y x) {x = bad_from n (k + 1) x l} {y = Some k}
    (λ g d. from_more n y x l (follows_means y x g) (none_bad n (k + 1) x l d))
    (λ g d. cc) e

bad_none : (n k : ℕ) (y : Note) (l : List Note) → From n y l → bad_from n k y l ≡ None
unfolding bad_from
bad_none n k y [] r = refl
bad_none zero k y (x ∷ l) r = absurd (omega (arith, r.few))
bad_none (suc n) k y (x ∷ l) r =
    rw (means_follows y x (r.good x (here refl)) (r.above x (here refl)))
    (bad_none n (k + 1) x l
    (record { few = omega (arith, r.few); good = λ z i. r.good z (there i); above = r.rising.0; rising = r.rising.1 }))

-- records are counted from 1
counted_from : (n k : ℕ) (y : Note) (l : List Note) (j : ℕ) → bad_from n k y l ≡ Some j → k ≤ j
unfolding bad_from
counted_from n k y [] j e = cc
counted_from zero k y (x ∷ l) j e = let d : k ≡ j = cc in omega arith
counted_from (suc n) k y (x ∷ l) j e =
    by_cases (λ (r : Option ℕ). r ≡ Some j → k ≤ j) (follows y x) {x = bad_from n (k + 1) x l} {y = Some k}
    (λ g d. let h = counted_from n (k + 1) x l j d in omega arith)
    (λ g d. let h : k ≡ j = cc in omega arith) e

pub counted_from_one : (l : List Note) (k : ℕ) → first_bad l ≡ Some k → 1 ≤ k
unfolding first_bad
counted_from_one l k e = counted_from 256 1 blank l k e

-- A BOOK is what the record says
pub is_a_book : (l : List Note) → is_book l ≡ true → ABook l
unfolding first_bad
is_a_book l e =
    let r = none_bad 256 1 blank l (book_none l e) in
    record { few = r.few; good = r.good; rising = r.rising }

pub book_is : (l : List Note) → ABook l → is_book l ≡ true
unfolding first_bad
book_is l b =
    none_book l
    (bad_none 256 1 blank l
    (record { few = b.few; good = b.good; above = λ x i. blank_below x (b.good x i); rising = b.rising }))

pub a_book : (l : List Note) → is_book l ≡ true ↔ ABook l
a_book l = (is_a_book l, book_is l)

-- THE SAME NOTES: the first of one is the first of the other
heads : (x y : Note) (xs ys : List Note) → Below x xs → Below y ys → In x (y ∷ ys) → In y (x ∷ xs) → x ≡ y
heads x y xs ys bx by (here e) j = e
heads x y xs ys bx by (there i) (here e) = sym e
heads x y xs ys bx by (there i) (there j) = absurd (before_both x y (bx y j) (by x i))

tails : (x y z : Note) (xs ys : List Note) → x ≡ y → Below x xs → In z xs → In z (y ∷ ys) → In z ys
tails x y z xs ys e bx i (here d) = absurd (before_self x (subst (λ (a : Note). order_of x a ≡ Less) (d ∙ sym e) (bx z i)))
tails x y z xs ys e bx i (there j) = j

pub same_rising : (f s : List Note) → Rising f → Rising s → ((x : Note) → In x f → In x s) → ((x : Note) → In x s → In x f) → f ≡ s
same_rising [] [] rf rs p q = refl
same_rising [] (y ∷ ys) rf rs p q = absurd (none_in y (q y (here refl)))
same_rising (x ∷ xs) [] rf rs p q = absurd (none_in x (p x (here refl)))
same_rising (x ∷ xs) (y ∷ ys) rf rs p q =
    let e = heads x y xs ys rf.0 rs.0 (p x (here refl)) (q y (here refl)) in
    ap₂ ◌∷◌ e
    (same_rising xs ys rf.1 rs.1
    (λ z i. tails x y z xs ys e rf.0 i (p z (there i)))
    (λ z i. tails y x z ys xs (sym e) rs.0 i (q z (there i))))

pub same_members :
    (f s : List Note) → is_book f ≡ true → is_book s ≡ true → ((x : Note) → In x f → In x s) → ((x : Note) → In x s → In x f) → f ≡ s
same_members f s b c p q = same_rising f s (is_a_book f b).rising (is_a_book s c).rising p q

-- A PART of a rising list is no longer than it
part_tail :
    (x y z : Note) (xs ys : List Note) → Below x xs → Below y ys → In x (y ∷ ys) → In z xs → In z (y ∷ ys) → In z ys
part_tail x y z xs ys p q i j (there k) = k
part_tail x y z xs ys p q (here d) j (here e) = absurd (before_self x (subst (λ (a : Note). order_of x a ≡ Less) (e ∙ sym d) (p z j)))
part_tail x y z xs ys p q (there i) j (here e) = absurd (before_both x y (subst (λ (a : Note). order_of x a ≡ Less) e (p z j)) (q x i))

pub part_length : (f l : List Note) → Rising f → Rising l → ((x : Note) → In x f → In x l) → length f ≤ length l
part_length [] l p q h = omega arith
part_length (x ∷ xs) [] p q h = absurd (none_in x (h x (here refl)))
part_length (x ∷ xs) (y ∷ ys) p q h =
    let r = part_length xs ys p.1 q.1 (λ z i. part_tail x y z xs ys p.0 q.0 (h x (here refl)) i (h z (there i))) in
    omega arith

-- ONE NOTE of a tablet and number
one_in : (x y : Note) (l : List Note) → Rising l → In x l → In y l → x.tablet ≡ y.tablet → x.number ≡ y.number → x ≡ y
one_in x y l r (here e) (here d) t n = e ∙ sym d
one_in x y (z ∷ l) r (here e) (there j) t n =
    absurd (before_same x y (ap (λ (a : Note). order_of a y) e ∙ r.0 y j) t n)
one_in x y (z ∷ l) r (there i) (here d) t n =
    absurd (before_same y x (ap (λ (a : Note). order_of a x) d ∙ r.0 x i) (sym t) (sym n))
one_in x y (z ∷ l) r (there i) (there j) t n = one_in x y l r.1 i j t n

pub one_note : (l : List Note) → Rising l → (x y : Note) → In x l → In y l → x.tablet ≡ y.tablet → x.number ≡ y.number → x ≡ y
one_note l r x y i j = one_in x y l r i j
