-- WHAT CLASHES, Ask 8: where the pairs agree no two notes clash, and else the first pair that differs is the lowest clash. Assumes nothing.
use Prim.Native.Nat.{ℕ}
use mathlib.Core.Path.{◌≡◌, refl, sym, ap, ◌∙◌, subst}
use mathlib.Core.Bool.{Bool, true, false, cond, not}
use mathlib.Core.List.{List, [], ◌∷◌}
use Rattle.std.proofs.lemmas.Option.{some_pair_parts}
use Rattle.wire.proofs.Laws.{never}
use Rattle.notes.specs.declared.Note.{Note}
use Rattle.std.specs.declared.cmp.Ordering.TheVariants.{Less, Equal}
use Rattle.notes.specs.Notes.{order_of, alike_of}
use Rattle.notes.proofs.Laws.{alike_note, note_alike}
use Rattle.std.proofs.Common.{None, Some}
use Rattle.union.specs.declared.Pair.{Pair}
use Rattle.union.specs.declared.Pair.TheVariants.{First, Second, Both}
use Rattle.union.specs.Union.{note_in, clashes, lowest}
use Rattle.agreed.specs.Agreed.{In, here, there, Below, Rising, Clashing, Lowest, NoClash}
use Rattle.agreed.proofs.Order.{same_means, before_same, before_self, before_both, after_back}
use Rattle.agreed.proofs.Books.{none_in}
use Rattle.agreed.proofs.Sides.{Sided, ended, only_second, only_first, before, same, after, agree_head, agree_both}
use Rattle.agreed.proofs.Members.{below_cons}

-- A NOTE BELOW ALL of the other list is in no clash
not_first : (x : Note) (xs s : List Note) (a b : Note) → Below x s → Clashing (x ∷ xs) s a b → Clashing xs s a b
not_first x xs s a b l c = record { first = go c.first; second = c.second; tablet = c.tablet; number = c.number; other = c.other }
  where
    go : In a (x ∷ xs) → In a xs
    go (here e) =
        absurd (before_same x b (l b c.second) (ap (λ (n : Note). n.tablet) (sym e) ∙ c.tablet) (ap (λ (n : Note). n.number) (sym e) ∙ c.number))
    go (there i) = i

not_second : (y : Note) (f ys : List Note) (a b : Note) → Below y f → Clashing f (y ∷ ys) a b → Clashing f ys a b
not_second y f ys a b l c = record { first = c.first; second = go c.second; tablet = c.tablet; number = c.number; other = c.other }
  where
    go : In b (y ∷ ys) → In b ys
    go (here e) =
        absurd
        (before_same y a (l a c.first) (ap (λ (n : Note). n.tablet) (sym e) ∙ sym c.tablet) (ap (λ (n : Note). n.number) (sym e) ∙ sym c.number))
    go (there i) = i

-- two that are the same are in no clash
not_heads : (x y : Note) (xs ys : List Note) (a b : Note) → x ≡ y → Below x xs → Below y ys → Clashing (x ∷ xs) (y ∷ ys) a b → Clashing xs ys a b
not_heads x y xs ys a b d p q c = go c.first c.second
  where
    made : In a xs → In b ys → Clashing xs ys a b
    made i j = record { first = i; second = j; tablet = c.tablet; number = c.number; other = c.other }

    go : In a (x ∷ xs) → In b (y ∷ ys) → Clashing xs ys a b
    go (here e) (here k) = absurd (c.other (e ∙ (d ∙ sym k)))
    go (here e) (there j) =
        let h = ap (λ (n : Note). n.tablet) (sym (e ∙ d)) ∙ c.tablet in
        absurd (before_same y b (q b j) h (ap (λ (n : Note). n.number) (sym (e ∙ d)) ∙ c.number))
    go (there i) (here k) =
        let h = ap (λ (n : Note). n.tablet) (d ∙ sym k) ∙ sym c.tablet in
        absurd (before_same x a (p a i) h (ap (λ (n : Note). n.number) (d ∙ sym k) ∙ sym c.number))
    go (there i) (there j) = made i j

-- WHERE THE PAIRS AGREE nothing clashes
pub agree_none : (f s : List Note) (ps : List Pair) → Sided f s ps → Rising f → Rising s → lowest ps ≡ None → NoClash f s
agree_none f s ps ended p q e a b c = none_in a c.first
agree_none f s ps (only_second r) p q e a b c = none_in a c.first
agree_none f s ps (only_first r) p q e a b c = none_in b c.second
agree_none f s ps (before {x = x} {y = y} {xs = xs} {ys = ys} {ps = qs} o r) p q e a b c =
    agree_none xs (y ∷ ys) qs r p.1 q (agree_head (First x) qs e).1 a b (not_first x xs (y ∷ ys) a b (below_cons x y ys o q.0) c)
agree_none f s ps (same {x = x} {y = y} {xs = xs} {ys = ys} {ps = qs} o r) p q e a b c =
    agree_none xs ys qs r p.1 q.1 (agree_head (Both x y) qs e).1 a b (not_heads x y xs ys a b (agree_both x y qs e) p.0 q.0 c)
agree_none f s ps (after {x = x} {y = y} {xs = xs} {ys = ys} {ps = qs} o r) p q e a b c =
    agree_none (x ∷ xs) ys qs r p q.1 (agree_head (Second y) qs e).1 a b (not_second y (x ∷ xs) ys a b (below_cons y x xs (after_back x y o) p.0) c)

-- THE FIRST PAIR THAT DIFFERS is the lowest. It stays so where a note below all of the other list comes before
lowest_first : (x : Note) (xs s : List Note) (t n : ℕ) → Below x s → Lowest xs s t n → Lowest (x ∷ xs) s t n
lowest_first x xs s t n b l =
    let c = l.clash in
    record {
      x = l.x;
      y = l.y;
      clash = record { first = there c.first; second = c.second; tablet = c.tablet; number = c.number; other = c.other };
      tablet = l.tablet;
      number = l.number;
      lowest = λ u v d. l.lowest u v (not_first x xs s u v b d);
    }

lowest_second : (y : Note) (f ys : List Note) (t n : ℕ) → Below y f → Lowest f ys t n → Lowest f (y ∷ ys) t n
lowest_second y f ys t n b l =
    let c = l.clash in
    record {
      x = l.x;
      y = l.y;
      clash = record { first = c.first; second = there c.second; tablet = c.tablet; number = c.number; other = c.other };
      tablet = l.tablet;
      number = l.number;
      lowest = λ u v d. l.lowest u v (not_second y f ys u v b d);
    }

lowest_heads : (x y : Note) (xs ys : List Note) (t n : ℕ) → x ≡ y → Below x xs → Below y ys → Lowest xs ys t n → Lowest (x ∷ xs) (y ∷ ys) t n
lowest_heads x y xs ys t n e p q l =
    let c = l.clash in
    record {
      x = l.x;
      y = l.y;
      clash = record { first = there c.first; second = there c.second; tablet = c.tablet; number = c.number; other = c.other };
      tablet = l.tablet;
      number = l.number;
      lowest = λ u v d. l.lowest u v (not_heads x y xs ys u v e p q d);
    }

lowest_here : (x y : Note) (xs ys : List Note) → order_of x y ≡ Equal → (x ≡ y → ⊥) → Below x xs → Lowest (x ∷ xs) (y ∷ ys) x.tablet x.number
lowest_here x y xs ys e d b =
    let k = same_means x y e in
    record {
      x = x;
      y = y;
      clash = record { first = here refl; second = here refl; tablet = k.0; number = k.1; other = d };
      tablet = refl;
      number = refl;
      lowest = λ u v c. go u c.first;
    }
  where
    go : (u : Note) → In u (x ∷ xs) → order_of u x ≡ Less → ⊥
    go u (here i) o = before_self x (subst (λ (w : Note). order_of w x ≡ Less) i o)
    go u (there i) o = before_both x u (b u i) o

by_alike :
    (x y : Note) (xs ys : List Note) (qs : List Pair) (t n : ℕ) → order_of x y ≡ Equal → Below x xs → Below y ys
    → (lowest qs ≡ Some (t, n) → Lowest xs ys t n) → (u : Bool) → alike_of x y ≡ u → cond (not u) (Some (x.tablet, x.number)) (lowest qs) ≡ Some (t, n)
    → Lowest (x ∷ xs) (y ∷ ys) t n
by_alike x y xs ys qs t n o p q h true e d = lowest_heads x y xs ys t n (alike_note x y e) p q (h d)
by_alike x y xs ys qs t n o p q h false e d =
    let differs : x ≡ y → ⊥ = λ k. never (sym e ∙ subst (λ (w : Note). alike_of x w ≡ true) k (note_alike x)) in
    let i = some_pair_parts x.tablet t x.number n d in
    subst (λ (a : ℕ). Lowest (x ∷ xs) (y ∷ ys) a n) i.0
    (subst (λ (b : ℕ). Lowest (x ∷ xs) (y ∷ ys) x.tablet b) i.1 (lowest_here x y xs ys o differs p))

pub differ_lowest : (f s : List Note) (ps : List Pair) (t n : ℕ) → Sided f s ps → Rising f → Rising s → lowest ps ≡ Some (t, n) → Lowest f s t n
unfolding lowest clashes note_in
differ_lowest f s ps t n ended p q e = cc
differ_lowest f s ps t n (only_second {y = y} {ys = ys} {ps = qs} r) p q e =
    lowest_second y [] ys t n (λ z i. absurd (none_in z i)) (differ_lowest [] ys qs t n r p q.1 e)
differ_lowest f s ps t n (only_first {x = x} {xs = xs} {ps = qs} r) p q e =
    lowest_first x xs [] t n (λ z i. absurd (none_in z i)) (differ_lowest xs [] qs t n r p.1 q e)
differ_lowest f s ps t n (before {x = x} {y = y} {xs = xs} {ys = ys} {ps = qs} o r) p q e =
    lowest_first x xs (y ∷ ys) t n (below_cons x y ys o q.0) (differ_lowest xs (y ∷ ys) qs t n r p.1 q e)
differ_lowest f s ps t n (same {x = x} {y = y} {xs = xs} {ys = ys} {ps = qs} o r) p q e =
    by_alike x y xs ys qs t n o p.0 q.0 (differ_lowest xs ys qs t n r p.1 q.1) (alike_of x y) refl e
differ_lowest f s ps t n (after {x = x} {y = y} {xs = xs} {ys = ys} {ps = qs} o r) p q e =
    lowest_second y (x ∷ xs) ys t n (below_cons y x xs (after_back x y o) p.0) (differ_lowest (x ∷ xs) ys qs t n r p q.1 e)
