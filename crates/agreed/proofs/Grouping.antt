-- THREE BOOKS AND MORE, Ask 8: where none of the joins refuses, any grouping in any order gives the same notes. Assumes nothing.
use Prim.Native.Nat.{ℕ, ◌≤◌}
use native.Mathlib.Omega.{arith}
use mathlib.Core.Path.{◌≡◌, refl, sym, ap, ◌∙◌, subst}
use mathlib.Core.Bool.{true}
use mathlib.Core.List.{List}
use mathlib.Core.Logic.{◌⊎◌, inl, inr, ⊎_elim}
use lib.ListN.{length}
use Rattle.notes.specs.declared.Note.{Note}
use Rattle.std.proofs.Common.{Ok}
use Rattle.shelf.specs.Shelf.{is_book}
use Rattle.union.specs.Union.{merged, join_of}
use Rattle.agreed.specs.Agreed.{In, ABook, Agreed, Joins, one, join, all, Agreeing, Of, itself, left, right}
use Rattle.agreed.proofs.Books.{is_a_book, same_members, part_length, one_note}
use Rattle.agreed.proofs.Members.{merged_only, merged_rises}
use Rattle.agreed.proofs.Means.{done_means, done_where}
use Rattle.agreed.proofs.Theorems.{each_once}

module _ (p : ℕ) where
  -- each of them is a book
  each_book : (a : Joins) → Agreeing p a → (l : List Note) → Of l a → is_book l ≡ true
  each_book (one k) h l (itself e) = subst (λ (m : List Note). is_book m ≡ true) (sym e) h
  each_book (join a b) h l (left o) = each_book a h.0 l o
  each_book (join a b) h l (right o) = each_book b h.1 l o

  -- one join of a grouping
  one_join : (a b : Joins) → Agreeing p (join a b) → Agreed (all a) (all b) (all (join a b))
  unfolding all
  one_join a b h = (each_once p (all a) (all b) h.2.0 h.2.1).0

  pub all_book : (a : Joins) → Agreeing p a → is_book (all a) ≡ true
  unfolding all
  all_book (one l) h = h
  all_book (join a b) h = (one_join a b h).book

  -- each note of each book
  pub all_has : (a : Joins) → Agreeing p a → (l : List Note) → Of l a → (x : Note) → In x l → In x (all a)
  unfolding all
  all_has (one k) h l (itself e) x i = subst (In x) e i
  all_has (join a b) h l (left o) x i = (one_join a b h).first x (all_has a h.0 l o x i)
  all_has (join a b) h l (right o) x i = (one_join a b h).second x (all_has b h.1 l o x i)

  -- and no other
  pub all_only : (a : Joins) → Agreeing p a → (x : Note) → In x (all a) → (l : List Note) × Of l a × In x l
  unfolding all
  all_only (one k) h x i = (k, itself refl, i)
  all_only (join a b) h x i = go (all_only a h.0 x) (all_only b h.1 x) ((one_join a b h).only x i)
    where
      go :
          (In x (all a) → (l : List Note) × Of l a × In x l) → (In x (all b) → (l : List Note) × Of l b × In x l) → In x (all a) ⊎ In x (all b)
          → (l : List Note) × Of l (join a b) × In x l
      go f g (inl j) = let z = f j in (z.0, left z.1, z.2)
      go f g (inr j) = let z = g j in (z.0, right z.1, z.2)

-- ANY GROUPING of the same books, in any order
pub any_grouping :
    (p q : ℕ) (a b : Joins) → Agreeing p a → Agreeing q b → ((l : List Note) → Of l a → Of l b) → ((l : List Note) → Of l b → Of l a) → all a ≡ all b
any_grouping p q a b h k f g =
    same_members (all a) (all b) (all_book p a h) (all_book q b k)
    (λ x i. let z = all_only p a h x i in all_has q b k z.0 (f z.0 z.1) x z.2)
    (λ x i. let z = all_only q b k x i in all_has p a h z.0 (g z.0 z.1) x z.2)

-- NO GROUPING REFUSES where one of them does not: of the same books, or of some of them
module _ (p : ℕ) (room : 256 ≤ p) (a : Joins) (h : Agreeing p a) where
  whole : ABook (all a)
  whole = is_a_book (all a) (all_book p a h)

  within : (b : Joins) → Agreeing p b → ((l : List Note) → Of l b → Of l a) → (x : Note) → In x (all b) → In x (all a)
  within b k f x i = let z = all_only p b k x i in all_has p a h z.0 (f z.0 z.1) x z.2

  next_join :
      (b c : Joins) → Agreeing p b → Agreeing p c → ((l : List Note) → Of l b → Of l a) → ((l : List Note) → Of l c → Of l a)
      → join_of p (all b) (all c) ≡ Ok (length (merged (all b) (all c)))
  next_join b c i j f g =
      let x = all_book p b i in
      let y = all_book p c j in
      let u = within b i f in
      let v = within c j g in
      let rises = merged_rises (all b) (all c) (is_a_book (all b) x).rising (is_a_book (all c) y).rising in
      let part = part_length (merged (all b) (all c)) (all a) rises whole.rising (λ z k. ⊎_elim (u z) (v z) (merged_only (all b) (all c) z k)) in
      let few : length (merged (all b) (all c)) ≤ 256 = omega (arith, part, whole.few) in
      done_where p (all b) (all c) (record { room = room; first = x; second = y })
      (λ s t k. k.other (one_note (all a) whole.rising s t (u s k.first) (v t k.second) k.tablet k.number)) few

  pub no_grouping_refuses : (b : Joins) → ((l : List Note) → Of l b → Of l a) → Agreeing p b
  no_grouping_refuses (one l) f = each_book p a h l (f l (itself refl))
  no_grouping_refuses (join b c) f =
      let i = no_grouping_refuses b (λ l o. f l (left o)) in
      let j = no_grouping_refuses c (λ l o. f l (right o)) in
      (i, j, (length (merged (all b) (all c)), next_join b c i j (λ l o. f l (left o)) (λ l o. f l (right o))))

-- the three books of either grouping are the same
over : (f g h l : List Note) → Of l (join (join (one f) (one g)) (one h)) → Of l (join (one f) (join (one g) (one h)))
over f g h l (left (left o)) = left o
over f g h l (left (right o)) = right (left o)
over f g h l (right o) = right (right o)

back : (f g h l : List Note) → Of l (join (one f) (join (one g) (one h))) → Of l (join (join (one f) (one g)) (one h))
back f g h l (left o) = left (left o)
back f g h l (right (left o)) = left (right o)
back f g h l (right (right o)) = right o

-- THREE BOOKS
pub three_books :
    (p : ℕ) (f g h : List Note) (a b c d : ℕ) → join_of p f g ≡ Ok a → join_of p g h ≡ Ok b
    → join_of p (merged f g) h ≡ Ok c → join_of p f (merged g h) ≡ Ok d
    → (merged (merged f g) h ≡ merged f (merged g h)) × (c ≡ d)
unfolding all
three_books p f g h a b c d i j k l =
    let x = (done_means p f g a i).0 in
    let y = (done_means p g h b j).0 in
    let e : merged (merged f g) h ≡ merged f (merged g h) =
    any_grouping p p (join (join (one f) (one g)) (one h)) (join (one f) (join (one g) (one h)))
    ((x.first, x.second, (a, i)), y.second, (c, k))
    (x.first, (y.first, y.second, (b, j)), (d, l)) (over f g h) (back f g h) in
    (e, (each_once p (merged f g) h c k).1 ∙ (ap length e ∙ sym (each_once p f (merged g h) d l).1))
