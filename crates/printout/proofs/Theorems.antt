-- THE THEOREMS of what handover prints, Ask 8: either order, a book again, handed over again, the front of each text is enough. Assumes nothing.
use Prim.Native.Nat.{ℕ, ◌<◌}
use native.Mathlib.Omega.{arith}
use mathlib.Core.Path.{◌≡◌, refl, sym, ap, ap₂, ◌∙◌, subst}
use mathlib.Core.Bool.{true}
use mathlib.Core.List.{List, [], ◌∷◌}
use mathlib.Core.Logic.{⊎_elim}
use lib.ListN.{take}
use Rattle.wire.specs.Wire.{joined}
use Rattle.notes.specs.declared.Note.{Note}
use Rattle.shelf.specs.Outcome.{Outcome}
use Rattle.std.proofs.Common.{Ok, Err}
use Rattle.shelf.specs.declared.Refusal.TheVariants.{BadLine, Clash, Full, NoRoom}
use Rattle.shelf.specs.Shelf.{most, is_book}
use Rattle.union.specs.Union.{merged, join_of}
use Rattle.booktext.specs.BookText.{Book, meaning, text_of}
use Rattle.handed.specs.Handed.{outcome_of, union_of, printed, handed_parts, handed_text}
use Rattle.agreed.specs.Agreed.{In, here, there, Joins, one, join, all, Agreeing, Of, itself, left, right}
use Rattle.agreed.proofs.Means.{done_means}
use Rattle.agreed.proofs.Theorems.{either_order, either_notes, each_once}
use Rattle.agreed.proofs.Grouping.{any_grouping, no_grouping_refuses}
use Rattle.spelled.specs.Spelled.{Ranges, Each}
use Rattle.spelled.proofs.Book.{text_back, means_a_book, means_ranges}
use Rattle.spelled.proofs.Front.{front_enough}
use Rattle.printout.specs.Printout.{print_of, Again}

-- EITHER ORDER: two books are printed as the same text, clash and full included
module _ (f s : List Note) where
  -- only a join that is done prints its notes
  same_notes : (o : Outcome) → join_of most f s ≡ o → printed o (merged f s) ≡ printed o (merged s f)
  unfolding printed
  same_notes (Ok k) e = rw (either_notes most f s k e)
  same_notes (Err (BadLine b k)) e = refl
  same_notes (Err (Clash t k)) e = refl
  same_notes (Err Full) e = refl
  same_notes (Err NoRoom) e = refl

  pub either_print : is_book f ≡ true → is_book s ≡ true → handed_parts (Book f) (Book s) ≡ handed_parts (Book s) (Book f)
  unfolding handed_parts outcome_of union_of
  either_print b c = same_notes (join_of most f s) refl ∙ ap (λ (o : Outcome). printed o (merged s f)) (either_order most f s b c)

  pub either_text : is_book f ≡ true → is_book s ≡ true → handed_text (Book f) (Book s) ≡ handed_text (Book s) (Book f)
  unfolding handed_text
  either_text b c = ap joined (either_print b c)

pub either_texts : (s t : List ℕ) (f g : List Note) → meaning s ≡ Book f → meaning t ≡ Book g → print_of s t ≡ print_of t s
either_texts s t f g p q = rw (p, q) (either_text f g (means_a_book s f p) (means_a_book t g q))

-- A BOOK AGAIN: a join that is done is printed as the text of the union
pub done_print : (f g : List Note) (n : ℕ) → join_of most f g ≡ Ok n → handed_text (Book f) (Book g) ≡ text_of (merged f g)
unfolding handed_text handed_parts outcome_of union_of printed text_of
done_print f g n e = rw e

-- each note of the union is of one of the two, and so fits its places
pub of_each : (l : List Note) → Each l → (x : Note) → In x l → Ranges x
unfolding Each
of_each [] r x i = elim i [ ]
of_each (y ∷ l) r x (here e) = subst Ranges (sym e) r.0
of_each (y ∷ l) r x (there i) = of_each l r.1 x i

each_of : (l : List Note) → ((x : Note) → In x l → Ranges x) → Each l
unfolding Each
each_of [] h = tt
each_of (x ∷ l) h = (h x (here refl), each_of l (λ y i. h y (there i)))

module _ (f g : List Note) (n : ℕ) (e : join_of most f g ≡ Ok n) where
  pub union_book : is_book (merged f g) ≡ true
  union_book = (each_once most f g n e).0.book

  pub union_ranges : Each f → Each g → Each (merged f g)
  union_ranges p q = each_of (merged f g) (λ x i. ⊎_elim (of_each f p x) (of_each g q x) ((each_once most f g n e).0.only x i))

  pub union_back : Each f → Each g → meaning (handed_text (Book f) (Book g)) ≡ Book (merged f g)
  union_back p q = rw (done_print f g n e) (text_back (merged f g) union_book (union_ranges p q))

pub print_back :
    (s t : List ℕ) (f g : List Note) (n : ℕ) → meaning s ≡ Book f → meaning t ≡ Book g → join_of most f g ≡ Ok n → meaning (print_of s t) ≡ Book (merged f g)
print_back s t f g n p q e = rw (p, q) (union_back f g n e (means_ranges s f p) (means_ranges t g q))

-- HANDED OVER AGAIN: the two books and the union are a grouping of the same two books, so that nothing is refused and nothing comes in
module _ (f g : List Note) (n : ℕ) (e : join_of most f g ≡ Ok n) where
  abbrev both : Joins
  both = join (one f) (one g)

  firsts : Agreeing most both
  unfolding all
  firsts = let d = (done_means most f g n e).0 in (d.first, d.second, (n, e))

  -- one of the two joined once more
  once_more : (l : List Note) → Of l both → handed_text (Book (merged f g)) (Book l) ≡ text_of (merged f g)
  unfolding all
  once_more l o =
      let j = no_grouping_refuses most (omega arith) both firsts (join both (one l)) among in
      let z : merged (merged f g) l ≡ merged f g = any_grouping most most (join both (one l)) both j firsts among (λ k i. left i) in
      done_print (merged f g) l j.2.0 j.2.1 ∙ ap text_of z
    where
      among : (k : List Note) → Of k (join both (one l)) → Of k both
      among k (left i) = i
      among k (right (itself d)) = subst (λ (m : List Note). Of m both) (sym d) o

  pub print_again : Again f g
  print_again =
      let d = (done_means most f g n e).0 in
      let a = once_more f (left (itself refl)) in
      let b = once_more g (right (itself refl)) in
      let u = union_book f g n e in
      record {
        with_first = a;
        with_second = b;
        first_with = either_text f (merged f g) d.first u ∙ a;
        second_with = either_text g (merged f g) d.second u ∙ b;
      }

-- the same of texts
pub again_texts :
    (s t : List ℕ) (f g : List Note) (n : ℕ) → meaning s ≡ Book f → meaning t ≡ Book g → join_of most f g ≡ Ok n
    → (print_of (print_of s t) s ≡ print_of s t) × (print_of (print_of s t) t ≡ print_of s t)
again_texts s t f g n p q e =
    let h = print_back s t f g n p q e in
    let a = print_again f g n e in
    let z : print_of s t ≡ text_of (merged f g) = rw (p, q) (done_print f g n e) in
    (ap₂ handed_text h p ∙ a.with_first ∙ sym z, ap₂ handed_text h q ∙ a.with_second ∙ sym z)

-- THE FRONT IS ENOUGH: what a program leaves unread of a file after 20,480 bytes changes nothing
pub cut_is_enough : (s t : List ℕ) → print_of (take 20480 s) (take 20480 t) ≡ print_of s t
cut_is_enough s t = let h : 19968 < 20480 = omega arith in ap₂ handed_text (front_enough 20480 s h) (front_enough 20480 t h)
