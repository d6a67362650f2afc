-- THE THEOREMS of joined books, Ask 8: either order, each note of both once, a book with itself and with none. Assumes nothing.
use Prim.Native.Nat.{ℕ, ◌≤◌}
use native.Mathlib.Omega.{arith}
use mathlib.Core.Path.{◌≡◌, refl, sym, ap, ap₂, ◌∙◌, subst}
use mathlib.Core.Bool.{true}
use mathlib.Core.List.{List, [], ◌∷◌}
use mathlib.Core.Logic.{⊎_elim}
use lib.ListN.{length}
use Rattle.notes.specs.declared.Note.{Note}
use Rattle.notes.proofs.Laws.{note_alike}
use Rattle.std.proofs.Common.{Ok}
use Rattle.shelf.specs.Shelf.{first_bad, is_book}
use Rattle.std.proofs.Common.{Option}
use Rattle.std.proofs.Common.{None}
use Rattle.union.specs.declared.Pair.{Pair}
use Rattle.union.specs.declared.Pair.TheVariants.{Both}
use Rattle.union.specs.Union.{seconds, aside, note_in, notes_in, merged, clashes, lowest, decided, join_of}
use Rattle.agreed.specs.Agreed.{ABook, Agreed}
use Rattle.agreed.proofs.Order.{same_self}
use Rattle.shelf.proofs.Laws.{book_none}
use Rattle.agreed.proofs.Books.{none_in, is_a_book, book_is}
use Rattle.agreed.proofs.Sides.{Sided, ended, same, one_way, merged_length, lowest_turns, merged_turns}
use Rattle.agreed.proofs.Members.{merged_only, merged_first, merged_second, merged_rises}
use Rattle.agreed.proofs.Outcomes.{done, way_joins}
use Rattle.agreed.proofs.Means.{done_means, done_agrees}

-- EITHER ORDER: the same outcome
pub either_order : (places : ℕ) (f s : List Note) → is_book f ≡ true → is_book s ≡ true → join_of places f s ≡ join_of places s f
unfolding join_of
either_order places f s b c =
    let i = book_none f b in
    let j = book_none s c in
    ap₂ (λ (x y : Option ℕ). decided places x y (lowest (aside f s)) (length (merged f s))) (i ∙ sym j) (j ∙ sym i)
    ∙ ap₂ (λ (m : Option (ℕ × ℕ)) (n : ℕ). decided places (first_bad s) (first_bad f) m n) (lowest_turns f s) (merged_length f s)

-- and where it is done, the same notes
pub either_notes : (places : ℕ) (f s : List Note) (n : ℕ) → join_of places f s ≡ Ok n → merged f s ≡ merged s f
either_notes places f s n e = merged_turns f s (done_agrees places f s n e)

-- EACH NOTE OF BOTH ONCE
merged_book : (f s : List Note) → ABook f → ABook s → length (merged f s) ≤ 256 → ABook (merged f s)
merged_book f s a b h =
    record {
      few = h;
      good = λ x i. ⊎_elim (a.good x) (b.good x) (merged_only f s x i);
      rising = merged_rises f s a.rising b.rising;
    }

pub each_once : (places : ℕ) (f s : List Note) (n : ℕ) → join_of places f s ≡ Ok n → Agreed f s (merged f s) × (n ≡ length (merged f s))
each_once places f s n e =
    let d = done_means places f s n e in (
      record {
        book = book_is (merged f s) (merged_book f s (is_a_book f d.0.first) (is_a_book s d.0.second) d.2);
        first = merged_first f s;
        second = merged_second f s (done_agrees places f s n e);
        only = merged_only f s;
      },
      d.3,
    )

-- A BOOK JOINED WITH ITSELF stays
self_aside : List Note → List Pair
self_aside [] = []
self_aside (x ∷ xs) = Both x x ∷ self_aside xs

self_sided : (f : List Note) → Sided f f (self_aside f)
unfolding self_aside
self_sided [] = ended
self_sided (x ∷ xs) = same (same_self x) (self_sided xs)

self_notes : (f : List Note) → notes_in (self_aside f) ≡ f
unfolding self_aside notes_in note_in
self_notes [] = refl
self_notes (x ∷ xs) = ap (λ (l : List Note). x ∷ l) (self_notes xs)

self_agrees : (f : List Note) → lowest (self_aside f) ≡ None
unfolding self_aside lowest clashes
self_agrees [] = refl
self_agrees (x ∷ xs) = rw (note_alike x) (self_agrees xs)

pub merged_self : (f : List Note) → merged f f ≡ f
unfolding merged
merged_self f = ap notes_in (one_way f f (self_aside f) (self_sided f)) ∙ self_notes f

-- a join with no clash that gives one of the two back
stays :
    (places : ℕ) (f s l : List Note) → is_book f ≡ true → is_book s ≡ true → is_book l ≡ true → 256 ≤ places → lowest (aside f s) ≡ None → merged f s ≡ l
    → join_of places f s ≡ Ok (length l)
stays places f s l b c d h e k =
    let few : length (merged f s) ≤ 256 = subst (λ (m : List Note). length m ≤ 256) (sym k) (is_a_book l d).few in
    way_joins places f s (Ok (length (merged f s))) (done h (book_none f b) (book_none s c) e few) ∙ ap (λ (m : List Note). Ok (length m)) k

pub joined_self : (places : ℕ) (f : List Note) → is_book f ≡ true → 256 ≤ places → (join_of places f f ≡ Ok (length f)) × (merged f f ≡ f)
joined_self places f b h =
    (stays places f f f b b b h (ap lowest (one_way f f (self_aside f) (self_sided f)) ∙ self_agrees f) (merged_self f), merged_self f)

-- A BOOK JOINED WITH NONE stays, on either side
pub none_is_book : is_book [] ≡ true
none_is_book = book_is [] (record { few = omega arith; good = λ x i. absurd (none_in x i); rising = tt })

seconds_notes : (s : List Note) → notes_in (seconds s) ≡ s
unfolding notes_in note_in seconds
seconds_notes [] = refl
seconds_notes (y ∷ ys) = ap (λ (l : List Note). y ∷ l) (seconds_notes ys)

seconds_agree : (s : List Note) → lowest (seconds s) ≡ None
unfolding lowest clashes seconds
seconds_agree [] = refl
seconds_agree (y ∷ ys) = seconds_agree ys

none_agrees : (s : List Note) → lowest (aside [] s) ≡ None
unfolding aside
none_agrees s = seconds_agree s

none_merged : (s : List Note) → merged [] s ≡ s
unfolding merged aside
none_merged s = seconds_notes s

pub joined_none :
    (places : ℕ) (f : List Note) → is_book f ≡ true → 256 ≤ places
    → ((join_of places f [] ≡ Ok (length f)) × (merged f [] ≡ f)) × ((join_of places [] f ≡ Ok (length f)) × (merged [] f ≡ f))
joined_none places f b h =
    let e = none_agrees f in
    let k = none_merged f in
    let t = sym (merged_turns [] f e) ∙ k in
    let r = stays places [] f f none_is_book b b h e k in
    ((either_order places f [] b none_is_book ∙ r, t), (r, k))
