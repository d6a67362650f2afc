-- TWO LISTS SIDE BY SIDE, Ask 8, as steps, along which the proofs about joined books go; and the same from the other side. Assumes nothing.
use Prim.Native.Nat.{suc}
use mathlib.Core.Path.{◌≡◌, refl, sym, ap, ap₂, ◌∙◌, subst}
use mathlib.Core.Bool.{Bool, true, false, cond}
use mathlib.Core.List.{List, [], ◌∷◌}
use lib.ListN.{length}
use borrow.Author.Tests.{not-false}
use Rattle.notes.specs.declared.Note.{Note}
use Rattle.std.specs.declared.cmp.Ordering.{Ordering}
use Rattle.std.specs.declared.cmp.Ordering.TheVariants.{Less, Equal, Greater}
use Rattle.notes.specs.Notes.{order_of, alike_of}
use Rattle.notes.proofs.Laws.{alike_note, note_alike}
use Rattle.std.proofs.Common.{None, Some}
use Rattle.union.specs.declared.Pair.{Pair}
use Rattle.union.specs.declared.Pair.TheVariants.{First, Second, Both}
use Rattle.union.specs.Union.{by, seconds, besides, aside, note_in, notes_in, merged, clashes, lowest}
use Rattle.std.specs.Ordering.{ordering_reverse}
use Rattle.agreed.proofs.Order.{order_flips, same_means, before_back, after_back}

-- THE STEPS
pub data Sided : List Note → List Note → List Pair → Type 0 where
  ended : Sided [] [] []
  only_second : {y : Note} {ys : List Note} {ps : List Pair} → Sided [] ys ps → Sided [] (y ∷ ys) (Second y ∷ ps)
  only_first : {x : Note} {xs : List Note} {ps : List Pair} → Sided xs [] ps → Sided (x ∷ xs) [] (First x ∷ ps)
  before : {x y : Note} {xs ys : List Note} {ps : List Pair} → order_of x y ≡ Less → Sided xs (y ∷ ys) ps → Sided (x ∷ xs) (y ∷ ys) (First x ∷ ps)
  same : {x y : Note} {xs ys : List Note} {ps : List Pair} → order_of x y ≡ Equal → Sided xs ys ps → Sided (x ∷ xs) (y ∷ ys) (Both x y ∷ ps)
  after : {x y : Note} {xs ys : List Note} {ps : List Pair} → order_of x y ≡ Greater → Sided (x ∷ xs) ys ps → Sided (x ∷ xs) (y ∷ ys) (Second y ∷ ps)

seconds_sided : (s : List Note) → Sided [] s (seconds s)
unfolding seconds
seconds_sided [] = ended
seconds_sided (y ∷ ys) = only_second (seconds_sided ys)

by_order :
    (x y : Note) (xs ys : List Note) (b d a : List Pair) (o : Ordering) → order_of x y ≡ o
    → Sided xs (y ∷ ys) b → Sided xs ys d → Sided (x ∷ xs) ys a → Sided (x ∷ xs) (y ∷ ys) (by o (First x ∷ b) (Both x y ∷ d) (Second y ∷ a))
unfolding by
by_order x y xs ys b d a Less e p q r = before e p
by_order x y xs ys b d a Equal e p q r = same e q
by_order x y xs ys b d a Greater e p q r = after e r

besides_sided :
    (x : Note) (xs : List Note) (rest : List Note → List Pair) → ((s : List Note) → Sided xs s (rest s)) → (s : List Note)
    → Sided (x ∷ xs) s (besides x rest s)
unfolding besides
besides_sided x xs rest h [] = only_first (h [])
besides_sided x xs rest h (y ∷ ys) =
    by_order x y xs ys (rest (y ∷ ys)) (rest ys) (besides x rest ys) (order_of x y) refl (h (y ∷ ys)) (h ys) (besides_sided x xs rest h ys)

pub sided : (f s : List Note) → Sided f s (aside f s)
unfolding aside
sided [] s = seconds_sided s
sided (x ∷ xs) s = besides_sided x xs (aside xs) (sided xs) s

-- there is one way to lay them so
pub one_way : (f s : List Note) (ps : List Pair) → Sided f s ps → aside f s ≡ ps
unfolding aside besides seconds by
one_way f s ps ended = refl
one_way f s ps (only_second {y = y} {ys = ys} {ps = qs} r) = ap (λ (l : List Pair). Second y ∷ l) (one_way [] ys qs r)
one_way f s ps (only_first {x = x} {xs = xs} {ps = qs} r) = ap (λ (l : List Pair). First x ∷ l) (one_way xs [] qs r)
one_way f s ps (before {x = x} {y = y} {xs = xs} {ys = ys} {ps = qs} e r) =
    ap (λ (o : Ordering). by o (First x ∷ aside xs (y ∷ ys)) (Both x y ∷ aside xs ys) (Second y ∷ aside (x ∷ xs) ys)) e
    ∙ ap (λ (l : List Pair). First x ∷ l) (one_way xs (y ∷ ys) qs r)
one_way f s ps (same {x = x} {y = y} {xs = xs} {ys = ys} {ps = qs} e r) =
    ap (λ (o : Ordering). by o (First x ∷ aside xs (y ∷ ys)) (Both x y ∷ aside xs ys) (Second y ∷ aside (x ∷ xs) ys)) e
    ∙ ap (λ (l : List Pair). Both x y ∷ l) (one_way xs ys qs r)
one_way f s ps (after {x = x} {y = y} {xs = xs} {ys = ys} {ps = qs} e r) =
    ap (λ (o : Ordering). by o (First x ∷ aside xs (y ∷ ys)) (Both x y ∷ aside xs ys) (Second y ∷ aside (x ∷ xs) ys)) e
    ∙ ap (λ (l : List Pair). Second y ∷ l) (one_way (x ∷ xs) ys qs r)

-- FROM THE OTHER SIDE
turn : Pair → Pair
turn (First x) = Second x
turn (Second y) = First y
turn (Both x y) = Both y x

turns : List Pair → List Pair
turns [] = []
turns (p ∷ ps) = turn p ∷ turns ps

turned : (f s : List Note) (ps : List Pair) → Sided f s ps → Sided s f (turns ps)
unfolding turns turn
turned f s ps ended = ended
turned f s ps (only_second {ys = ys} {ps = qs} r) = only_first (turned [] ys qs r)
turned f s ps (only_first {xs = xs} {ps = qs} r) = only_second (turned xs [] qs r)
turned f s ps (before {x = x} {y = y} {xs = xs} {ys = ys} {ps = qs} e r) = after (before_back x y e) (turned xs (y ∷ ys) qs r)
turned f s ps (same {x = x} {y = y} {xs = xs} {ys = ys} {ps = qs} e r) = same (order_flips x y ∙ ap ordering_reverse e) (turned xs ys qs r)
turned f s ps (after {x = x} {y = y} {xs = xs} {ys = ys} {ps = qs} e r) = before (after_back x y e) (turned (x ∷ xs) ys qs r)

aside_turns : (f s : List Note) → aside s f ≡ turns (aside f s)
aside_turns f s = one_way s f (turns (aside f s)) (turned f s (aside f s) (sided f s))

-- as many
turns_length : (ps : List Pair) → length (notes_in (turns ps)) ≡ length (notes_in ps)
unfolding notes_in turns
turns_length [] = refl
turns_length (p ∷ ps) = ap suc (turns_length ps)

pub merged_length : (f s : List Note) → length (merged f s) ≡ length (merged s f)
unfolding merged
merged_length f s = sym (ap (λ (ps : List Pair). length (notes_in ps)) (aside_turns f s) ∙ turns_length (aside f s))

-- the comparison of contents, from the other side
pub alike_back : (a b : Note) → alike_of a b ≡ alike_of b a
alike_back a b = go (alike_of a b) (alike_of b a) refl refl
  where
    go : (t u : Bool) → alike_of a b ≡ t → alike_of b a ≡ u → t ≡ u
    go true u e d = sym (sym d ∙ subst (λ (c : Note). alike_of c a ≡ true) (alike_note a b e) (note_alike a))
    go false true e d = sym e ∙ subst (λ (c : Note). alike_of c b ≡ true) (alike_note b a d) (note_alike b)
    go false false e d = refl

-- the same clash
turns_lowest : (f s : List Note) (ps : List Pair) → Sided f s ps → lowest (turns ps) ≡ lowest ps
unfolding lowest turns turn clashes note_in
turns_lowest f s ps ended = refl
turns_lowest f s ps (only_second {ys = ys} {ps = qs} r) = turns_lowest [] ys qs r
turns_lowest f s ps (only_first {xs = xs} {ps = qs} r) = turns_lowest xs [] qs r
turns_lowest f s ps (before {y = y} {xs = xs} {ys = ys} {ps = qs} e r) = turns_lowest xs (y ∷ ys) qs r
turns_lowest f s ps (same {x = x} {y = y} {xs = xs} {ys = ys} {ps = qs} e r) =
    let k = same_means x y e in
    let h = turns_lowest xs ys qs r in
    rw (alike_back y x, k.0, k.1, h)
turns_lowest f s ps (after {x = x} {xs = xs} {ys = ys} {ps = qs} e r) = turns_lowest (x ∷ xs) ys qs r

pub lowest_turns : (f s : List Note) → lowest (aside f s) ≡ lowest (aside s f)
lowest_turns f s = sym (ap lowest (aside_turns f s) ∙ turns_lowest f s (aside f s) (sided f s))

-- WHERE NOTHING CLASHES
pub agree_head : (p : Pair) (ps : List Pair) → lowest (p ∷ ps) ≡ None → (clashes p ≡ false) × (lowest ps ≡ None)
unfolding lowest
agree_head p ps e = go (clashes p) e
  where
    go : (t : Bool) → cond t (Some ((note_in p).tablet, (note_in p).number)) (lowest ps) ≡ None → (t ≡ false) × (lowest ps ≡ None)
    go true d = cc
    go false d = (refl, d)

pub agree_both : (x y : Note) (ps : List Pair) → lowest (Both x y ∷ ps) ≡ None → x ≡ y
unfolding clashes
agree_both x y ps e = alike_note x y (not-false (alike_of x y) (agree_head (Both x y) ps e).0)

agree_notes : (ps : List Pair) → lowest ps ≡ None → notes_in (turns ps) ≡ notes_in ps
unfolding notes_in turns turn note_in
agree_notes [] e = refl
agree_notes (First x ∷ ps) e = ap (λ (l : List Note). x ∷ l) (agree_notes ps (agree_head (First x) ps e).1)
agree_notes (Second y ∷ ps) e = ap (λ (l : List Note). y ∷ l) (agree_notes ps (agree_head (Second y) ps e).1)
agree_notes (Both x y ∷ ps) e = ap₂ ◌∷◌ (sym (agree_both x y ps e)) (agree_notes ps (agree_head (Both x y) ps e).1)

pub merged_turns : (f s : List Note) → lowest (aside f s) ≡ None → merged f s ≡ merged s f
unfolding merged
merged_turns f s e = sym (ap notes_in (aside_turns f s) ∙ agree_notes (aside f s) e)
