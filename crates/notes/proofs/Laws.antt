-- What the callers of `notes` cite. Assumes nothing.
use Rattle.std.proofs.Common.{◌≡◌, refl, ap, ◌∙◌, ℕ, eqb, Bool, true, false, ◌&&◌, List, [], ◌∷◌}
use Rattle.std.specs.Ordering.{is_lt}
use lib.Pointwise.{pointwise}
use borrow.Author.Tests.{eqb-true, eq-eqb}
use Rattle.wire.specs.Wire.{alike}
use Rattle.wire.proofs.Laws.{both_true, alike_same, alike_self}
use Rattle.notes.specs.declared.Note.{Note}
use Rattle.notes.specs.declared.TheConstants.{BLANK}
use Rattle.notes.specs.Notes.{blank, order_of, alike_of, text_good, good_of, follows}

pub blank_is : BLANK ≡ blank
unfolding blank
blank_is = refl

-- WHAT `==` TELLS of two notes is whether they have the same content
same_bytes : (s t : List ℕ) → pointwise eqb s t ≡ alike s t
unfolding alike
same_bytes [] [] = refl
same_bytes [] (y ∷ t) = refl
same_bytes (x ∷ s) [] = refl
same_bytes (x ∷ s) (y ∷ t) = ap (λ b. eqb x y && b) (same_bytes s t)

regrouped : (a b c d e : Bool) → (a && (b && (c && (d && e)))) ≡ (((a && b) && (c && d)) && e)
regrouped false b c d e = refl
regrouped true false c d e = refl
regrouped true true false d e = refl
regrouped true true true d e = refl

pub same_note : (a b : Note) → (eqb a.tablet b.tablet && (eqb a.number b.number && (eqb a.hours b.hours && (eqb a.len b.len && pointwise eqb a.text b.text)))) ≡ alike_of a b
unfolding alike_of
same_note a b =
    regrouped (eqb a.tablet b.tablet) (eqb a.number b.number) (eqb a.hours b.hours) (eqb a.len b.len) (pointwise eqb a.text b.text)
    ∙ ap (λ t. ((eqb a.tablet b.tablet && eqb a.number b.number) && (eqb a.hours b.hours && eqb a.len b.len)) && t) (same_bytes a.text b.text)

-- and that is equality
pub alike_note : (a b : Note) → alike_of a b ≡ true → a ≡ b
unfolding alike_of
alike_note a b e =
    let p = both_true _ _ e in
    let q = both_true _ _ p.0 in
    let h = both_true _ _ q.0 in
    let k = both_true _ _ q.1 in
    let e₁ = eqb-true a.tablet b.tablet h.0 in
    let e₂ = eqb-true a.number b.number h.1 in
    let e₃ = eqb-true a.hours b.hours k.0 in
    let e₄ = eqb-true a.len b.len k.1 in
    let e₅ = alike_same a.text b.text p.1 in
    λ i. record { tablet = e₁ i; number = e₂ i; hours = e₃ i; len = e₄ i; text = e₅ i }

pub note_alike : (a : Note) → alike_of a a ≡ true
unfolding alike_of
note_alike a = simp (eq-eqb a.tablet a.tablet refl, eq-eqb a.number a.number refl, eq-eqb a.hours a.hours refl, eq-eqb a.len a.len refl, alike_self a.text)

-- A NOTE THAT MAY STAND NEXT is good; a blank is not
pub follows_good : (y x : Note) → follows y x ≡ true → good_of x ≡ true
unfolding follows
follows_good y x e = (both_true (good_of x) (is_lt (order_of y x)) e).0

pub blank_bad : good_of blank ≡ false
unfolding good_of blank text_good
blank_bad = refl
