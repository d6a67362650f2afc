-- THE ORDER of two notes, Ask 8: it is total; from the other side, of three, and of the blank that stands before a book. Assumes nothing.
use Rattle.std.proofs.Common.{◌≡◌, ℕ, ◌<◌, true, refl, sym, ap, ap₂, ◌∙◌, arith}
use Rattle.std.proofs.lemmas.Bool.Decides.{nat_tests}
use Rattle.std.specs.Cmp.{IsTotalOrder}
use Rattle.std.proofs.lemmas.Cmp.{then_total, on_total, nat_cmp_total, tied_itself, ranked}
use Rattle.std.specs.Ordering.{ordering_reverse, ordering_then, nat_cmp}
use Rattle.std.specs.declared.cmp.Ordering.{Ordering}
use Rattle.std.specs.declared.cmp.Ordering.TheVariants.{Less, Equal, Greater}
use Rattle.notes.specs.declared.Note.{Note}
use Rattle.notes.specs.Notes.{blank, order_of, good_of}
use Rattle.wire.proofs.Laws.{both_true}
use borrow.Author.Tests.{ltb-true}

pub order_total : IsTotalOrder order_of
unfolding order_of
order_total = then_total (on_total (λ (x : Note). x.tablet) nat_cmp_total) (on_total (λ (x : Note). x.number) nat_cmp_total)

-- FROM THE OTHER SIDE
pub order_flips : (a b : Note) → order_of b a ≡ ordering_reverse (order_of a b)
order_flips a b = order_total.antisymm b a

pub before_back : (a b : Note) → order_of a b ≡ Less → order_of b a ≡ Greater
before_back a b e = order_flips a b ∙ ap ordering_reverse e

pub after_back : (a b : Note) → order_of a b ≡ Greater → order_of b a ≡ Less
after_back a b e = order_flips a b ∙ ap ordering_reverse e

-- SAME means the same tablet and number, and these say it
both_equal : (o p : Ordering) → ordering_then o p ≡ Equal → (o ≡ Equal) × (p ≡ Equal)
both_equal Less p e = cc
both_equal Equal p e = (refl, e)
both_equal Greater p e = cc

equal_means : (m n : ℕ) → nat_cmp m n ≡ Equal → m ≡ n
equal_means m n e = ranked m n Equal (sym e)

pub same_means : (a b : Note) → order_of a b ≡ Equal → (a.tablet ≡ b.tablet) × (a.number ≡ b.number)
unfolding order_of
same_means a b e =
    let p = both_equal (nat_cmp a.tablet b.tablet) (nat_cmp a.number b.number) e in
    (equal_means a.tablet b.tablet p.0, equal_means a.number b.number p.1)

pub same_self : (a : Note) → order_of a a ≡ Equal
same_self a = tied_itself order_total a

pub means_same : (a b : Note) → a.tablet ≡ b.tablet → a.number ≡ b.number → order_of a b ≡ Equal
unfolding order_of
means_same a b t n = ap₂ (λ (x y : ℕ). ordering_then (nat_cmp a.tablet x) (nat_cmp a.number y)) (sym t) (sym n) ∙ same_self a

-- OF THREE
pub before_trans : (a b c : Note) → order_of a b ≡ Less → order_of b c ≡ Less → order_of a c ≡ Less
before_trans a b c e k = order_total.trans a b c e k

-- no more than tablet and number are looked at
pub same_first : (a b c : Note) → order_of a b ≡ Equal → order_of a c ≡ order_of b c
same_first a b c e = order_total.congr a b c e

-- a note that is before another is neither the same nor after it
pub before_same : (a b : Note) → order_of a b ≡ Less → a.tablet ≡ b.tablet → a.number ≡ b.number → ⊥
before_same a b e t n = let d = means_same a b t n in cc

pub before_self : (a : Note) → order_of a a ≡ Less → ⊥
before_self a e = before_same a a e refl refl

pub before_both : (a b : Note) → order_of a b ≡ Less → order_of b a ≡ Less → ⊥
before_both a b e k = before_self a (before_trans a b a e k)

-- THE BLANK is below every good note
zero_below : (m n : ℕ) → 0 < n → ordering_then (nat_cmp 0 m) (nat_cmp 0 n) ≡ Less
zero_below m n h = grind (arith, nat_tests)

pub blank_below : (x : Note) → good_of x ≡ true → order_of blank x ≡ Less
unfolding good_of blank order_of
blank_below x e =
    let p = both_true _ _ e in
    let h = both_true _ _ p.0 in
    zero_below x.tablet x.number (ltb-true 0 x.number (both_true _ _ h.0).0)
