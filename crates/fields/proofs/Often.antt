-- Laws of how often a tag stands: counting as far as it is told is enough; and where a tag stands once, its first field is the only one. Assumes nothing.
use Prim.Native.Nat.{ℕ, ◌+◌, ◌≤◌}
use native.Mathlib.Nat.{add-zero}
use native.Mathlib.Omega.{arith}
use mathlib.Core.Path.{◌≡◌, refl, sym, ap, ◌∙◌}
use mathlib.Core.List.{List}
use mathlib.Core.Logic.{◌⊎◌, inl, inr}
use mathlib.Core.Bool.{Bool, true, false, cond, not}
use lib.Dec.{ltb, eqb}
use borrow.Author.Tests.{ltb-false, eqb-false, eq-eqb, ne_eqb}
use Rattle.fields.specs.declared.Step.{Step}
use Rattle.fields.specs.declared.Times.{Times}
use Rattle.fields.specs.declared.Times.TheVariants.{Twice}
use Rattle.std.specs.Prelude.{Some}
use Rattle.fields.specs.declared.Step.TheVariants.{Field, Bad, End}
use Rattle.fields.specs.Fields.{Item, Run, ended, broken, one, step_at, rest_from, first_in, found, copies, times_of, met}
use Rattle.fields.proofs.Laws.{after}

-- two and more are told alike
pub many : (n : ℕ) → 2 ≤ n → times_of n ≡ Twice
many n h = rw (ne_eqb n 0 (λ e. omega arith), ne_eqb n 1 (λ e. omega arith))

pub met_counts : (n u t k : ℕ) → times_of (met n u t + k) ≡ times_of (n + (cond (eqb u t) 1 0 + k))
met_counts n u t k = go (eqb u t)
  where
    more : (c : Bool) → ltb n 2 ≡ c → times_of (cond c (n + 1) n + k) ≡ times_of (n + (1 + k))
    more true e = let q : n + 1 + k ≡ n + (1 + k) = omega arith in ap times_of q
    more false e = let h = ltb-false n 2 e in many (n + k) (omega arith) ∙ sym (many (n + (1 + k)) (omega arith))

    go : (c : Bool) → times_of (cond c (cond (ltb n 2) (n + 1) n) n + k) ≡ times_of (n + (cond c 1 0 + k))
    go true = more (ltb n 2) refl
    go false = let q : n + k ≡ n + (0 + k) = omega arith in ap times_of q

-- THE WALK: what was met so far, with what is left, tells how often the tag stands
pub record Met (t : ℕ) (s : List ℕ) (at n : ℕ) : Type 0 where
  pub same : times_of (copies t (rest_from s 0)) ≡ times_of (n + copies t (rest_from s at))

pub none_met : (t : ℕ) (s : List ℕ) → Met t s 0 0
none_met t s = let q : copies t (rest_from s 0) ≡ 0 + copies t (rest_from s 0) = omega arith in record { same = ap times_of q }

pub meets : {t : ℕ} {s : List ℕ} {at n m u b l x : ℕ} → Met t s at n → step_at s at ≡ Field u b l x → m ≡ met n u t → Met t s x m
meets {t} {s} {at} {n} {m} {u} {x = x} w e i = record {
  same = w.same ∙ ap (λ r. times_of (n + copies t r)) (after s at e) ∙ sym (met_counts n u t (copies t (rest_from s x)))
      ∙ ap (λ k. times_of (k + copies t (rest_from s x))) (sym i);
}

pub all_met : {t : ℕ} {s : List ℕ} {at n : ℕ} (r : Run) {z : Times} → Met t s at n → rest_from s at ≡ r → copies t r ≡ 0 → z ≡ times_of n
    → z ≡ times_of (copies t (rest_from s 0))
all_met {t} {s} {at} {n} r w e o i = i ∙ sym (w.same ∙ ap (λ k. times_of (n + k)) (ap (copies t) e ∙ o) ∙ ap times_of (add-zero n))

-- so it is where no field follows
pub none_more : {t : ℕ} {s : List ℕ} {at n : ℕ} {st : Step} {z : Times} → Met t s at n → step_at s at ≡ st → ((u b l x : ℕ) → st ≡ Field u b l x → ⊥)
    → z ≡ times_of n → z ≡ times_of (copies t (rest_from s 0))
none_more {t} {s} {at} {st = st} w e h i = all_met (rest_from s at) w refl (none_left st e h) i
  where
    none_left : (st : Step) → step_at s at ≡ st → ((u b l x : ℕ) → st ≡ Field u b l x → ⊥) → copies t (rest_from s at) ≡ 0
    none_left (Field u b l x) e h = absurd (h u b l x refl)
    none_left Bad e h = ap (copies t) (after s at e)
    none_left End e h = ap (copies t) (after s at e)

-- A FIELD OF A RUN
abbrev pub Among : Item → Run → Type 0
Among f ended = ⊥
Among f broken = ⊥
Among f (one g r) = (f ≡ g) ⊎ Among f r

-- it is counted
counted : (f : Item) (r : Run) → Among f r → 1 ≤ copies f.tag r
counted f ended x = elim x [ ]
counted f broken x = elim x [ ]
counted f (one g r) (inl e) = let i : eqb g.tag f.tag ≡ true = eq-eqb _ _ (sym (ap (λ x. x.tag) e)) in rw i (omega arith)
counted f (one g r) (inr a) = let h = counted f r a in omega (arith, h)

-- where a tag stands once, every field with it is the first
pub only_one : (f : Item) (r : Run) → copies f.tag r ≡ 1 → Among f r → first_in f.tag r ≡ Some (f.start, f.len)
only_one f ended h a = elim a [ ]
only_one f broken h a = elim a [ ]
only_one f (one g r) h a = go (λ k b. only_one f r k b) (eqb g.tag f.tag) refl h a
  where
    go : (copies f.tag r ≡ 1 → Among f r → first_in f.tag r ≡ Some (f.start, f.len))
        → (c : Bool) → eqb g.tag f.tag ≡ c → cond c 1 0 + copies f.tag r ≡ 1 → (f ≡ g) ⊎ Among f r
        → cond c (Some (g.start, g.len)) (first_in f.tag r) ≡ Some (f.start, f.len)
    go k true e h (inl i) = ap (λ (x : Item). Some (x.start, x.len)) (sym i)
    go k true e h (inr b) = absurd (omega (arith, counted f r b))
    go k false e h (inl i) = absurd (eqb-false g.tag f.tag e (sym (ap (λ x. x.tag) i)))
    go k false e h (inr b) = let z : copies f.tag r ≡ 1 = omega (arith, h) in k z b

-- a tag is found where it stands at all
pub found_copies : (t : ℕ) (r : Run) → found (first_in t r) ≡ not (eqb (copies t r) 0)
found_copies t ended = refl
found_copies t broken = refl
found_copies t (one f r) = go (found_copies t r) (eqb f.tag t)
  where
    go : found (first_in t r) ≡ not (eqb (copies t r) 0)
        → (c : Bool) → found (cond c (Some (f.start, f.len)) (first_in t r)) ≡ not (eqb (cond c 1 0 + copies t r) 0)
    go h true = let e : eqb (1 + copies t r) 0 ≡ false = ne_eqb (1 + copies t r) 0 (λ e. omega arith) in rw e
    go h false = let q : 0 + copies t r ≡ copies t r = omega arith in rw q h
