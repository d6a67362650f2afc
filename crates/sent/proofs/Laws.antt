-- Laws of the places and marks that one walk leaves: of a payload whose places fit 16 bits they give the view that the payload gives. Assumes nothing.
use Prim.Native.Nat.{ℕ, ◌+◌, ◌*◌, ◌/◌, ◌%◌, ◌≤◌, ◌<◌}
use native.Mathlib.Omega.{arith}
use mathlib.Core.Path.{◌≡◌, refl, sym, ap, ◌∙◌}
use mathlib.Core.List.{List}
use mathlib.Core.Bool.{Bool, true, false, cond}
use lib.ListN.{length, get_or, set, replicate, length-replicate, get_or-replicate}
use lib.Seq.{get_or-set_same, get_or-set_other}
use lib.Dec.{ltb, eqb}
use borrow.Author.Tests.{ltb-true, eqb-true, eqb-false, lt-ltb, ne_eqb}
use Rattle.wire.proofs.Laws.{by_cases}
use denote.Bor.{Bor}
use Rattle.std.specs.Prelude.{Some, None}
use Rattle.sent.specs.declared.Sent.{Sent}
use Rattle.fields.specs.declared.Times.TheVariants.{Absent, Once}
use Rattle.fields.specs.declared.Step.TheVariants.{Field}
use Rattle.fields.specs.Fields.{Run, ended, broken, one, step_at, rest_from, whole, first_in, view_of, well_formed}
use Rattle.fields.specs.Fields.{Found, is_twice, twice}
use Rattle.fields.proofs.Laws.{Within, within, after}
use Rattle.sent.specs.Sent.{places, words, packed, spot, with_mark, unmarked, noted, notes, walked, places_of, Filled, lookup, often, view_by, view, Walked, unwalked}
use Rattle.sent.proofs.Marks.{place_stays, none_marked, noted_length}
use Rattle.sent.proofs.Often.{often_tag}

-- THE LOOP: what is left of the walk gives the rest of both
pub record Midway (p l₀ l : List ℕ) (here : ℕ) : Type 0 where
  pub form : whole (rest_from p 0) ≡ whole (rest_from p here)
  pub rest : walked p l₀ ≡ notes (rest_from p here) l

pub begun : (p l : List ℕ) → Midway p l l 0
unfolding walked
begun p l = record { form = refl; rest = refl }

pub walk_on : {p l₀ l l' : List ℕ} {here t b n x : ℕ} → Midway p l₀ l here → step_at p here ≡ Field t b n x → l' ≡ noted l t b n → Midway p l₀ l' x
walk_on {p} {l₀} {l} {l'} {here} {t} {b} {n} {x} w e h = record {
  form = w.form ∙ ap whole (after p here e);
  rest = w.rest ∙ ap (λ r. notes r l) (after p here e) ∙ ap (notes (rest_from p x)) (sym h);
}

pub walk_ends : {p l₀ l : List ℕ} {here : ℕ} (r : Run) {b : Bool} → Midway p l₀ l here → rest_from p here ≡ r → whole r ≡ b → notes r l ≡ l → Filled p l₀ b l
walk_ends {p} {l₀} {l} r w e f g = record {
  form = sym (w.form ∙ ap whole e ∙ f);
  places = sym (w.rest ∙ ap (λ r. notes r l) e ∙ g);
}

pub fill_form : {p l : List ℕ} {r : Bool} {l' : List ℕ} → Filled p l r l' → r ≡ well_formed p
unfolding well_formed
fill_form x = x.form

-- A PLACE that fits gives the value's start and length back
spot_packed : (b n : ℕ) → 0 < b → b + n ≤ 65535 → spot (packed b n) ≡ Some (b, n)
spot_packed b n h k =
    let m : b % 65536 ≡ b = omega arith in
    let o : n % 65536 ≡ n = omega arith in
    let z : eqb (b * 65536 + n) 0 ≡ false = ne_eqb (b * 65536 + n) 0 (λ q. omega arith) in
    let e : (b * 65536 + n) / 65536 ≡ b = omega arith in
    let f : (b * 65536 + n) % 65536 ≡ n = omega arith in
    rw (m, o, z, e, f)

-- what was noted stays, else the first field that is left
abbrev or_else : Found → Found → Found
or_else (Some (b, n)) y = Some (b, n)
or_else None y = y

else_absent : (x : Found) → or_else x None ≡ x
else_absent (Some (b, n)) = refl
else_absent None = refl

module _ (t : ℕ) (small : t < places) where
  abbrev seen : List ℕ → Found
  seen l = spot (get_or l t 0)

  -- a field with another tag does not touch the place
  other : (l : List ℕ) (u b n : ℕ) → (u ≡ t → ⊥) → seen (noted l u b n) ≡ seen l
  unfolding noted
  other l u b n h =
      by_cases (λ (m : List ℕ). seen m ≡ seen l) (ltb u places) {x = cond (eqb (get_or l u 0) 0) (set l u (packed b n)) (with_mark l u)} {y = l}
      (λ _. by_cases (λ (m : List ℕ). seen m ≡ seen l) (eqb (get_or l u 0) 0) {x = set l u (packed b n)} {y = with_mark l u}
      (λ _. ap spot (get_or-set_other l u t (packed b n) 0 (λ q. h (sym q)))) (λ _. ap spot (place_stays l u small)))
      (λ _. refl)

  -- one with the tag is noted where none was
  same : (l : List ℕ) (b n : ℕ) → length l ≡ words → 0 < b → b + n ≤ 65535 → (y : Found) → or_else (seen (noted l t b n)) y ≡ or_else (seen l) (Some (b, n))
  unfolding noted
  same l b n h k m y = rw (lt-ltb t places small) (go (eqb (get_or l t 0) 0) refl)
    where
      go : (c : Bool) → eqb (get_or l t 0) 0 ≡ c
          → or_else (seen (cond c (set l t (packed b n)) (with_mark l t))) y ≡ or_else (cond c None (Some (get_or l t 0 / 65536, get_or l t 0 % 65536))) (Some (b, n))
      go true e = ap (λ x. or_else x y) (ap spot (get_or-set_same l t (packed b n) 0 (omega arith)) ∙ spot_packed b n k m)
      go false e = ap (λ x. or_else x y) (ap spot (place_stays l t small)) ∙ rw e

  -- the place that a run leaves, from any
  run_law : (p : List ℕ) → length p ≤ 65535 → (r : Run) → Within p r → (l : List ℕ) → length l ≡ words → seen (notes r l) ≡ or_else (seen l) (first_in t r)
  run_law p z ended k l h = sym (else_absent (seen l))
  run_law p z broken k l h = sym (else_absent (seen l))
  run_law p z (one f r) k l h =
      run_law p z r k.1 (noted l f.tag f.start f.len) (noted_length l f.tag f.start f.len ∙ h)
      ∙ go (eqb f.tag t) refl
    where
      go : (c : Bool) → eqb f.tag t ≡ c
          → or_else (seen (noted l f.tag f.start f.len)) (first_in t r) ≡ or_else (seen l) (cond c (Some (f.start, f.len)) (first_in t r))
      go true e = rw (eqb-true f.tag t e) (same l f.start f.len h k.0.0 (omega (arith, k.0.1)) (first_in t r))
      go false e = ap (λ x. or_else x (first_in t r)) (other l f.tag f.start f.len (eqb-false f.tag t e))

  nothing : seen (replicate words 0) ≡ None
  nothing = rw (get_or-replicate {A = ℕ} words t 0 0 (omega (arith, small)))

  below : (p : List ℕ) → length p ≤ 65535 → seen (places_of p) ≡ first_in t (rest_from p 0)
  unfolding walked
  below p z =
      run_law p z (rest_from p 0) (within p 0) (replicate words 0) (length-replicate {A = ℕ} words 0)
      ∙ ap (λ x. or_else x (first_in t (rest_from p 0))) nothing

-- at every tag
at_tag : (p : List ℕ) → length p ≤ 65535 → (t : ℕ) → lookup p (places_of p) t ≡ first_in t (rest_from p 0)
unfolding lookup
at_tag p z t = by_cases (λ (x : Found). x ≡ first_in t (rest_from p 0)) (ltb t places) (λ e. below t (ltb-true t places e) p z) (λ e. refl)

-- THE LAW: the view by the walk's places and marks is that of the payload
pub same_view : (p : List ℕ) → length p ≤ 65535 → view_by p (places_of p) ≡ view_of p
unfolding view_of view_by
same_view p z = λ i. record { bytes = p; at = λ t. at_tag p z t i; times = λ t. often_tag p z t i }

-- and of a payload walked: the view is the payload's own, and `whole` says whether it is well formed
pub walked_view : {p : Bor (List ℕ)} {s t : Sent} → s ≡ unwalked p → Walked s t → length p.now ≤ 65535 → view t ≡ view_of p.now
walked_view {p} {s} {t} e w h =
    let x = rw e at w in
    ap (λ b. view_by b.now t.places) x.payload ∙ ap (view_by p.now) x.filled.places ∙ same_view p.now h

pub walked_form : {p : Bor (List ℕ)} {s t : Sent} → s ≡ unwalked p → Walked s t → t.whole ≡ well_formed p.now
walked_form e w = fill_form (rw e at w).filled

-- where no tag is marked none stands twice
pub not_twice : (p l : List ℕ) {t : ℕ} → t < places → unmarked l ≡ true → twice t (view_by p l) ≡ false
unfolding twice view_by often
not_twice p l {t} h e = rw (lt-ltb t places h, none_marked l h e) (go (eqb (get_or l t 0) 0))
  where
    go : (b : Bool) → is_twice (cond b Absent Once) ≡ false
    go true = refl
    go false = refl
