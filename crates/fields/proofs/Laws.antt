-- Laws of the field walk: what a step tells of its bounds, and the one equation that unfolds the run of fields, in which no count of turns is left;
-- and of the writers. Assumes nothing.
use Prim.Native.Nat.{ℕ, zero, suc, ◌+◌, ◌-◌, ◌*◌, ◌≤◌, ◌<◌}
use native.Mathlib.Omega.{arith}
use mathlib.Core.Path.{◌≡◌, refl, sym, ap, ◌∙◌, subst}
use mathlib.Core.List.{List, [], ◌∷◌, ◌++◌}
use mathlib.Core.Bool.{Bool, true, false, cond}
use lib.ListN.{length, get_or, take, drop, length-append, length-drop}
use lib.Seq.{get_or-drop, take_all}
use lib.Dec.{leb, ltb, eqb}
use borrow.Author.Tests.{leb-true, leb-false, le-leb, lt-leb, lt-ltb, le-ltb, eq-eqb, ne_eqb}
use Rattle.fields.specs.declared.Step.{Step}
use Rattle.fields.specs.declared.Step.TheVariants.{Field, Bad, End}
use Rattle.std.specs.Prelude.{Some, None}
use Rattle.wire.specs.Wire.{room, Wrote, put, fit, placed, be2}
use Rattle.wire.proofs.Laws.{room_true, room_false, by_cases, runs, then, tested, refused, put_nil}
use Rattle.fields.specs.Fields.{head_of, tlv, Tagged, each, field_at, step_at, Run, ended, broken, one, go_on, run_n, rest_from, first_in}

-- what a step tells: a field ends past where it started and within the payload
abbrev pub Bounds : List ℕ → ℕ → Step → Type 0
Bounds s at (Field t b n x) = (at < b) × (b + n ≡ x) × (x ≤ length s)
Bounds s at Bad = Unit {0}
Bounds s at End = length s ≤ at

field_bounds : (s : List ℕ) (at b n : ℕ) → at < b → b ≤ length s → Bounds s at (field_at s at b n)
unfolding field_at
field_bounds s at b n h k = by_cases (Bounds s at) (leb n (length s - b)) (λ e. (h, refl, omega (arith, leb-true n (length s - b) e))) (λ e. tt)

pub bounds : (s : List ℕ) (at : ℕ) → Bounds s at (step_at s at)
unfolding step_at
bounds s at =
    by_cases (Bounds s at) (leb (length s) at) (λ e. leb-true _ _ e) λ e₁.
    by_cases (Bounds s at) (leb (length s) (at + 1)) (λ e. tt) λ e₂.
    by_cases (Bounds s at) (eqb (get_or s (at + 1) 0) 255)
    (λ _. by_cases (Bounds s at) (leb (length s) (at + 3)) (λ e. tt) λ e₃.
    field_bounds s at (at + 4) _ (omega arith) (omega (arith, leb-false (length s) (at + 3) e₃)))
    (λ _. field_bounds s at (at + 2) _ (omega arith) (omega (arith, leb-false (length s) (at + 1) e₂)))

-- nothing stands past the end
pub past : (s : List ℕ) (at : ℕ) → length s ≤ at → step_at s at ≡ End
unfolding step_at
past s at h = simp (le-leb _ _ h)

-- what a step finds in the bytes that are left, as `&s[at..]` has them
module _ (s : List ℕ) (at : ℕ) where
  abbrev left : List ℕ
  left = take (length s - at) (drop at s)

  whole_left : left ≡ drop at s
  whole_left = take_all (length s - at) (drop at s) (omega (arith, length-drop at s))

  size : length left ≡ length s - at
  size = ap length whole_left ∙ length-drop at s

  byte : (i : ℕ) → get_or s (at + i) 0 ≡ get_or left i 0
  byte i = sym (ap (λ l. get_or l i 0) whole_left ∙ get_or-drop at s i 0)

  pub step_cut : at < length s → length left < 2 → step_at s at ≡ Bad
  unfolding step_at
  step_cut h k = simp (lt-leb (length s) at h, le-leb (length s) (at + 1) (omega (arith, size)))

  pub step_short : 2 ≤ length left → get_or left 1 0 < 255 → step_at s at ≡ field_at s at (at + 2) (get_or left 1 0)
  unfolding step_at
  step_short h k =
      simp (lt-leb (length s) at (omega (arith, size)), lt-leb (length s) (at + 1) (omega (arith, size)), byte 1, ne_eqb (get_or left 1 0) 255 (λ i. omega arith))

  pub step_long_cut : 2 ≤ length left → length left < 4 → get_or left 1 0 ≡ 255 → step_at s at ≡ Bad
  unfolding step_at
  step_long_cut h k i =
      simp (
        lt-leb (length s) at (omega (arith, size)),
        lt-leb (length s) (at + 1) (omega (arith, size)),
        byte 1,
        i,
        le-leb (length s) (at + 3) (omega (arith, size)),
      )

  pub step_long : 4 ≤ length left → get_or left 1 0 ≡ 255 → step_at s at ≡ field_at s at (at + 4) (get_or left 2 0 * 256 + get_or left 3 0)
  unfolding step_at
  step_long h i =
      simp (
        lt-leb (length s) at (omega (arith, size)),
        lt-leb (length s) (at + 1) (omega (arith, size)),
        byte 1,
        i,
        lt-leb (length s) (at + 3) (omega (arith, size)),
        byte 2,
        byte 3,
      )

-- two ways to go on agree after a step, where they agree past it
same_go_on : (s : List ℕ) (x : ℕ) (st : Step) → Bounds s x st → (k k' : ℕ → Run) → ((y : ℕ) → x < y → k y ≡ k' y) → go_on st k ≡ go_on st k'
same_go_on s x (Field t b n y) f k k' h = ap (one (record { tag = t; start = b; len = n; next = y })) (h y (omega arith))
same_go_on s x Bad f k k' h = refl
same_go_on s x End f k k' h = refl

-- any count that is enough gives the same run
enough : (s : List ℕ) (n m x : ℕ) → length s ≤ x + n → length s ≤ x + m → run_n n s x ≡ run_n m s x
unfolding run_n
enough s zero zero x p q = refl
enough s zero (suc m) x p q = sym (ap (λ st. go_on st (run_n m s)) (past s x (omega arith)))
enough s (suc n) zero x p q = ap (λ st. go_on st (run_n n s)) (past s x (omega arith))
enough s (suc n) (suc m) x p q = same_go_on s x (step_at s x) (bounds s x) (run_n n s) (run_n m s) (λ y h. enough s n m y (omega arith) (omega arith))

-- THE LAW of the walk: the run from a position is the step there, and then the run from where that ends
pub rest_step : (s : List ℕ) (at : ℕ) → rest_from s at ≡ go_on (step_at s at) (rest_from s)
unfolding rest_from run_n
rest_step s at = enough s (length s) (suc (length s)) at (omega arith) (omega arith)

-- both, of a step whose outcome is known, as a loop's turn has it
pub after : (s : List ℕ) (at : ℕ) {st : Step} → step_at s at ≡ st → rest_from s at ≡ go_on st (rest_from s)
after s at e = rest_step s at ∙ ap (λ st. go_on st (rest_from s)) e

pub bounds_of : (s : List ℕ) (at : ℕ) {st : Step} → step_at s at ≡ st → Bounds s at st
bounds_of s at e = subst (Bounds s at) e (bounds s at)

-- the two ways that a lookup meets a field
pub hit : (t : ℕ) (s : List ℕ) (at : ℕ) {u b n x : ℕ} → step_at s at ≡ Field u b n x → u ≡ t → first_in t (rest_from s at) ≡ Some (b, n)
hit t s at e h = ap (first_in t) (after s at e) ∙ simp (eq-eqb _ _ h)

pub miss : (t : ℕ) (s : List ℕ) (at : ℕ) {u b n x : ℕ} → step_at s at ≡ Field u b n x → (u ≡ t → ⊥) → first_in t (rest_from s at) ≡ first_in t (rest_from s x)
miss t s at e h = ap (first_in t) (after s at e) ∙ simp (ne_eqb _ _ h)

pub over : (t : ℕ) (s : List ℕ) (at : ℕ) {st : Step} → step_at s at ≡ st → ((u b n x : ℕ) → st ≡ Field u b n x → ⊥) → first_in t (rest_from s at) ≡ None
over t s at {st} = go st
  where
    go : (st : Step) → step_at s at ≡ st → ((u b n x : ℕ) → st ≡ Field u b n x → ⊥) → first_in t (rest_from s at) ≡ None
    go (Field u b n x) e h = absurd (h u b n x refl)
    go Bad e h = ap (first_in t) (after s at e)
    go End e h = ap (first_in t) (after s at e)

-- every value of a run starts past the payload's front and stands within it
abbrev pub Within : List ℕ → Run → Type 0
Within s ended = Unit {0}
Within s broken = Unit {0}
Within s (one f r) = ((0 < f.start) × (f.start + f.len ≤ length s)) × Within s r

within_step : (s : List ℕ) (at : ℕ) (st : Step) → Bounds s at st → (k : ℕ → Run) → ((x : ℕ) → Within s (k x)) → Within s (go_on st k)
within_step s at (Field t b n x) f k h = ((omega arith, omega arith), h x)
within_step s at Bad f k h = tt
within_step s at End f k h = tt

within_run : (s : List ℕ) (n at : ℕ) → Within s (run_n n s at)
unfolding run_n
within_run s zero at = tt
within_run s (suc n) at = within_step s at (step_at s at) (bounds s at) (run_n n s) (within_run s n)

pub within : (s : List ℕ) (at : ℕ) → Within s (rest_from s at)
unfolding rest_from
within s at = within_run s (length s) at

-- WRITING: the head of a field, by its length
pub head_short : (t n : ℕ) → n < 255 → head_of t n ≡ t ∷ n ∷ []
unfolding head_of
head_short t n h = simp (lt-ltb _ _ h)

pub head_long : (t n : ℕ) → 255 ≤ n → head_of t n ≡ t ∷ 255 ∷ be2 n
unfolding head_of
head_long t n h = simp (le-ltb _ _ h)

pub length_short : (t n : ℕ) → n < 255 → length (head_of t n) ≡ 2
length_short t n h = ap length (head_short t n h)

pub length_long : (t n : ℕ) → 255 ≤ n → length (head_of t n) ≡ 4
length_long t n h = ap length (head_long t n h)

pub head_small : (t n : ℕ) → length (head_of t n) ≤ 4
unfolding head_of
head_small t n = by_cases (λ l. length (t ∷ l) ≤ 4) (ltb n 255) (λ e. omega arith) (λ e. omega arith)

pub tlv_plain : (t : ℕ) (v : List ℕ) → length v ≤ 65535 → tlv t v ≡ head_of t (length v) ++ v
unfolding tlv
tlv_plain t v h = simp (le-leb _ _ h)

pub tlv_none : (t : ℕ) (v : List ℕ) → 65535 < length v → tlv t v ≡ []
unfolding tlv
tlv_none t v h = simp (lt-leb _ _ h)

-- fields after fields
pub each_append : (fs gs : List Tagged) → each (fs ++ gs) ≡ each fs ++ each gs
unfolding each
each_append [] gs = refl
each_append (f ∷ fs) gs = ap (λ l. tlv f.tag f.value ∷ l) (each_append fs gs)

-- a head and a value, tested for room as a whole
pub both_wrote : {d : List ℕ} {at : ℕ} {h v d' : List ℕ} {r : ℕ} {d'' : List ℕ} {r' : ℕ} → room (length d) at (length h + length v) ≡ true
    → Wrote d at h d' r → Wrote d' r v d'' r' → Wrote d at (h ++ v) d'' r'
both_wrote {d} {at} {h} {v} e x y = tested (omega (arith, length-append h v, room_true (length d) at (length h + length v) e)) (then (runs x) (runs y))

pub neither_wrote : {d : List ℕ} {at : ℕ} (h v : List ℕ) → room (length d) at (length h + length v) ≡ false → Wrote d at (h ++ v) d at
neither_wrote {d} {at} h v e = refused (omega (arith, length-append h v, room_false (length d) at (length h + length v) e))

pub empty_wrote : {d : List ℕ} {at : ℕ} {v : List ℕ} → v ≡ [] → Wrote d at v d at
unfolding fit placed
empty_wrote {d} {at} e = rw e (record { bytes = go (room (length d) at 0); next = go₂ (room (length d) at 0) })
  where
    go : (b : Bool) → d ≡ cond b (put d at []) d
    go true = put_nil d at
    go false = refl

    go₂ : (b : Bool) → at ≡ cond b (at + 0) at
    go₂ true = omega arith
    go₂ false = refl

pub tlv_short : (t : ℕ) (v : List ℕ) → length v < 255 → tlv t v ≡ (t ∷ length v ∷ []) ++ v
tlv_short t v h = tlv_plain t v (omega arith) ∙ ap (λ l. l ++ v) (head_short t (length v) h)

pub tlv_long : (t : ℕ) (v : List ℕ) → 255 ≤ length v → length v ≤ 65535 → tlv t v ≡ (t ∷ 255 ∷ be2 (length v)) ++ v
tlv_long t v h k = tlv_plain t v k ∙ ap (λ l. l ++ v) (head_long t (length v) h)

-- what a field is that can be written
pub ruleset by_length = (tlv_short, tlv_long)
