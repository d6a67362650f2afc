-- Round trips: a field that was written is what the walk reads, wherever it stands; and looking a tag up in written fields finds the first with it.
-- Assumes nothing.
use Prim.Native.Nat.{ℕ, ◌+◌, ◌-◌, ◌*◌, ◌/◌, ◌%◌, ◌≤◌, ◌<◌}
use native.Mathlib.Omega.{arith}
use native.Mathlib.Decide.{dec_lt}
use mathlib.Core.Path.{◌≡◌, refl, sym, ap, ap₂, ◌∙◌}
use mathlib.Core.List.{List, [], ◌∷◌, ◌++◌, append_assoc, append-nil}
use mathlib.Core.Bool.{Bool, true, false, cond, ◌||◌, ◌&&◌}
use lib.ListN.{length, get_or, take, length-append}
use lib.Seq.{get_or-append-add, get_or-append_seam, take_at, drop_at}
use lib.Dec.{eqb}
use borrow.Author.Tests.{lt-leb, le-leb, ne_eqb}
use Rattle.wire.specs.Wire.{part, joined, alike}
use Rattle.wire.proofs.Laws.{part_plain}
use Rattle.fields.specs.declared.Step.TheVariants.{Field}
use Rattle.std.specs.Prelude.{Some, None}
use Rattle.fields.specs.Fields.{step_at, field_at, head_of, tlv, Tagged, each, written, among, copies_of, first_of, Writable, ended, go_on, rest_from, whole, first_in}
use Rattle.fields.specs.Fields.{Found, found, value_of, holds_at, copies, times_of, is_twice, view_of, has, val, holds, twice, well_formed}
use Rattle.fields.proofs.Laws.{head_short, head_long, tlv_plain, past, after}

-- the short form
short : (p v q : List ℕ) (t : ℕ) → length v < 255
    → step_at (p ++ t ∷ length v ∷ (v ++ q)) (length p) ≡ Field t (length p + 2) (length v) (length p + 2 + length v)
unfolding step_at field_at
short p v q t h =
    let s : List ℕ = p ++ t ∷ length v ∷ (v ++ q) in
    let e : length s ≡ length p + (2 + (length v + length q)) = simp (length-append) (omega arith) in
    let g₀ : get_or s (length p) 0 ≡ t = get_or-append_seam p t (length v ∷ (v ++ q)) 0 in
    let g₁ : get_or s (length p + 1) 0 ≡ length v = get_or-append-add p (t ∷ length v ∷ (v ++ q)) 1 0 in
    simp (
      lt-leb (length s) (length p) (omega arith),
      lt-leb (length s) (length p + 1) (omega arith),
      g₁,
      ne_eqb (length v) 255 (omega arith),
      le-leb (length v) (length s - (length p + 2)) (omega arith),
      g₀,
    )

-- the long form
long : (p v q : List ℕ) (t : ℕ) → length v ≤ 65535
    → step_at (p ++ t ∷ 255 ∷ length v / 256 ∷ length v % 256 ∷ (v ++ q)) (length p) ≡ Field t (length p + 4) (length v) (length p + 4 + length v)
unfolding step_at field_at
long p v q t h =
    let n : ℕ = length v in
    let s : List ℕ = p ++ t ∷ 255 ∷ n / 256 ∷ n % 256 ∷ (v ++ q) in
    let e : length s ≡ length p + (4 + (n + length q)) = simp length-append (omega arith) in
    let g₀ : get_or s (length p) 0 ≡ t = get_or-append_seam p t (255 ∷ n / 256 ∷ n % 256 ∷ (v ++ q)) 0 in
    let g₁ : get_or s (length p + 1) 0 ≡ 255 = get_or-append-add p (t ∷ 255 ∷ n / 256 ∷ n % 256 ∷ (v ++ q)) 1 0 in
    let g₂ : get_or s (length p + 2) 0 ≡ n / 256 = get_or-append-add p (t ∷ 255 ∷ n / 256 ∷ n % 256 ∷ (v ++ q)) 2 0 in
    let g₃ : get_or s (length p + 3) 0 ≡ n % 256 = get_or-append-add p (t ∷ 255 ∷ n / 256 ∷ n % 256 ∷ (v ++ q)) 3 0 in
    let w : n / 256 * 256 + n % 256 ≡ n = omega arith in
    simp (
      lt-leb (length s) (length p) (omega arith),
      lt-leb (length s) (length p + 1) (omega arith),
      lt-leb (length s) (length p + 3) (omega arith),
      g₁,
      g₂,
      g₃,
      w,
      le-leb n (length s - (length p + 4)) (omega arith),
      g₀,
    )

-- where the value of a field starts whose tag stands at `at`
abbrev pub start_of : ℕ → ℕ → List ℕ → ℕ
start_of at t v = at + length (head_of t (length v))

-- ONE FIELD, whatever stands before and after it
module _ (p : List ℕ) (t : ℕ) (v q : List ℕ) (h : length v ≤ 65535) where
  pub read_back : step_at (p ++ (tlv t v ++ q)) (length p) ≡ Field t (start_of (length p) t v) (length v) (start_of (length p) t v + length v)
  read_back = rw (tlv_plain t v h) (go (dec_lt (length v) 255))
    where
      go : Dec (length v < 255) → step_at (p ++ (head_of t (length v) ++ v ++ q)) (length p)
          ≡ Field t (start_of (length p) t v) (length v) (start_of (length p) t v + length v)
      go (yes k) = rw (head_short t (length v) k) (short p v q t k)
      go (no k) = rw (head_long t (length v) (omega arith)) (long p v q t h)

  -- the value read back is the value written
  pub value_back : part (p ++ (tlv t v ++ q)) (start_of (length p) t v) (length v) ≡ v
  value_back =
      let d : List ℕ = p ++ head_of t (length v) in
      let l : length d ≡ start_of (length p) t v = length-append p (head_of t (length v)) in
      let e : p ++ (tlv t v ++ q) ≡ d ++ (v ++ q) = rw (tlv_plain t v h) (simp append_assoc) in
      let k : start_of (length p) t v + length v ≤ length (d ++ (v ++ q)) = simp length-append (omega arith) in
      rw e (part_plain (d ++ (v ++ q)) (start_of (length p) t v) (length v) k ∙ ap (take (length v)) (drop_at d (v ++ q) (start_of (length p) t v) l)
      ∙ take_at v q (length v) refl)

pub length_tlv : (t : ℕ) (v : List ℕ) → length v ≤ 65535 → length (tlv t v) ≡ length (head_of t (length v)) + length v
length_tlv t v h = ap length (tlv_plain t v h) ∙ length-append (head_of t (length v)) v

-- both, of a field that stands at `at` of s
module _ (s p : List ℕ) (at t : ℕ) (v q : List ℕ) (e : s ≡ p ++ (tlv t v ++ q)) (l : length p ≡ at) (h : length v ≤ 65535) where
  pub reads_at : step_at s at ≡ Field t (start_of at t v) (length v) (at + length (tlv t v))
  reads_at =
      let m : start_of at t v + length v ≡ at + length (tlv t v) = omega (arith, length_tlv t v h) in
      ap₂ step_at e (sym l) ∙ read_back p t v q h ∙ ap (λ n. Field t (start_of n t v) (length v) (start_of n t v + length v)) l
      ∙ ap (Field t (start_of at t v) (length v)) m

  pub value_at : part s (start_of at t v) (length v) ≡ v
  value_at = ap₂ (λ x n. part x (start_of n t v) (length v)) e (sym l) ∙ value_back p t v q h

-- FIELDS one after the other: fs stand in s from `at` to its end
pub record Stand (s : List ℕ) (at : ℕ) (fs : List Tagged) : Type 0 where
  pub before : List ℕ
  pub bytes : s ≡ before ++ written fs
  pub place : length before ≡ at

-- where the field after a field at `at` stands
abbrev next : ℕ → Tagged → ℕ
next at f = at + length (tlv f.tag f.value)

module _ {s : List ℕ} {at : ℕ} {f : Tagged} {fs : List Tagged} (x : Stand s at (f ∷ fs)) where
  first_bytes : s ≡ x.before ++ (tlv f.tag f.value ++ written fs)
  unfolding written joined each
  first_bytes = x.bytes

  others : Stand s (next at f) fs
  others = record {
    before = x.before ++ tlv f.tag f.value;
    bytes = first_bytes ∙ sym (append_assoc x.before (tlv f.tag f.value) (written fs));
    place = simp length-append (omega (arith, x.place));
  }

  first_value : length f.value ≤ 65535 → part s (start_of at f.tag f.value) (length f.value) ≡ f.value
  first_value h = value_at s x.before at f.tag f.value (written fs) first_bytes x.place h

  first_run : length f.value ≤ 65535 → rest_from s at ≡ go_on (Field f.tag (start_of at f.tag f.value) (length f.value) (next at f)) (rest_from s)
  first_run h = after s at (reads_at s x.before at f.tag f.value (written fs) first_bytes x.place h)

no_run : {s : List ℕ} {at : ℕ} → Stand s at [] → rest_from s at ≡ ended
unfolding written joined each
no_run {s} {at} x = after s at (past s at (omega (arith, ap length (x.bytes ∙ append-nil x.before), x.place)))

whole_run : {s : List ℕ} {at : ℕ} (fs : List Tagged) → Stand s at fs → Writable fs → whole (rest_from s at) ≡ true
whole_run [] x h = ap whole (no_run x)
whole_run {s = s} {at = at} (f ∷ fs) x h = ap whole (first_run x h.0) ∙ whole_run {at = next at f} fs (others x) h.1

-- a lookup asks whether the field is there, for its value, or both
found_cond : (b : Bool) (i j : ℕ) (y : Found) → found (cond b (Some (i, j)) y) ≡ (b || found y)
found_cond true i j y = refl
found_cond false i j y = refl

value_cond : (s : List ℕ) (b : Bool) (i j : ℕ) (y : Found) → value_of s (cond b (Some (i, j)) y) ≡ cond b (part s i j) (value_of s y)
value_cond s true i j y = refl
value_cond s false i j y = refl

holds_both : (s : List ℕ) (y : Found) (code : List ℕ) → holds_at s y code ≡ (found y && alike (value_of s y) code)
holds_both s (Some (i, j)) code = refl
holds_both s None code = refl

found_run : (t : ℕ) {s : List ℕ} {at : ℕ} (fs : List Tagged) → Stand s at fs → Writable fs → found (first_in t (rest_from s at)) ≡ among t fs
found_run t [] x h = ap (λ r. found (first_in t r)) (no_run x)
found_run t {s = s} {at = at} (f ∷ fs) x h =
    ap (λ r. found (first_in t r)) (first_run x h.0) ∙ found_cond (eqb f.tag t) _ _ _ ∙ ap (λ b. eqb f.tag t || b) (found_run t {at = next at f} fs (others x) h.1)

copies_run : (t : ℕ) {s : List ℕ} {at : ℕ} (fs : List Tagged) → Stand s at fs → Writable fs → copies t (rest_from s at) ≡ copies_of t fs
copies_run t [] x h = ap (copies t) (no_run x)
copies_run t {s = s} {at = at} (f ∷ fs) x h = ap (copies t) (first_run x h.0) ∙ ap (λ n. cond (eqb f.tag t) 1 0 + n) (copies_run t {at = next at f} fs (others x) h.1)

value_run : (t : ℕ) {s : List ℕ} {at : ℕ} (fs : List Tagged) → Stand s at fs → Writable fs → value_of s (first_in t (rest_from s at)) ≡ first_of t fs
value_run t {s} [] x h = ap (λ r. value_of s (first_in t r)) (no_run x)
value_run t {s = s} {at = at} (f ∷ fs) x h =
    ap (λ r. value_of s (first_in t r)) (first_run x h.0) ∙ value_cond s (eqb f.tag t) _ _ _
    ∙ ap₂ (cond (eqb f.tag t)) (first_value x h.0) (value_run t {at = next at f} fs (others x) h.1)

-- THE LAWS of written fields, over any list of them and any tag: they are a payload, and looking a tag up finds the first field with it, that field's value,
-- and how many there are
stands : (fs : List Tagged) → Stand (written fs) 0 fs
stands fs = record { before = []; bytes = refl; place = refl }

pub well_formed_written : (fs : List Tagged) → Writable fs → well_formed (written fs) ≡ true
unfolding well_formed
well_formed_written fs h = whole_run fs (stands fs) h

module _ (t : ℕ) (fs : List Tagged) (h : Writable fs) where
  pub has_written : has t (view_of (written fs)) ≡ among t fs
  unfolding has view_of
  has_written = found_run t fs (stands fs) h

  pub twice_written : twice t (view_of (written fs)) ≡ is_twice (times_of (copies_of t fs))
  unfolding twice view_of
  twice_written = ap (λ n. is_twice (times_of n)) (copies_run t fs (stands fs) h)

  pub val_written : val t (view_of (written fs)) ≡ first_of t fs
  unfolding val view_of
  val_written = value_run t fs (stands fs) h

  pub holds_written : (code : List ℕ) → holds t (view_of (written fs)) code ≡ (among t fs && alike (first_of t fs) code)
  unfolding holds has val view_of
  holds_written code = holds_both (written fs) (first_in t (rest_from (written fs) 0)) code ∙ ap₂ (λ b l. b && alike l code) has_written val_written
