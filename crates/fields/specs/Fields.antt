-- Fields, 01 "Requests and fields": what stands at a position, the run of fields from a position on, and a view of a payload: the first field with each
-- tag, and how often the tag stands.
use Rattle.std.specs.Prelude.{ℕ, zero, suc, ◌+◌, ◌-◌, ◌*◌, ◌≤◌, List, [], ◌∷◌, ◌++◌, Bool, true, false, cond, ◌||◌, length, get_or, ltb, leb, eqb, Option, Some, None}
use Rattle.wire.specs.Wire.{part, be2, alike, joined}
use Rattle.fields.specs.declared.Step.{Step}
use Rattle.fields.specs.declared.Step.TheVariants.{Field, Bad, End}
use Rattle.fields.specs.declared.Times.{Times}
use Rattle.fields.specs.declared.Times.TheVariants.{Absent, Once, Twice}

-- tag at `at`, value of n bytes from b: the field, or Bad where the value runs past the end
unfoldable pub field_at : List ℕ → ℕ → ℕ → ℕ → Step
field_at s at b n = cond (leb n (length s - b)) (Field (get_or s at 0) b n (b + n)) Bad

unfoldable pub step_at : List ℕ → ℕ → Step
step_at s at =
    cond (leb (length s) at) End
    (cond (leb (length s) (at + 1)) Bad
    (cond (eqb (get_or s (at + 1) 0) 255)
    (cond (leb (length s) (at + 3)) Bad
    (field_at s at (at + 4) (get_or s (at + 2) 0 * 256 + get_or s (at + 3) 0)))
    (field_at s at (at + 2) (get_or s (at + 1) 0))))

-- a field of a payload: its tag, where its value starts and how long that is, and where the next field starts
pub record Item : Type 0 where
  pub tag : ℕ
  pub start : ℕ
  pub len : ℕ
  pub next : ℕ

-- the fields from a position on, and how the run ends: at the end of the payload, or where it is malformed
pub data Run : Type 0 where
  ended : Run
  broken : Run
  one : Item → Run → Run

abbrev pub go_on : Step → (ℕ → Run) → Run
go_on End k = ended
go_on Bad k = broken
go_on (Field t b n x) k = one (record { tag = t; start = b; len = n; next = x }) (k x)

-- the run from a position, of at most as many fields as the first argument says
unfoldable pub run_n : ℕ → List ℕ → ℕ → Run
run_n zero s at = ended
run_n (suc k) s at = go_on (step_at s at) (run_n k s)

-- a payload has fewer fields than bytes, so its length is enough
unfoldable pub rest_from : List ℕ → ℕ → Run
rest_from s at = run_n (length s) s at

abbrev pub whole : Run → Bool
whole ended = true
whole broken = false
whole (one f r) = whole r

-- where the first value with the tag stands: its start and its length
abbrev pub Found : Type 0
Found = Option (ℕ × ℕ)

abbrev pub first_in : ℕ → Run → Found
first_in t ended = None
first_in t broken = None
first_in t (one f r) = cond (eqb f.tag t) (Some (f.start, f.len)) (first_in t r)

-- HOW OFTEN a tag stands: the number of fields with it, and what is told of that number
abbrev pub copies : ℕ → Run → ℕ
copies t ended = 0
copies t broken = 0
copies t (one f r) = cond (eqb f.tag t) 1 0 + copies t r

abbrev pub times_of : ℕ → Times
times_of n = cond (eqb n 0) Absent (cond (eqb n 1) Once Twice)

-- counted so far as it is told
abbrev pub met : ℕ → ℕ → ℕ → ℕ
met n u t = cond (eqb u t) (cond (ltb n 2) (n + 1) n) n

-- A VIEW of a payload: its bytes, where the first value with each tag stands in them, and how often the tag does. It is all that a command reads
pub record View : Type 0 where
  pub bytes : List ℕ
  pub at : ℕ → Found
  pub times : ℕ → Times

-- the payload's own
unfoldable pub view_of : List ℕ → View
view_of p = record { bytes = p; at = λ t. first_in t (rest_from p 0); times = λ t. times_of (copies t (rest_from p 0)) }

abbrev pub found : Found → Bool
found None = false
found (Some at) = true

abbrev pub value_of : List ℕ → Found → List ℕ
value_of s (Some at) = part s at.0 at.1
value_of s None = []

abbrev pub holds_at : List ℕ → Found → List ℕ → Bool
holds_at s (Some at) code = alike (part s at.0 at.1) code
holds_at s None code = false

-- the field with the tag: whether it is there, its value (nothing where it is absent), whether it is there and holds the code
unfoldable pub has : ℕ → View → Bool
has t v = found (v.at t)

unfoldable pub val : ℕ → View → List ℕ
val t v = value_of v.bytes (v.at t)

unfoldable pub holds : ℕ → View → List ℕ → Bool
holds t v code = holds_at v.bytes (v.at t) code

-- whether the tag stands twice, or more often
abbrev pub is_twice : Times → Bool
is_twice Absent = false
is_twice Once = false
is_twice Twice = true

unfoldable pub twice : ℕ → View → Bool
twice t v = is_twice (v.times t)

unfoldable pub well_formed : List ℕ → Bool
well_formed p = whole (rest_from p 0)

-- WRITING. Tag and length: one byte below 255, else FF and two bytes
unfoldable pub head_of : ℕ → ℕ → List ℕ
head_of t n = t ∷ cond (ltb n 255) (n ∷ []) (255 ∷ be2 n)

-- a field; a value of 65,536 bytes or more has none
unfoldable pub tlv : ℕ → List ℕ → List ℕ
tlv t v = cond (leb (length v) 65535) (head_of t (length v) ++ v) []

pub record Tagged : Type 0 where
  pub tag : ℕ
  pub value : List ℕ

abbrev pub fld : ℕ → List ℕ → Tagged
fld t v = record { tag = t; value = v }

-- the bytes of each field, and of all one after the other
unfoldable pub each : List Tagged → List (List ℕ)
each [] = []
each (f ∷ fs) = tlv f.tag f.value ∷ each fs

unfoldable pub written : List Tagged → List ℕ
written fs = joined (each fs)

-- READING a list of fields without its bytes: whether a tag is there, how many fields have it, the first value with it (nothing where it is
-- absent), and that each value has a length that can be written
abbrev pub among : ℕ → List Tagged → Bool
among t [] = false
among t (f ∷ fs) = eqb f.tag t || among t fs

abbrev pub copies_of : ℕ → List Tagged → ℕ
copies_of t [] = 0
copies_of t (f ∷ fs) = cond (eqb f.tag t) 1 0 + copies_of t fs

abbrev pub first_of : ℕ → List Tagged → List ℕ
first_of t [] = []
first_of t (f ∷ fs) = cond (eqb f.tag t) f.value (first_of t fs)

abbrev pub Writable : List Tagged → Type 0
Writable [] = Unit {0}
Writable (f ∷ fs) = (length f.value ≤ 65535) × Writable fs
