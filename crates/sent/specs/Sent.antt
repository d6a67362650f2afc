-- A PAYLOAD WALKED ONCE: the places that the walk notes, and the view of a payload by any places. Assumes nothing.
use Rattle.std.specs.Prelude.{ℕ, ◌+◌, ◌*◌, ◌/◌, ◌%◌, ◌^◌, ◌≡◌, List, Bool, false, cond, ◌&&◌, get_or, set, replicate, ltb, eqb, Some, None}
use Rattle.std.specs.Int.Bits.{bit_or}
use denote.Bor.{Bor}
use Rattle.sent.specs.declared.Sent.{Sent}
use Rattle.fields.specs.declared.Times.{Times}
use Rattle.fields.specs.declared.Times.TheVariants.{Absent, Once, Twice}
use Rattle.fields.specs.Fields.{Run, ended, broken, one, rest_from, whole, Found, first_in, copies, times_of, View}

-- tags below this have a place each: all that a command reads; behind the places stand the marks, a bit for each tag
abbrev pub places : ℕ
places = 93

abbrev pub words : ℕ
words = 96

-- A PLACE in 32 bits: where a value starts, which is never 0, and how long it is; 0 where there is none
abbrev pub packed : ℕ → ℕ → ℕ
packed b n = b % 65536 * 65536 + n % 65536

abbrev pub spot : ℕ → Found
spot x = cond (eqb x 0) None (Some (x / 65536, x % 65536))

-- A MARK: the tag was met again
abbrev pub mark_word : ℕ → ℕ
mark_word t = places + t / 32

unfoldable pub marked : List ℕ → ℕ → Bool
marked l t = eqb (get_or l (mark_word t) 0 / 2 ^ (t % 32) % 2) 1

unfoldable pub with_mark : List ℕ → ℕ → List ℕ
with_mark l t = set l (mark_word t) (bit_or (get_or l (mark_word t) 0) (2 ^ (t % 32)))

-- no tag is marked
abbrev pub unmarked : List ℕ → Bool
unmarked l = (eqb (get_or l places 0) 0 && eqb (get_or l (places + 1) 0) 0) && eqb (get_or l (places + 2) 0) 0

-- THE WALK notes the first value with a tag, and marks a tag that has one
unfoldable pub noted : List ℕ → ℕ → ℕ → ℕ → List ℕ
noted l t b n = cond (ltb t places) (cond (eqb (get_or l t 0) 0) (set l t (packed b n)) (with_mark l t)) l

abbrev pub notes : Run → List ℕ → List ℕ
notes ended l = l
notes broken l = l
notes (one f r) l = notes r (noted l f.tag f.start f.len)

-- what it leaves of the places that it is lent, and of cleared ones
unfoldable pub walked : List ℕ → List ℕ → List ℕ
walked p l = notes (rest_from p 0) l

abbrev pub places_of : List ℕ → List ℕ
places_of p = walked p (replicate words 0)

-- THE PROMISE of the walk: whether the payload is well formed, and the places
pub record Filled (p l : List ℕ) (r : Bool) (l' : List ℕ) : Type 0 where
  pub form : r ≡ whole (rest_from p 0)
  pub places : l' ≡ walked p l

-- THE VIEW of a payload by any places; a tag that has none is looked up in the payload itself
unfoldable pub lookup : List ℕ → List ℕ → ℕ → Found
lookup p l t = cond (ltb t places) (spot (get_or l t 0)) (first_in t (rest_from p 0))

abbrev pub seen_times : List ℕ → ℕ → Times
seen_times l t = cond (marked l t) Twice (cond (eqb (get_or l t 0) 0) Absent Once)

unfoldable pub often : List ℕ → List ℕ → ℕ → Times
often p l t = cond (ltb t places) (seen_times l t) (times_of (copies t (rest_from p 0)))

unfoldable pub view_by : List ℕ → List ℕ → View
view_by p l = record { bytes = p; at = lookup p l; times = often p l }

-- the view of a payload that was walked, whatever its places
abbrev pub view : Sent → View
view s = view_by s.payload.now s.places

-- THE PROMISE of a payload walked: the places that it had, and what the walk notes besides
pub record Walked (s t : Sent) : Type 0 where
  pub payload : t.payload ≡ s.payload
  pub filled : Filled s.payload.now s.places t.whole t.places

-- before the walk
abbrev pub unwalked : Bor (List ℕ) → Sent
unwalked p = record { payload = p; places = replicate words 0; whole = false }
