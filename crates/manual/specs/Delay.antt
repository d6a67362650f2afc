-- THE SECURITY DELAY, 02 Ask 7 and the manual's 3.6 and 4.7: whether a request has to wait, for how long, and what becomes of the wait. Below, r is the row
-- of the request q, m how its codes compare, f the card's face, v the view of the payload and g the verdict of checks 1 to 12. Assumes nothing.
use Rattle.std.specs.Prelude.{ℕ, ◌+◌, ◌-◌, ◌*◌, List, [], ◌∷◌, Bool, true, false, cond, not, ◌&&◌, length, leb, eqb, Ok, Err}
use Rattle.wire.specs.Wire.{be2, alike}
use Rattle.fields.specs.Fields.{View, has, holds, Tagged, fld}
use Rattle.card.specs.declared.Pending.{Pending}
use Rattle.card.specs.declared.Face.{Face}
use Rattle.card.specs.Values.{default_pin1, default_pin2, u8, u16, dropped, counted, held_for, held_request, request_of, idle, no_pending}
use Rattle.manual.specs.Tags.{PIN1, PIN2, CVC, Pause}
use Rattle.manual.specs.declared.Pace.{Pace}
use Rattle.manual.specs.declared.Pace.TheVariants.{Refused, Waits, Goes}
use Rattle.manual.specs.Row.{Matched, Row, Verdict}

-- "After check 10": all hold, or a later one fails
abbrev pub entered : Verdict → Bool
entered (Ok k) = true
entered (Err e) = leb 11 e.check

-- a wrong code that counts: it is there, and it is not the default, which is free
abbrev pub counts : ℕ → List ℕ → View → Bool
counts t default v = has t v && not (holds t v default)

-- check 10 refuses over PIN2 where that is needed and not right, else over the CVC, which has no default
abbrev pub over_own : Row → Matched → View → Bool
over_own r m v = cond (r.pin2 v && not m.pin2) (counts PIN2 default_pin2 v) (has CVC v)

-- "A refusal by check 6 or 10 over a code present and wrong"
abbrev pub over_code : Row → Matched → View → ℕ → Bool
over_code r m v n = cond (eqb n 6) (counts PIN1 default_pin1 v) (eqb n 10 && over_own r m v)

abbrev pub wrong_code : Row → Matched → View → Verdict → Bool
wrong_code r m v (Ok k) = false
wrong_code r m v (Err e) = over_code r m v e.check

-- "the identical bytes": q is the request that is held
unfoldable pub is_held : Face → List ℕ → Bool
is_held f q = alike (request_of f.pending) q

-- "the wait is the wrong-code count, plus `pause` if the command needs PIN2"; of a card it is 120 at most
abbrev pub whole_wait : Row → Face → View → ℕ
whole_wait r f v = u8 (f.pending.wait.wrong + cond (r.pin2 v) f.front.fixed.pause 0)

-- "Each sending of the identical bytes takes off one second"
abbrev pub seconds : Row → Face → View → List ℕ → ℕ
seconds r f v q = cond (is_held f q) (f.pending.wait.left - 1) (whole_wait r f v)

-- THE PACE of a request
abbrev pub pace_for : ℕ → Pace
pace_for t = cond (eqb t 0) Goes (Waits t)

unfoldable pub pace_by : Verdict → Row → Matched → Face → View → List ℕ → Pace
pace_by g r m f v q = cond (entered g) (pace_for (seconds r f v q)) (Refused (wrong_code r m v g))

-- WHAT BECOMES OF THE WAIT. "a refusal by checks 1 to 10 … drops the held one", and adds one to the count where a code counts as wrong; the request that
-- waits is held in place of another, the count as it was; "at zero the command goes on and count and held request are cleared"
abbrev pub pending_after : Pace → Pending → List ℕ → Pending
pending_after (Refused b) p q = idle (cond b (counted (dropped p.wait)) (dropped p.wait))
pending_after (Waits t) p q = held_request (held_for t (u16 (length q)) p.wait) q
pending_after Goes p q = no_pending

-- "Pause (1C, the seconds left in units of 10 ms)"
abbrev pub pause_fields : ℕ → List Tagged
pause_fields t = fld Pause (be2 (t * 100)) ∷ []

-- a power-off drops the held request, and keeps the count
abbrev pub pending_off : Pending → Pending
pending_off p = idle (dropped p.wait)
