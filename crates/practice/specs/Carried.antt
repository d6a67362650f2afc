-- What settle leaves of a card c, by its parts: of a request that waits or is refused, and, by its answers, of a command whose checks 1 to 12 have passed; v
-- is the view of the payload. Assumes nothing.
use Rattle.std.specs.Prelude.{ℕ, ◌≡◌, List, Bool, true, false, cond, length}
use Rattle.fields.specs.Fields.{View}
use Rattle.card.specs.declared.Pending.{Pending}
use Rattle.card.specs.declared.Card.{Card}
use Rattle.card.specs.Values.{no_pending}
use Rattle.manual.specs.declared.Command.{Command}
use Rattle.manual.specs.declared.Command.TheVariants.{ReadCard}
use Rattle.manual.specs.declared.Pace.{Pace}
use Rattle.manual.specs.declared.Pace.TheVariants.{Refused, Waits, Goes}
use Rattle.manual.specs.Words.{sw_error_processing_command}
use Rattle.manual.specs.Row.{shaped, Verdict, stop}
use Rattle.manual.specs.Commands.{row}
use Rattle.manual.specs.Settle.{Settled, word_of, reason_of, matched, done, refused, pausing, waiting, over, lent, untouched}
use Rattle.manual.specs.Delay.{pace_by, pending_after}
use Rattle.changes.specs.Carried.{carried_card}

-- bytes v at the front of a buffer, and their length
pub record Says (v out : List ℕ) (r : ℕ) (out' : List ℕ) : Type 0 where
  pub bytes : out' ≡ over v out
  pub size : r ≡ length v

-- THE PACE of a request q with the verdict g, of the command k
abbrev pub pace_in : Verdict → Command → Card → View → List ℕ → Pace
pace_in g k c v q = pace_by g (row k) (matched c.codes v) c.face v q

abbrev pub is_waiting : Pace → Bool
is_waiting (Refused b) = false
is_waiting (Waits t) = true
is_waiting Goes = false

-- refused with the verdict g
abbrev pub refused_in : Pending → Verdict → Card → List ℕ → List ℕ → Settled
refused_in p g c out nxt = lent (refused (reason_of g) (word_of g) c.face) (waiting p c) out nxt

-- held for t seconds
abbrev pub paused_in : ℕ → Card → List ℕ → List ℕ → List ℕ → Settled
paused_in t c q out nxt = lent (pausing t c.face q) (waiting (pending_after (Waits t) c.face.pending q) c) out nxt

-- by its pace, where it is not carried out
abbrev pub held_in : Pace → Verdict → Card → List ℕ → List ℕ → List ℕ → Settled
held_in (Refused b) g c q out nxt = refused_in (pending_after (Refused b) c.face.pending q) g c out nxt
held_in (Waits t) g c q out nxt = paused_in t c q out nxt
held_in Goes g c q out nxt = refused_in (pending_after Goes c.face.pending q) g c out nxt

-- CARRIED OUT: nothing is held or counted afterwards
abbrev pub left_card : Command → Card → View → List ℕ → Card
left_card k c v a = waiting no_pending (carried_card k c v a)

unfoldable pub done_in : Command → Card → View → List ℕ → List ℕ → List ℕ → List ℕ → Settled
done_in k c v d a out nxt = lent (done (row k) (matched c.codes v) c.face v d a) (left_card k c v a) out nxt

-- the change that goes with check 13: the command's own where it is confirmed, and READ_CARD's, which is none, where it is not
abbrev pub made_by : Command → Bool → Command
made_by k true = k
made_by k false = ReadCard

-- check 13, then the command
unfoldable pub confirmed_in : Command → Card → View → List ℕ → List ℕ → List ℕ → List ℕ → Settled
confirmed_in k c v d a out nxt =
    cond ((row k).confirmed a) (done_in k c v d a out nxt) (refused_in no_pending (stop 13 sw_error_processing_command) c out nxt)

-- number 4, then check 13, then the command
unfoldable pub answered_in : Command → Card → View → List ℕ → List ℕ → List ℕ → List ℕ → Settled
answered_in k c v d a out nxt = cond (shaped ((row k).questions c.face v d) a) (confirmed_in k c v d a out nxt) (untouched 4 out nxt)
