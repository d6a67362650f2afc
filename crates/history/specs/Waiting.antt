-- A REQUEST SENT AGAIN AND AGAIN, 02 Ask 7: what the theorems about the wait speak of. Below, f is a card, m the image at the first sending, s the state at
-- this one, q the request. Assumes nothing.
use Rattle.std.specs.Prelude.{ℕ, ◌≤◌, ◌≡◌, List, [], ◌∷◌, Bool, false, length, eqb}
use Rattle.card.specs.declared.Card.{Card}
use Rattle.card.specs.Layout.{image_room}
use Rattle.card.specs.Values.{no_pending}
use Rattle.card.specs.Image.{decode}
use Rattle.manual.specs.Words.{sw_need_pause, response_room, draw_size}
use Rattle.manual.specs.Request.{command}
use Rattle.manual.specs.Commands.{row}
use Rattle.manual.specs.Delay.{entered, seconds, wrong_code}
use Rattle.manual.specs.Settle.{State, Call, sent_in, matched, judged, Said, leaving, said_to, card_after, Settled, lent, outcome}
use Rattle.story.specs.Buffers.{response}
use Rattle.history.specs.Demands.{AnyCard, image_by, ButWait, wait_in, holding_for, only_counted, pause_bytes}

-- a call that sends q, with a draw and buffers that settle takes, whatever the draw, the answers and the buffers are
pub record Sends (q : List ℕ) (i : Call) : Type 0 where
  pub request : i.request ≡ q
  pub draw : length i.draw ≡ draw_size
  pub out : response_room ≤ length i.buffers.out
  pub next : image_room ≤ length i.buffers.next

abbrev pub AllSend : List ℕ → List Call → Type 0
AllSend q [] = Unit {0}
AllSend q (i ∷ is) = Sends q i × AllSend q is

-- q passes checks 1 to 10 on that card
abbrev pub enters : Card → List ℕ → Bool
enters c q = entered (judged (matched c.codes (sent_in q)) c.face q)

-- its wait there, in seconds: what is left where it is the held one, else the count and the pause
abbrev pub wait_of : Card → List ℕ → ℕ
wait_of c q = seconds (row (command q)) c.face (sent_in q) q

-- q is refused there over a code that counts as wrong
abbrev pub over_wrong : Card → List ℕ → Bool
over_wrong c q = wrong_code (row (command q)) (matched c.codes (sent_in q)) (sent_in q) (judged (matched c.codes (sent_in q)) c.face q)

-- NOT YET: t seconds are told, and the card is that of the first sending, with q held for t seconds
pub record Pauses (f : AnyCard) (m : List ℕ) (s : State) (i : Call) (t : ℕ) : Type 0 where
  pub result : (f.taps.settle s i).result ≡ outcome 0 0 sw_need_pause 6
  pub response : response (f.taps.settle s i) ≡ pause_bytes t
  pub image : ButWait (holding_for t i.request (wait_in m)) m (image_by f s i)

-- what is said of the first sending's card where nobody has to wait, and the card after it, with nothing held or counted
abbrev pub said_over : List ℕ → Call → Said
said_over m i = leaving no_pending (said_to (decode m) i.request i.draw i.answers)

abbrev pub settled_over : List ℕ → Call → Settled
settled_over m i =
    lent (said_over m i) (card_after (said_over m i) (decode m).codes i.request) i.buffers.out i.buffers.next

-- OVER: just that; it is no pause; nothing is held or counted afterwards, unless it is number 4, which leaves the image
pub record Over (f : AnyCard) (m : List ℕ) (s : State) (i : Call) : Type 0 where
  pub settled : f.taps.settle s i ≡ settled_over m i
  pub answer : eqb (f.taps.settle s i).result.word sw_need_pause ≡ false
  pub cleared : (f.taps.settle s i).result.number ≡ 0 → (decode (image_by f s i)).face.pending ≡ no_pending
  pub four : eqb (f.taps.settle s i).result.number 0 ≡ false → image_by f s i ≡ s.image

-- NOTHING IS HELD afterwards, and the count has not fallen
pub record Dropped (m m' : List ℕ) : Type 0 where
  pub wrong : ℕ
  pub image : ButWait (only_counted wrong) m m'
  pub counted : (wait_in m).wrong ≤ wrong

-- NOBODY WAITS on a card: no pause, nothing counted and nothing held
pub record Prompt (c : Card) : Type 0 where
  pub pause : c.face.front.fixed.pause ≡ 0
  pub pending : c.face.pending ≡ no_pending
