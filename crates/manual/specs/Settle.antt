-- Ask and settle, 01 "Two calls": first what is said and which card is left, then what that leaves in the lent buffers. Assumes nothing.
use Rattle.std.specs.Prelude.{ℕ, ◌+◌, List, [], ◌∷◌, ◌++◌, Bool, true, false, cond, ◌&&◌, length, drop, leb, eqb, Ok, Err}
use Rattle.wire.specs.Wire.{be2}
use Rattle.fields.specs.Fields.{View, view_of, well_formed, holds, written, Tagged, fld}
use Rattle.card.specs.declared.Codes.{Codes}
use Rattle.card.specs.declared.Pending.{Pending}
use Rattle.card.specs.declared.Face.{Face}
use Rattle.card.specs.declared.Card.{Card}
use Rattle.card.specs.Layout.{image_size, image_room}
use Rattle.card.specs.Values.{faced, with_pending}
use Rattle.card.specs.Image.{encode, decode}
use Rattle.card.specs.Valid.{is_card}
use Rattle.manual.specs.Words.{sw_process_completed, sw_error_processing_command, sw_need_pause, questions_room, response_room, draw_size}
use Rattle.manual.specs.Tags.{CID, PIN1, PIN2, NewPIN1, NewPIN2}
use Rattle.manual.specs.declared.Command.{Command}
use Rattle.manual.specs.Row.{Matched, Verdict}
use Rattle.manual.specs.declared.Pace.{Pace}
use Rattle.manual.specs.declared.Pace.TheVariants.{Refused, Waits, Goes}
use Rattle.manual.specs.declared.Outcome.{Outcome}
use Rattle.manual.specs.Request.{command, payload}
use Rattle.manual.specs.Row.{Question, asked, shaped, Row, gate_of, rules, passed}
use Rattle.manual.specs.Commands.{row}
use Rattle.manual.specs.Delay.{pace_by, pending_after, pause_fields, pending_off}

-- WHAT A CALL FINDS: the card's image
pub record State : Type 0 where
  pub image : List ℕ

abbrev pub holding : List ℕ → State
holding m = record { image = m }

-- what it writes in: ask in the page for questions, settle in the other two
pub record Buffers : Type 0 where
  pub page : List ℕ
  pub out : List ℕ
  pub next : List ℕ

-- A CALL: what is brought to it, of which ask does not read the answers, and the buffers that are lent to it
pub record Call : Type 0 where
  pub request : List ℕ
  pub draw : List ℕ
  pub answers : List ℕ
  pub buffers : Buffers

-- of ask, and of settle
abbrev pub ask_call : List ℕ → List ℕ → List ℕ → Call
ask_call q d page = record { request = q; draw = d; answers = []; buffers = record { page = page; out = []; next = [] } }

abbrev pub settle_call : List ℕ → List ℕ → List ℕ → List ℕ → List ℕ → Call
settle_call q d a out nxt = record { request = q; draw = d; answers = a; buffers = record { page = []; out = out; next = nxt } }

-- how the codes of a payload compare with those of the card
abbrev pub matched : Codes → View → Matched
matched x v =
    record {
      pin1 = holds PIN1 v x.pin1;
      pin2 = holds PIN2 v x.pin2;
      new1 = holds NewPIN1 v x.pin1;
      new2 = holds NewPIN2 v x.pin2;
    }

-- what a request sends
unfoldable pub sent_in : List ℕ → View
sent_in q = view_of (payload q)

-- checks 1 to 12 of a request q, where its payload is found formed or not, and v is the view of it
unfoldable pub judged_by : Bool → View → Matched → Face → List ℕ → Verdict
judged_by formed v m f q = gate_of (rules (row (command q)) m f formed v q) (passed q)

abbrev pub judged : Matched → Face → List ℕ → Verdict
judged m f q = judged_by (well_formed (payload q)) (sent_in q) m f q

-- the status word of a verdict, and its reason: the number of the check that refuses, or 0
abbrev pub word_of : Verdict → ℕ
word_of (Ok k) = sw_process_completed
word_of (Err e) = e.word

abbrev pub reason_of : Verdict → ℕ
reason_of (Ok k) = 0
reason_of (Err e) = e.check

-- SETTLE: what is said, the face after, and whether the command was carried out; the codes are not in it
pub record Said : Type 0 where
  pub number : ℕ
  pub reason : ℕ
  pub word : ℕ
  pub response : List ℕ
  pub face : Face
  pub executed : Bool

-- number 4
abbrev pub silent : ℕ → Face → Said
silent n f = record { number = n; reason = 0; word = 0; response = []; face = f; executed = false }

-- refused by check n: a response of two bytes with the card unchanged
abbrev pub refused : ℕ → ℕ → Face → Said
refused n w f = record { number = 0; reason = n; word = w; response = be2 w; face = f; executed = false }

-- every response starts with CID
abbrev pub fields_of : Row → Face → View → List ℕ → List ℕ → List Tagged
fields_of r f v d a = fld CID f.front.fixed.cid ∷ r.fields_out f v d a

abbrev pub response_of : Row → ℕ → Face → View → List ℕ → List ℕ → List ℕ
response_of r w f v d a = written (fields_of r f v d a) ++ be2 w

unfoldable pub done : Row → Matched → Face → View → List ℕ → List ℕ → Said
done r m f v d a =
    record {
      number = 0;
      reason = 0;
      word = sw_process_completed + r.more m;
      response = response_of r (sw_process_completed + r.more m) (r.next f v a) v d a;
      face = r.next f v a;
      executed = true;
    }

-- number 4, then check 13, then the command
unfoldable pub answered : Row → Matched → Face → View → List ℕ → List ℕ → Said
answered r m f v d a =
    cond (shaped (r.questions f v d) a) (cond (r.confirmed a) (done r m f v d a) (refused 13 sw_error_processing_command f)) (silent 4 f)

abbrev pub said_by : Verdict → Matched → Face → List ℕ → List ℕ → List ℕ → Said
said_by (Err e) m f q d a = refused e.check e.word f
said_by (Ok k) m f q d a = answered (row k) m f (sent_in q) d a

-- where nobody has to wait
unfoldable pub said : Matched → Face → List ℕ → List ℕ → List ℕ → Said
said m f q d a = said_by (judged m f q) m f q d a

-- THE DELAY around it (02 Ask 7)
unfoldable pub pace_of : Matched → Face → List ℕ → Pace
pace_of m f q = pace_by (judged m f q) (row (command q)) m f (sent_in q) q

-- a request that waits: Pause and 9789, without CID; nothing is carried out, and the request is held
abbrev pub pausing : ℕ → Face → List ℕ → Said
pausing t f q =
    record {
      number = 0;
      reason = 0;
      word = sw_need_pause;
      response = written (pause_fields t) ++ be2 sw_need_pause;
      face = with_pending (pending_after (Waits t) f.pending q) f;
      executed = false;
    }

-- what is said, with this in the face; "Number 4 leaves all as it was"
abbrev pub leaving : Pending → Said → Said
leaving p s =
    record {
      number = s.number;
      reason = s.reason;
      word = s.word;
      response = s.response;
      face = cond (eqb s.number 0) (with_pending p s.face) s.face;
      executed = s.executed;
    }

abbrev pub paced_by : Pace → Matched → Face → List ℕ → List ℕ → List ℕ → Said
paced_by (Refused b) m f q d a = leaving (pending_after (Refused b) f.pending q) (said m f q d a)
paced_by (Waits t) m f q d a = pausing t f q
paced_by Goes m f q d a = leaving (pending_after Goes f.pending q) (said m f q d a)

unfoldable pub paced : Matched → Face → List ℕ → List ℕ → List ℕ → Said
paced m f q d a = paced_by (pace_of m f q) m f q d a

-- a card with another wait
abbrev pub waiting : Pending → Card → Card
waiting p c = faced (with_pending p c.face) c

-- the codes after
abbrev pub recoded : Command → Bool → View → Codes → Codes
recoded k executed v x = cond executed ((row k).recode v x) x

abbrev pub card_after : Said → Codes → List ℕ → Card
card_after s x q = record { face = s.face; codes = recoded (command q) s.executed (sent_in q) x }

abbrev pub said_to : Card → List ℕ → List ℕ → List ℕ → Said
said_to c q d a = said (matched c.codes (sent_in q)) c.face q d a

abbrev pub paced_to : Card → List ℕ → List ℕ → List ℕ → Said
paced_to c q d a = paced (matched c.codes (sent_in q)) c.face q d a

-- what a call returns, and what its buffers then hold
pub record Settled : Type 0 where
  pub result : Outcome
  pub response : List ℕ
  pub next : List ℕ

-- of number, reason, status word and length
abbrev pub outcome : ℕ → ℕ → ℕ → ℕ → Outcome
outcome n r w l = record { number = n; reason = r; word = w; length = l }

abbrev pub settled_by : Outcome → List ℕ → List ℕ → Settled
settled_by r out nxt = record { result = r; response = out; next = nxt }

-- numbers 1 to 4: length 0, status word 0, no check failed, every buffer unchanged
abbrev pub untouched : ℕ → List ℕ → List ℕ → Settled
untouched n out nxt = settled_by (outcome n 0 0 0) out nxt

-- bytes after the written part stay
abbrev pub over : List ℕ → List ℕ → List ℕ
over v out = v ++ drop (length v) out

abbrev pub wrote : Said → Card → List ℕ → List ℕ → Settled
wrote s c out nxt =
    settled_by (outcome 0 s.reason s.word (length s.response)) (over s.response out) (encode c ++ drop image_size nxt)

unfoldable pub lent : Said → Card → List ℕ → List ℕ → Settled
lent s c out nxt = cond (eqb s.number 0) (wrote s c out nxt) (untouched s.number out nxt)

unfoldable pub settled_of : Card → List ℕ → List ℕ → List ℕ → List ℕ → List ℕ → Settled
settled_of c q d a out nxt = lent (paced_to c q d a) (card_after (paced_to c q d a) c.codes q) out nxt

-- the buffers' least lengths
unfoldable pub roomy : ℕ → ℕ → Bool
roomy out nxt = leb response_room out && leb image_room nxt

-- THE MEANING OF SETTLE
unfoldable pub settled : State → Call → Settled
settled s i =
    cond (is_card s.image)
    (cond (roomy (length i.buffers.out) (length i.buffers.next))
    (cond (eqb (length i.draw) draw_size)
    (settled_of (decode s.image) i.request i.draw i.answers i.buffers.out i.buffers.next)
    (untouched 3 i.buffers.out i.buffers.next))
    (untouched 2 i.buffers.out i.buffers.next))
    (untouched 1 i.buffers.out i.buffers.next)

-- ASK: what is returned, and what the buffer for questions then holds
pub record Posed : Type 0 where
  pub result : Outcome
  pub questions : List ℕ

abbrev pub posed_by : Outcome → List ℕ → Posed
posed_by r out = record { result = r; questions = out }

abbrev pub posed : ℕ → ℕ → List ℕ → List ℕ → Posed
posed n w v out = posed_by (outcome 0 n w (length v)) (over v out)

-- zero questions where checks 1 to 12 refuse, with the check's number and word; otherwise 0 and 9000, with the command's questions or none
abbrev pub questions_of : Verdict → Face → List ℕ → List ℕ → List Question
questions_of (Err e) f q d = []
questions_of (Ok k) f q d = (row k).questions f (sent_in q) d

-- of a request that waits: 0, 9789 and none
abbrev pub paced_reason : Pace → Verdict → ℕ
paced_reason (Refused b) g = reason_of g
paced_reason (Waits t) g = 0
paced_reason Goes g = reason_of g

abbrev pub paced_word : Pace → Verdict → ℕ
paced_word (Refused b) g = word_of g
paced_word (Waits t) g = sw_need_pause
paced_word Goes g = word_of g

abbrev pub paced_questions : Pace → Verdict → Face → List ℕ → List ℕ → List Question
paced_questions (Refused b) g f q d = questions_of g f q d
paced_questions (Waits t) g f q d = []
paced_questions Goes g f q d = questions_of g f q d

unfoldable pub asked_of : Matched → Face → List ℕ → List ℕ → List ℕ → Posed
asked_of m f q d out =
    let p : Pace = pace_of m f q in
    let g : Verdict = judged m f q in
    posed (paced_reason p g) (paced_word p g) (asked (paced_questions p g f q d)) out

abbrev pub asked_from : Card → List ℕ → List ℕ → List ℕ → Posed
asked_from c q d out = asked_of (matched c.codes (sent_in q)) c.face q d out

-- THE MEANING OF ASK
unfoldable pub asked_for : State → Call → Posed
asked_for s i =
    cond (is_card s.image)
    (cond (leb questions_room (length i.buffers.page))
    (cond (eqb (length i.draw) draw_size)
    (asked_from (decode s.image) i.request i.draw i.buffers.page)
    (posed_by (outcome 3 0 0 0) i.buffers.page))
    (posed_by (outcome 2 0 0 0) i.buffers.page))
    (posed_by (outcome 1 0 0 0) i.buffers.page)

-- POWER-OFF (02 Ask 7): what is returned, and what the buffer for the next image then holds. No draw is needed
pub record Off : Type 0 where
  pub result : Outcome
  pub next : List ℕ

abbrev pub off_of : Outcome → List ℕ → Off
off_of r nxt = record { result = r; next = nxt }

abbrev pub off_by : ℕ → List ℕ → Off
off_by n nxt = off_of (outcome n 0 0 0) nxt

abbrev pub card_off : Card → Card
card_off c = waiting (pending_off c.face.pending) c

-- THE MEANING OF A POWER-OFF
unfoldable pub powered_off : State → List ℕ → Off
powered_off s nxt =
    cond (is_card s.image)
    (cond (leb image_room (length nxt)) (off_by 0 (encode (card_off (decode s.image)) ++ drop image_size nxt)) (off_by 2 nxt))
    (off_by 1 nxt)
