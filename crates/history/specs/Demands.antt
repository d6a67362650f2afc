-- DEMANDS 1 TO 3, of any card: calls on bytes, and what they return and leave. Assumes nothing.
use Rattle.std.specs.Prelude.{ℕ, ◌+◌, ◌-◌, ◌*◌, ◌≤◌, ◌<◌, ◌≡◌, List, [], ◌∷◌, ◌++◌, Bool, true, false, cond, not, ◌&&◌, ◌||◌, length, leb, eqb}
use Rattle.wire.specs.Wire.{be1, be2, be4, Bytes}
use Rattle.fields.specs.Fields.{View, has, holds, val, written, Tagged, fld, tlv}
use Rattle.card.specs.declared.Flags.{Flags}
use Rattle.card.specs.declared.Wait.{Wait}
use Rattle.card.specs.declared.Pending.{Pending}
use Rattle.card.specs.declared.Card.{Card}
use Rattle.card.specs.Layout.{signature_size, most_wrong, most_left, top32, image_room}
use Rattle.card.specs.Values.{held_for, held_request, idle, no_pending, last_of, fresh}
use Rattle.card.specs.Image.{encode, decode}
use Rattle.card.specs.Valid.{is_card}
use Rattle.manual.specs.Words.{sw_process_completed, sw_error_processing_command, sw_need_pause, questions_room, response_room, draw_size}
use Rattle.manual.specs.Words.{sw_wrong_length, sw_need_encryption, sw_invalid_status, sw_invalid_params, sw_ins_not_supported, sw_cla_not_supported}
use Rattle.manual.specs.Tags.{CID, PIN1, PIN2, CVC, Status, CurveID, Challenge, ActivationSignature, ResetPIN1, ActivationSeed}
use Rattle.manual.specs.Tags.{TransactionHash, Signature, Remaining, SignedHashes}
use Rattle.manual.specs.declared.Command.TheVariants.{ReadCard, CreateWallet, CheckWallet, Sign, PurgeWallet, ReadIssuerData, ActivateCard}
use Rattle.manual.specs.Request.{code, listed, ins_of}
use Rattle.manual.specs.Row.{Question, question, asked, shaped}
use Rattle.manual.specs.Wallet.{curve_name, is_new, count, hash_questions}
use Rattle.manual.specs.Wallet.{sign_fields as hashes_sent}
use Rattle.manual.specs.Checking.{salt}
use Rattle.manual.specs.Activation.{activation_fields}
use Rattle.manual.specs.Settle.{State, holding, Call, ask_call, sent_in, waiting, Posed, Settled, Off, asked_for, powered_off}
use Rattle.manual.specs.Settle.{settled, settled_by, posed, posed_by, outcome, untouched, off_by, over, roomy}
use Rattle.story.specs.Sums.{Sheet, Tap, History, tap, told_in, is_done, accepted, ins, did, signed_new}
use Rattle.story.specs.Sums.{active, wallets, status, ever_purged, made, total, codes, uses_wallet}
use Rattle.story.specs.Buffers.{questions, response, image, image_off}

-- ANY CARD: what it can do, by kinds of calls: a tap's ask and settle, and a power-off, which is lent the buffer for the next image
pub record Taps : Type 0 where
  pub ask : State → Call → Posed
  pub settle : State → Call → Settled

pub record AnyCard : Type 0 where
  pub taps : Taps
  pub power_off : State → List ℕ → Off

-- DEMAND 1: every call, whatever it is given, ends as the table of 01, "Two calls", says
-- numbers 1 to 3 in their order, of the image, the buffers and the draw; 0 where none of them applies
abbrev pub stop : Bool → Bool → Bool → ℕ
stop card room draw = cond card (cond room (cond draw 0 3) 2) 1

abbrev pub ask_stop : State → Call → ℕ
ask_stop s i = stop (is_card s.image) (leb questions_room (length i.buffers.page)) (eqb (length i.draw) draw_size)

abbrev pub settle_stop : State → Call → ℕ
settle_stop s i =
    stop (is_card s.image) (roomy (length i.buffers.out) (length i.buffers.next)) (eqb (length i.draw) draw_size)

-- a power-off has no draw
abbrev pub off_stop : State → List ℕ → ℕ
off_stop s nxt = stop (is_card s.image) (leb image_room (length nxt)) true

-- THE WAIT (02 Ask 7). m' is the image m but for it: in bytes, where m is a card in bytes
pub record ButWait (p : Pending) (m m' : List ℕ) : Type 0 where
  pub card : decode m' ≡ waiting p (decode m)
  pub stays : is_card m ≡ true → is_card m' ≡ true
  pub bytes : is_card m ≡ true → Bytes m → m' ≡ encode (waiting p (decode m))

abbrev pub wait_in : List ℕ → Wait
wait_in m = (decode m).face.pending.wait

-- nothing held, and so many wrong codes counted
abbrev pub only_counted : ℕ → Pending
only_counted n = idle (record { wrong = n; left = 0; size = 0 })

-- the count after a refusal by check n: as it was, or one more, up to 60, where check 6 or 10 refuses; 0 after check 10
abbrev pub count_after : ℕ → ℕ → ℕ → Bool
count_after n old new =
    cond (leb n 10)
    (eqb new old || ((eqb n 6 || eqb n 10) && eqb new (cond (leb most_wrong old) old (old + 1))))
    (eqb new 0)

-- "Pause (1C, the seconds left in units of 10 ms) and 9789, without CID"
abbrev pub pause_bytes : ℕ → List ℕ
pause_bytes t = 0x1C ∷ 2 ∷ (be2 (t * 100) ++ be2 sw_need_pause)

-- a request q that is held for t seconds, the count as it was
abbrev pub holding_for : ℕ → List ℕ → Wait → Pending
holding_for t q w = held_request (held_for t (length q) w) q

-- the status word of each check
abbrev pub check_word : ℕ → ℕ
check_word n =
    cond (eqb n 1) sw_wrong_length
    (cond (eqb n 2) sw_cla_not_supported
    (cond (eqb n 3) sw_ins_not_supported
    (cond (eqb n 8 || (eqb n 9 || eqb n 12)) sw_invalid_status
    (cond (eqb n 13) sw_error_processing_command
    sw_invalid_params))))

-- a refusal by check n with word w: one of checks 1 to 12, which ask may say, check 4 with a word more; and check 13, which settle may
abbrev pub is_refusal : ℕ → ℕ → Bool
is_refusal n w = leb 1 n && (leb n 12 && (eqb w (check_word n) || (eqb n 4 && eqb w sw_need_encryption)))

abbrev pub settle_refusal : ℕ → ℕ → Bool
settle_refusal n w = is_refusal n w || (eqb n 13 && eqb w (check_word 13))

-- ask, then: one of checks 1 to 12 with its status word and zero questions; or reason 0, 9000 and questions that fit the buffer; or
-- reason 0, 9789 and zero questions
pub data Asked (i : Call) (x : Posed) : Type 0 where
  none_asked : (n w : ℕ) → is_refusal n w ≡ true → x ≡ posed n w [] i.buffers.page → Asked i x
  all_asked : (v : List ℕ) → length v ≤ questions_room → x ≡ posed 0 sw_process_completed v i.buffers.page → Asked i x
  must_wait : x ≡ posed 0 sw_need_pause [] i.buffers.page → Asked i x

-- settle, then: number 4 and nothing written; a refusal, a response of two bytes, with the old image but for the wait, of which nothing is held; a pause
-- of 1 to 120 seconds, with the old image but for the wait, which holds the request; or fields that fit the buffer, with a card as the next image, of which
-- nothing is held or counted. The reason is the check that refuses, and 0 where none does
pub data Ended (s : State) (i : Call) (x : Settled) : Type 0 where
  shapeless : x ≡ untouched 4 i.buffers.out i.buffers.next → Ended s i x
  refusal :
      (n w wrong : ℕ) (m' : List ℕ) → settle_refusal n w ≡ true → count_after n (wait_in s.image).wrong wrong ≡ true
      → ButWait (only_counted wrong) s.image m'
      → x ≡ settled_by (outcome 0 n w 2) (over (be2 w) i.buffers.out) (over m' i.buffers.next) → Ended s i x
  pausing :
      (t : ℕ) (m' : List ℕ) → 1 ≤ t → t ≤ most_left → ButWait (holding_for t i.request (wait_in s.image)) s.image m'
      → x ≡ settled_by (outcome 0 0 sw_need_pause 6) (over (pause_bytes t) i.buffers.out) (over m' i.buffers.next) → Ended s i x
  carried_out :
      (w : ℕ) (fields m' : List ℕ) → is_done w ≡ true → length fields + 2 ≤ response_room → is_card m' ≡ true → (decode m').face.pending ≡ no_pending
      → x ≡ settled_by (outcome 0 0 w (length fields + 2)) (over (fields ++ be2 w) i.buffers.out) (over m' i.buffers.next) → Ended s i x

-- a power-off leaves the old image but for the wait: nothing is held, and the count stays
pub data TurnedOff (s : State) (nxt : List ℕ) (x : Off) : Type 0 where
  off : (m' : List ℕ) → ButWait (only_counted (wait_in s.image).wrong) s.image m' → x ≡ off_by 0 (over m' nxt) → TurnedOff s nxt x

-- ask said x and settle, with these answers, y: settle says the reason and the status word of ask's refusal; number 4 exactly where checks 1 to 12 pass and
-- the answers do not answer ask's questions; and it refuses what passed by check 13 alone, with 6286
pub record Agree (answers : List ℕ) (x : Posed) (y : Settled) : Type 0 where
  pub these : List Question
  pub bytes : questions x ≡ asked these
  pub refuses : is_done x.result.word ≡ false → (y.result.reason ≡ x.result.reason) × (y.result.word ≡ x.result.word)
  pub four : y.result.number ≡ 4 → (x.result.word ≡ sw_process_completed) × (shaped these answers ≡ false)
  pub fits : x.result.word ≡ sw_process_completed → shaped these answers ≡ false → y.result.number ≡ 4
  pub thirteen :
      x.result.word ≡ sw_process_completed → y.result.number ≡ 0 → is_done y.result.word ≡ false
      → (y.result.reason ≡ 13) × (y.result.word ≡ sw_error_processing_command)

pub record Demand1 (f : AnyCard) : Type 0 where
  pub ask_stops : (s : State) (i : Call) → eqb (ask_stop s i) 0 ≡ false → f.taps.ask s i ≡ posed_by (outcome (ask_stop s i) 0 0 0) i.buffers.page
  pub asks : (s : State) (i : Call) → ask_stop s i ≡ 0 → Asked i (f.taps.ask s i)
  pub settle_stops :
      (s : State) (i : Call) → eqb (settle_stop s i) 0 ≡ false → f.taps.settle s i ≡ untouched (settle_stop s i) i.buffers.out i.buffers.next
  pub settles : (s : State) (i : Call) → Bytes s.image → settle_stop s i ≡ 0 → Ended s i (f.taps.settle s i)
  -- ask was given the same request and draw, and a page with room
  pub agrees :
      (s : State) (i : Call) (page : List ℕ) → questions_room ≤ length page → settle_stop s i ≡ 0
      → Agree i.answers (f.taps.ask s (ask_call i.request i.draw page)) (f.taps.settle s i)
  pub off_stops : (s : State) (nxt : List ℕ) → eqb (off_stop s nxt) 0 ≡ false → f.power_off s nxt ≡ off_by (off_stop s nxt) nxt
  pub turns_off : (s : State) (nxt : List ℕ) → Bytes s.image → off_stop s nxt ≡ 0 → TurnedOff s nxt (f.power_off s nxt)

-- DEMAND 2: it answers and changes the card exactly as the manual says
pub record Demand2 (f : AnyCard) : Type 0 where
  pub asks : (s : State) (i : Call) → f.taps.ask s i ≡ asked_for s i
  pub settles : (s : State) (i : Call) → f.taps.settle s i ≡ settled s i
  pub turns_off : (s : State) (nxt : List ℕ) → f.power_off s nxt ≡ powered_off s nxt

-- WHAT HAPPENS to a card: a tap is settled, or it is powered off, with this buffer for the next image
pub data Event : Type 0 where
  tapped : Call → Event
  switched_off : List ℕ → Event

abbrev pub taps_of : List Call → List Event
taps_of [] = []
taps_of (i ∷ is) = tapped i ∷ taps_of is

-- what a tap adds to the history, and the image that it leaves
abbrev pub tap_by : AnyCard → State → Call → Tap
tap_by f s i = tap i.request (response (f.taps.settle s i))

abbrev pub image_by : AnyCard → State → Call → List ℕ
image_by f s i = image s.image (f.taps.settle s i)

-- an event leaves a state, and adds no tap to the history or one
abbrev pub leaves : AnyCard → State → Event → State
leaves f s (tapped i) = holding (image_by f s i)
leaves f s (switched_off nxt) = holding (image_off s.image (f.power_off s nxt))

abbrev pub adds : AnyCard → State → Event → List Tap
adds f s (tapped i) = tap_by f s i ∷ []
adds f s (switched_off nxt) = []

-- PLAY: the state that events leave, and the history after them, before which h stood
abbrev pub left : AnyCard → State → List Event → State
left f s [] = s
left f s (e ∷ es) = left f (leaves f s e) es

abbrev pub played : AnyCard → State → History → List Event → History
played f s h [] = h
played f s h (e ∷ es) = played f (leaves f s e) (adds f s e ++ h) es

-- the image is a fresh card of the sheet
pub record Fresh (sh : Sheet) (m : List ℕ) : Type 0 where
  pub card : is_card m ≡ true
  pub spells : decode m ≡ fresh sh.fixed sh.flags sh.codes

-- DEMAND 3. Below, h is the history so far, t the tap made next, i the call that made it, x the questions that ask wrote for it
-- the signatures newly given last: each wallet begins with none, and leaves none behind (02 Ask 2)
abbrev pub given : History → List ℕ
given [] = []
given (t ∷ h) = cond (did CreateWallet t || did PurgeWallet t) [] (cond (signed_new t) (val Signature (told_in t.response)) (given h))

-- the flags: the sheet's, but for this one
abbrev pub flags_by : ℕ → Flags → Flags
flags_by n g =
    record {
      reusable = g.reusable;
      usecvc = g.usecvc;
      setpin1 = g.setpin1;
      setpin2 = g.setpin2;
      nopurge = g.nopurge;
      replay = g.replay;
      active = n;
    }

-- SIGN's response: CID, signatures, Remaining and Signed_Hashes
abbrev pub sign_fields : List ℕ → List ℕ → ℕ → ℕ → List Tagged
sign_fields cid signatures remaining hashes =
    fld CID cid ∷ fld Signature signatures ∷ fld Remaining (be4 remaining) ∷ fld SignedHashes (be4 hashes) ∷ []

-- as the history h has them with this tap
abbrev pub sign_response : Sheet → History → List ℕ → List ℕ
sign_response sh h signatures =
    written (sign_fields sh.fixed.cid signatures (sh.fixed.max - made h) (total h)) ++ be2 sw_process_completed

-- the request was sent to an activated card in this Status, on PIN1 and, if `secret`, on PIN2 and, where used, CVC as the history shows them to be in force
pub record Entitled (sh : Sheet) (h : History) (v : View) (wanted : ℕ) (secret : Bool) : Type 0 where
  pub activated : active sh h ≡ 1
  pub state : status sh h ≡ wanted
  pub pin1 : holds PIN1 v (codes sh h).pin1 ≡ true
  pub pin2 : secret ≡ true → holds PIN2 v (codes sh h).pin2 ≡ true
  pub cvc : secret ≡ true → sh.flags.usecvc ≡ 1 → holds CVC v sh.fixed.cvc ≡ true

-- and asks for new signatures, in their form, of a wallet that has some left
pub record NewSign (sh : Sheet) (h : History) (v : View) : Type 0 where
  pub entitled : Entitled sh h v 2 true
  pub remains : made h < sh.fixed.max
  pub is_new : is_new v ≡ true
  pub hashes : hashes_sent v ≡ true

-- an activation was sent to a card that is not activated, on the PIN1 in force, in its form (02 Ask 1)
pub record Waking (sh : Sheet) (h : History) (v : View) : Type 0 where
  pub asleep : eqb (active sh h) 1 ≡ false
  pub pin1 : holds PIN1 v (codes sh h).pin1 ≡ true
  pub fields : activation_fields v ≡ true

-- whether the issuer confirms it: the confirmation, and what it signs, CID, the sheet's seed and Reset_PIN1
abbrev pub wake_questions : Sheet → History → View → List Question
wake_questions sh h v =
    question 6 (wallets h) sh.fixed.curve (val ActivationSignature v ∷ sh.fixed.cid ∷ sh.fixed.seed ∷ val ResetPIN1 v ∷ []) ∷ []

-- READ_CARD's response, of the card after: activated and Empty
abbrev pub wake_response : Sheet → History → List ℕ
wake_response sh h =
    written
    (fld CID sh.fixed.cid ∷ fld Status (be1 1) ∷ fld CurveID (curve_name sh.fixed.curve) ∷ fld SignedHashes (be4 (total h)) ∷ [])
    ++ be2 sw_process_completed

-- a question of this wallet for each hash, in order
abbrev pub sign_questions : Sheet → History → View → List Question
sign_questions sh h v = hash_questions (wallets h) sh.fixed.curve (count v) (val TransactionHash v)

-- QUESTIONS. Nothing is asked, or what is due
pub data Asks (Due : Type 0) (these : List Question) (x : List ℕ) : Type 0 where
  nothing : x ≡ [] → Asks Due these x
  due : Due → x ≡ asked these → Asks Due these x

-- questions of these kinds alone
abbrev pub all_kinds : (ℕ → Bool) → List Question → Bool
all_kinds p [] = true
all_kinds p (x ∷ xs) = p x.kind && all_kinds p xs

pub record Poses (p : ℕ → Bool) (x : List ℕ) : Type 0 where
  pub these : List Question
  pub bytes : x ≡ asked these
  pub kinds : all_kinds p these ≡ true

-- kind 1 is a wallet's making, kinds 2 and 3 are its signatures; the others are the card key's and the issuer's
abbrev pub is_card_kind : ℕ → Bool
is_card_kind k = leb 4 k

-- which of them a command may ask in a Status
abbrev pub may_ask : ℕ → ℕ → ℕ → Bool
may_ask n state k =
    is_card_kind k
    || ((eqb k 1 && (eqb n (code CreateWallet) && eqb state 1))
    || ((eqb k 2 && (eqb n (code Sign) && eqb state 2)) || (eqb k 3 && (eqb n (code CheckWallet) && eqb state 2))))

-- the commands of a card that is not activated, and the kind that it asks
abbrev pub while_asleep : ℕ → Bool
while_asleep n = eqb n (code ReadCard) || (eqb n (code ReadIssuerData) || eqb n (code ActivateCard))

abbrev pub is_wake_kind : ℕ → Bool
is_wake_kind k = eqb k 6

module _ (sh : Sheet) (h : History) (t : Tap) (i : Call) (x : List ℕ) where
  -- what the request sends, and the response
  abbrev v : View
  v = sent_in t.request

  abbrev r : List ℕ
  r = t.response

  -- a SIGN that made new signatures was due them; it asked for that wallet and those hashes, in order, and the answers to that are the signatures told,
  -- which stand in the response where `bytes` says
  pub record Rightful : Type 0 where
    pub is_due : NewSign sh h v
    pub questions : questions_room ≤ length i.buffers.page → x ≡ asked (sign_questions sh h v)
    pub size : length i.answers ≡ count v * signature_size
    pub answers : val Signature (told_in r) ≡ i.answers
    pub bytes : r ≡ sign_response sh (t ∷ h) i.answers

  -- a repeat was due to a wallet that lives and has made new signatures; it asks nothing, and tells those that the last of its new SIGNs told
  pub record Repeated : Type 0 where
    pub is_due : Entitled sh h v 2 true
    pub some : 1 ≤ made h
    pub questions : x ≡ []
    pub told : val Signature (told_in r) ≡ given h
    pub bytes : r ≡ sign_response sh (t ∷ h) (given h)

  -- an activation that was accepted was due; it asked whether the issuer confirms it, the answer was yes, and the response is as `bytes` says
  pub record Woken : Type 0 where
    pub is_due : Waking sh h v
    pub questions : questions_room ≤ length i.buffers.page → x ≡ asked (wake_questions sh h v)
    pub answers : i.answers ≡ 1 ∷ []
    pub bytes : r ≡ wake_response sh h

  pub record OneMore : Type 0 where
    -- accepted or not, SIGN asks for signatures, CREATE_WALLET for a key, CHECK_WALLET for the wallet's word on a challenge, ACTIVATE_CARD for the
    -- issuer's, only where that is due;
    -- no command asks for what is not its own; and a card that was purged and is not reusable asks neither for a wallet nor for its signature again
    pub sign_asks : ins t.request ≡ code Sign → Asks (NewSign sh h v) (sign_questions sh h v) x
    pub make_asks :
        ins t.request ≡ code CreateWallet → Asks (Entitled sh h v 1 true) (question 1 (wallets h + 1) sh.fixed.curve [] ∷ []) x
    pub check_asks :
        ins t.request ≡ code CheckWallet
        → (more : List Question)
        × Asks (Entitled sh h v 2 false) (question 3 (wallets h) sh.fixed.curve (val Challenge v ∷ salt i.draw ∷ []) ∷ more) x
    pub wake_asks : ins t.request ≡ code ActivateCard → Asks (Waking sh h v) (wake_questions sh h v) x
    pub poses : Poses (may_ask (ins t.request) (status sh h)) x
    pub spared : sh.flags.reusable ≡ 0 → ever_purged h ≡ true → Poses is_card_kind x
    -- a SIGN that is accepted made new signatures, and they are rightful, or repeats those newly made for the live wallet
    pub signs : signed_new t ≡ true → Rightful
    pub repeats : did Sign t ≡ true → is_new v ≡ false → Repeated
    -- an activation that is accepted was confirmed; a card that is not activated accepts three commands alone, and asks for that confirmation alone
    pub wakes : did ActivateCard t ≡ true → Woken
    pub sleeps : eqb (active sh h) 1 ≡ false → (accepted r ≡ true → while_asleep (ins t.request) ≡ true) × Poses is_wake_kind x
    -- what is accepted is a command of the table, was sent on the PIN1 in force, and its response begins with CID
    pub rows : accepted r ≡ true → listed (ins_of (ins t.request)) ≡ true
    pub pin1 : accepted r ≡ true → listed (ins_of (ins t.request)) ≡ true → holds PIN1 v (codes sh h).pin1 ≡ true
    pub cid : accepted r ≡ true → listed (ins_of (ins t.request)) ≡ true → (rest : List ℕ) × (r ≡ tlv CID sh.fixed.cid ++ rest)
    -- Status, Remaining and Signed_Hashes, wherever they are told, are those of the history
    pub state : accepted r ≡ true → has Status (told_in r) ≡ true → val Status (told_in r) ≡ be1 (status sh (t ∷ h))
    pub remaining : accepted r ≡ true → has Remaining (told_in r) ≡ true → val Remaining (told_in r) ≡ be4 (sh.fixed.max - made (t ∷ h))
    pub signed_hashes : accepted r ≡ true → has SignedHashes (told_in r) ≡ true → val SignedHashes (told_in r) ≡ be4 (total (t ∷ h))
    -- READ_CARD tells the sheet's seed up to the activation, and not after it
    pub seed :
        did ReadCard t ≡ true
        → (has ActivationSeed (told_in r) ≡ not (eqb (active sh h) 1)) × (eqb (active sh h) 1 ≡ false → val ActivationSeed (told_in r) ≡ sh.fixed.seed)
    -- a card that was purged and is not reusable makes neither wallet nor wallet signature again
    pub ended : sh.flags.reusable ≡ 0 → ever_purged h ≡ true → uses_wallet (ins t.request) ≡ true → (accepted r ≡ false) × (x ≡ [])

-- THE CARD that a history left: what is fixed is the sheet's, the seed with it, and so are the flags, but for activated, which the history shows, as it
-- shows Status, wallet number and codes; while a wallet lives, Remaining and the SIGNs that
-- made new signatures since its creation make up the maximum; Signed_Hashes is all hashes newly signed in the card's life, and that fits 32 bits; and the
-- last signatures are those newly given last, none without a wallet
pub record Kept (sh : Sheet) (h : History) (c : Card) : Type 0 where
  pub fixed : c.face.front.fixed ≡ sh.fixed
  pub flags : c.face.front.flags ≡ flags_by (active sh h) sh.flags
  pub state : c.face.front.wallet.status ≡ status sh h
  pub number : c.face.front.wallet.number ≡ wallets h
  pub in_force : c.codes ≡ codes sh h
  pub balance : status sh h ≡ 2 → c.face.front.wallet.remaining + made h ≡ sh.fixed.max
  pub signed_hashes : c.face.front.wallet.signed ≡ total h
  pub fits : total h ≤ top32
  pub last : last_of c.face.last ≡ given h

-- both, from a fresh card on: after any events, refused taps included, each given the state that the last one left
pub record Demand3 (f : AnyCard) : Type 0 where
  pub kept : (sh : Sheet) (m : List ℕ) → Fresh sh m → (es : List Event) → Kept sh (played f (holding m) [] es) (decode (left f (holding m) es).image)
  pub next :
      (sh : Sheet) (m : List ℕ) → Fresh sh m → (es : List Event) (i : Call)
      → OneMore sh (played f (holding m) [] es) (tap_by f (left f (holding m) es) i) i (questions (f.taps.ask (left f (holding m) es) i))
