-- WRONG CARDS, 01 "How much a promise has to say", and others that a tired or a clever engineer might write. crates/rejected shows each rejected, by
-- the demand named here alone. Assumes nothing.
use Rattle.std.specs.Prelude.{ℕ, ◌+◌, ◌-◌, List, [], ◌∷◌, ◌++◌, Bool, true, false, cond, ◌&&◌, length, drop, replicate, leb, eqb, Ok, Err}
use Rattle.wire.specs.Wire.{be2}
use Rattle.fields.specs.Fields.{View, val, well_formed, Tagged}
use Rattle.card.specs.declared.Codes.{Codes}
use Rattle.card.specs.declared.Wallet.{Wallet}
use Rattle.card.specs.declared.Face.{Face}
use Rattle.card.specs.declared.Card.{Card}
use Rattle.card.specs.Layout.{image_size, image_room}
use Rattle.card.specs.Image.{encode, decode}
use Rattle.card.specs.Valid.{every, ok_front, ok_held, ok_pending, ok_last, is_card}
use Rattle.card.specs.Values.{u32, reset_pin1, risen, no_pending, held_key, held_last, with_wallet, with_key, with_counters, with_last}
use Rattle.manual.specs.Words.{sw_process_completed, sw_invalid_status, questions_room, draw_size}
use Rattle.manual.specs.declared.Command.{Command}
use Rattle.manual.specs.declared.Command.TheVariants.{ReadCard, SetPin, Sign, VerifyCard, PurgeWallet, WriteIssuerData, ActivateCard}
use Rattle.manual.specs.declared.Pace.{Pace}
use Rattle.manual.specs.declared.Pace.TheVariants.{Refused, Waits, Goes}
use Rattle.manual.specs.declared.Outcome.{Outcome}
use Rattle.manual.specs.Request.{code, command, payload}
use Rattle.manual.specs.Tags.{Challenge}
use Rattle.manual.specs.Row.{Matched, Question, question, asked, Row, gate_of, rules, passed, Verdict, stop}
use Rattle.manual.specs.Wallet.{read_card, sign, purge_wallet, purged_face, read_fields, is_new, count, new_codes}
use Rattle.manual.specs.Checking.{verify_card, salt}
use Rattle.manual.specs.Storage.{write_issuer_data}
use Rattle.manual.specs.Activation.{activate_card}
use Rattle.manual.specs.Commands.{row}
use Rattle.manual.specs.Delay.{pace_by, pending_after}
use Rattle.manual.specs.Settle.{State, Call, Posed, Settled, sent_in, matched, Said, pausing, leaving, paced_reason, paced_word, waiting, Off, off_by, powered_off}
use Rattle.manual.specs.Settle.{silent, refused, answered, untouched, outcome, posed, posed_by, settled_by, lent, roomy}
use Rattle.story.specs.Sums.{ins}
use Rattle.history.specs.Demands.{AnyCard}

-- THE INSIDE of a card: whether a request waits on a card that was read from its image; what is asked and said where it need not; and which card is left
pub record Inside : Type 0 where
  pub verdict : Card → List ℕ → Verdict
  pub pace : Card → List ℕ → Pace
  pub asks : Card → List ℕ → List ℕ → List Question
  pub says : Card → List ℕ → List ℕ → List ℕ → Said
  pub leaves : Card → List ℕ → Said → Card

-- what is asked and said by the pace
abbrev pub asks_at : Pace → List Question → List Question
asks_at (Refused b) xs = xs
asks_at (Waits t) xs = []
asks_at Goes xs = xs

abbrev pub says_at : Pace → Face → List ℕ → Said → Said
says_at (Refused b) f q s = leaving (pending_after (Refused b) f.pending q) s
says_at (Waits t) f q s = pausing t f q
says_at Goes f q s = leaving (pending_after Goes f.pending q) s

-- numbers 1 to 3, and the buffers, as 01 has them; an image is tested as is said
abbrev pub asks_outside : (List ℕ → Bool) → Inside → State → Call → Posed
asks_outside test x s i =
    let p : Pace = x.pace (decode s.image) i.request in
    let g : Verdict = x.verdict (decode s.image) i.request in
    cond (test s.image)
    (cond (leb questions_room (length i.buffers.page))
    (cond (eqb (length i.draw) draw_size)
    (posed (paced_reason p g) (paced_word p g) (asked (asks_at p (x.asks (decode s.image) i.request i.draw))) i.buffers.page)
    (posed_by (outcome 3 0 0 0) i.buffers.page))
    (posed_by (outcome 2 0 0 0) i.buffers.page))
    (posed_by (outcome 1 0 0 0) i.buffers.page)

abbrev pub settles_outside : (List ℕ → Bool) → Inside → State → Call → Settled
settles_outside test x s i =
    let c : Card = decode s.image in
    let z : Said = says_at (x.pace c i.request) c.face i.request (x.says c i.request i.draw i.answers) in
    cond (test s.image)
    (cond (roomy (length i.buffers.out) (length i.buffers.next))
    (cond (eqb (length i.draw) draw_size)
    (lent z (x.leaves c i.request z) i.buffers.out i.buffers.next)
    (untouched 3 i.buffers.out i.buffers.next))
    (untouched 2 i.buffers.out i.buffers.next))
    (untouched 1 i.buffers.out i.buffers.next)

abbrev pub outside_by : (List ℕ → Bool) → Inside → AnyCard
outside_by test x = record { taps = record { ask = asks_outside test x; settle = settles_outside test x }; power_off = powered_off }

abbrev pub outside : Inside → AnyCard
outside = outside_by is_card

-- a card with these rows
abbrev pub judged_by : (Command → Row) → Card → List ℕ → Verdict
judged_by r c q =
    gate_of (rules (r (command q)) (matched c.codes (sent_in q)) c.face (well_formed (payload q)) (sent_in q) q) (passed q)

abbrev pub paced_by : (Command → Row) → Card → List ℕ → Pace
paced_by r c q = pace_by (judged_by r c q) (r (command q)) (matched c.codes (sent_in q)) c.face (sent_in q) q

abbrev pub asks_by : (Command → Row) → Verdict → Card → List ℕ → List ℕ → List Question
asks_by r (Err e) c q d = []
asks_by r (Ok k) c q d = (r k).questions c.face (sent_in q) d

abbrev pub says_by : (Command → Row) → Verdict → Card → List ℕ → List ℕ → List ℕ → Said
says_by r (Err e) c q d a = refused e.check e.word c.face
says_by r (Ok k) c q d a = answered (r k) (matched c.codes (sent_in q)) c.face (sent_in q) d a

abbrev pub leaves_by : (Command → Row) → Card → List ℕ → Said → Card
leaves_by r c q s = record { face = s.face; codes = cond s.executed ((r (command q)).recode (sent_in q) c.codes) c.codes }

abbrev pub by_rows : (Command → Row) → Inside
by_rows r =
    record {
      verdict = judged_by r;
      pace = paced_by r;
      asks = λ c q d. asks_by r (judged_by r c q) c q d;
      says = λ c q d a. says_by r (judged_by r c q) c q d a;
      leaves = leaves_by r;
    }

-- the manual's rows
abbrev pub honest : Inside
honest = by_rows row

-- 1. ANSWERS 6985 TO EVERYTHING (demand 2)
abbrev pub refuser : AnyCard
refuser =
    outside
    (record {
      verdict = λ c q. stop 12 sw_invalid_status;
      pace = λ c q. Goes;
      asks = λ c q d. [];
      says = λ c q d a. refused 12 sw_invalid_status c.face;
      leaves = λ c q s. c;
    })

-- 2. GIVES 9000 TO EVERYTHING (demand 2)
abbrev pub yes : Face → Said
yes f = record { number = 0; reason = 0; word = sw_process_completed; response = be2 sw_process_completed; face = f; executed = false }

abbrev pub yes_sayer : AnyCard
yes_sayer =
    outside
    (record { verdict = λ c q. passed q; pace = λ c q. Goes; asks = λ c q d. []; says = λ c q d a. yes c.face; leaves = λ c q s. c })

-- 3. NEVER CHANGES THE IMAGE (demand 2)
abbrev pub forgetter : AnyCard
forgetter = outside (record { verdict = honest.verdict; pace = honest.pace; asks = honest.asks; says = honest.says; leaves = λ c q s. c })

-- the rows, but for one
abbrev pub but : Command → Row → Command → Row
but k r j = cond (eqb (code j) (code k)) r (row j)

-- a row, but for one column of seven
abbrev pub with_columns :
    List ℕ → (Matched → Face → View → Bool) → (Face → View → List ℕ → List Question) → (List ℕ → Bool) → (Face → View → List ℕ → Face)
    → (View → Codes → Codes) → (Face → View → List ℕ → List ℕ → List Tagged) → Row → Row
with_columns reads conditions questions confirmed next recode fields_out r =
    record {
      reads = reads;
      needs = r.needs;
      pin2 = r.pin2;
      fields = r.fields;
      conditions = conditions;
      questions = questions;
      confirmed = confirmed;
      next = next;
      recode = recode;
      fields_out = fields_out;
      more = r.more;
    }

abbrev pub with_reads : List ℕ → Row → Row
with_reads ts r = with_columns ts r.conditions r.questions r.confirmed r.next r.recode r.fields_out r

abbrev pub with_conditions : (Matched → Face → View → Bool) → Row → Row
with_conditions g r = with_columns r.reads g r.questions r.confirmed r.next r.recode r.fields_out r

abbrev pub with_questions : (Face → View → List ℕ → List Question) → Row → Row
with_questions g r = with_columns r.reads r.conditions g r.confirmed r.next r.recode r.fields_out r

abbrev pub with_confirmed : (List ℕ → Bool) → Row → Row
with_confirmed g r = with_columns r.reads r.conditions r.questions g r.next r.recode r.fields_out r

abbrev pub with_next : (Face → View → List ℕ → Face) → Row → Row
with_next g r = with_columns r.reads r.conditions r.questions r.confirmed g r.recode r.fields_out r

abbrev pub with_recode : (View → Codes → Codes) → Row → Row
with_recode g r = with_columns r.reads r.conditions r.questions r.confirmed r.next g r.fields_out r

abbrev pub with_fields_out : (Face → View → List ℕ → List ℕ → List Tagged) → Row → Row
with_fields_out g r = with_columns r.reads r.conditions r.questions r.confirmed r.next r.recode g r

-- 4. HONOURS THE FIRST SIGN AND AFTERWARDS REPEATS ITS SIGNATURES (demands 2 and 3): it asks, and counts, and answers the old ones
abbrev pub kept_last : Face → Face → Face
kept_last f g = cond (eqb f.last.count 0) g (with_last f.last g)

abbrev pub repeater : AnyCard
repeater = outside (by_rows (but Sign (with_next (λ f v a. kept_last f (sign.next f v a)) sign)))

-- 5. REPORTS A SIGNED_HASHES OF ITS OWN MAKING (demand 3), all else being right
abbrev pub boasting : Face → Face
boasting f =
    let w : Wallet = f.front.wallet in
    with_wallet (record { status = w.status; number = w.number; remaining = w.remaining; signed = 7 }) f

abbrev pub proud : AnyCard
proud = outside (by_rows (but ReadCard (with_fields_out (λ f v d a. read_fields (boasting f)) read_card)))

-- 6. TAKES ANY NOTE, whatever its counter (demand 2), as the old practice card did
abbrev pub old_rows : Command → Row
old_rows = but WriteIssuerData (with_conditions (λ m f v. true) write_issuer_data)

abbrev pub old_card : AnyCard
old_card = outside (by_rows old_rows)

-- 7. TAKES A SIGNATURE OFF REMAINING PER HASH (demand 3)
abbrev pub spent_each : ℕ → Wallet → Wallet
spent_each n w = record { status = w.status; number = w.number; remaining = w.remaining - n; signed = u32 (w.signed + n) }

abbrev pub signed_each : Face → ℕ → List ℕ → Face
signed_each f n a = with_last (held_last a) (with_counters (risen f.front.counters) (with_wallet (spent_each n f.front.wallet) f))

abbrev pub greedy : AnyCard
greedy = outside (by_rows (but Sign (with_next (λ f v a. cond (is_new v) (signed_each f (count v) a) f) sign)))

-- 8. STORES THE NEW CODES BEFORE IT LOOKS WHETHER THEY MAY CHANGE (demand 3): a refused SET_PIN is in force
abbrev pub hastily : Card → List ℕ → Said → Card
hastily c q s = record { face = s.face; codes = cond (eqb (code (command q)) (code SetPin)) (new_codes (sent_in q)) c.codes }

abbrev pub hasty : AnyCard
hasty = outside (record { verdict = honest.verdict; pace = honest.pace; asks = honest.asks; says = honest.says; leaves = hastily })

-- 9. KEEPS THE PURGED KEY (demand 2)
abbrev pub hoarder : AnyCard
hoarder = outside (by_rows (but PurgeWallet (with_next (λ f v a. with_key f.front.key (purged_face f)) purge_wallet)))

-- 10. ASKS FOR THE SIGNATURES of any new SIGN, whatever the codes (demand 3); what it says is right
abbrev pub eagerly : Card → List ℕ → List ℕ → List Question
eagerly c q d =
    cond (eqb (ins q) (code Sign) && is_new (sent_in q)) (sign.questions c.face (sent_in q) d) (honest.asks c q d)

abbrev pub eager : AnyCard
eager = outside (record { verdict = honest.verdict; pace = honest.pace; asks = eagerly; says = honest.says; leaves = honest.leaves })

-- 11. RISES FROM A PURGE (demand 3): VERIFY_CARD leaves it Loaded, with a key of its own making
abbrev pub arisen : Face → Face
arisen f =
    let w : Wallet = f.front.wallet in
    with_key (held_key (4 ∷ replicate 64 9)) (with_wallet (record { status = 2; number = w.number; remaining = w.remaining; signed = w.signed }) f)

abbrev pub riser : AnyCard
riser = outside (by_rows (but VerifyCard (with_next (λ f v a. cond (eqb f.front.wallet.status 3) (arisen f) f) verify_card)))

-- 12. TELLS A PURGED CARD TO BE LOADED (demand 3)
abbrev pub teller : AnyCard
teller = outside (by_rows (but ReadCard (with_fields_out (λ f v d a. read_fields (cond (eqb f.front.wallet.status 3) (arisen f) f)) read_card)))

-- 13. HAS THE PURGED WALLET SIGN (demand 3): VERIFY_CARD asks kind 3 in place of 4
abbrev pub forged : Face → View → List ℕ → List Question
forged f v d =
    cond (eqb f.front.wallet.status 3)
    (question 3 f.front.wallet.number f.front.fixed.curve (val Challenge v ∷ salt d ∷ []) ∷ [])
    (verify_card.questions f v d)

abbrev pub forger : AnyCard
forger = outside (by_rows (but VerifyCard (with_questions forged verify_card)))

-- 14. SIGNS BY ANOTHER COMMAND (demand 3): VERIFY_CARD asks for the signature of a hash
abbrev pub notary : AnyCard
notary = outside (by_rows (but VerifyCard (with_questions (λ f v d. sign.questions f v d) verify_card)))

-- 15. ASK SAYS 1234, whatever it is asked (demand 1)
abbrev pub babbler : AnyCard
babbler = outside (record { verdict = λ c q. stop 12 0x1234; pace = λ c q. Goes; asks = λ c q d. []; says = honest.says; leaves = honest.leaves })

-- 16. SETTLE SAYS NUMBER 4, whatever it is answered (demand 1)
abbrev pub stubborn : AnyCard
stubborn = outside (record { verdict = honest.verdict; pace = honest.pace; asks = honest.asks; says = λ c q d a. silent 4 c.face; leaves = honest.leaves })

-- 17. REFUSES WITH A WORD OF ITS OWN MAKING (demand 1): ask says 6A86 where settle says 6F00
abbrev pub inventor : AnyCard
inventor = outside (record { verdict = honest.verdict; pace = honest.pace; asks = honest.asks; says = λ c q d a. refused 6 0x6F00 c.face; leaves = λ c q s. c })

-- 18. KEEPS THE REASON TO ITSELF (demands 1 and 2), all else being right, as the card did until it told one
abbrev pub hushed : Verdict → Verdict
hushed (Ok k) = Ok k
hushed (Err e) = stop 0 e.word

abbrev pub quietly : Said → Said
quietly s = record { number = s.number; reason = 0; word = s.word; response = s.response; face = s.face; executed = s.executed }

abbrev pub mute : AnyCard
mute =
    outside
    (record {
      verdict = λ c q. hushed (honest.verdict c q);
      pace = honest.pace;
      asks = honest.asks;
      says = λ c q d a. quietly (honest.says c q d a);
      leaves = honest.leaves;
    })

-- so it returns the manual's results without their reasons
abbrev pub unreasoned : Outcome → Outcome
unreasoned r = outcome r.number 0 r.word r.length

abbrev pub unreasoned_ask : Posed → Posed
unreasoned_ask x = posed_by (unreasoned x.result) x.questions

abbrev pub unreasoned_settle : Settled → Settled
unreasoned_settle x = settled_by (unreasoned x.result) x.response x.next

-- 19. TAKES THE FIRST of two fields with one tag (demand 2), as the card did until it refused both
abbrev pub first_taker : AnyCard
first_taker = outside (by_rows (λ k. with_reads [] (row k)))

-- 20. LEAVES A PURGED WALLET'S SIGNATURES TO THE NEXT ONE (demands 2 and 3), as the card did until a purge forgot them, with the tests of an image that
-- there were then; by those of now its purge would leave no card
abbrev pub was_card : List ℕ → Bool
was_card img =
    let f : Face = (decode img).face in
    eqb (length img) image_size && every (ok_front f.front ∷ ok_held f.held ∷ ok_pending f.pending ∷ ok_last f.last ∷ [])

abbrev pub heir : AnyCard
heir = outside_by was_card (by_rows (but PurgeWallet (with_next (λ f v a. with_last f.last (purged_face f)) purge_wallet)))

-- 21. ACTIVATES THOUGH THE ISSUER SAID NO (demand 3)
abbrev pub credulous : AnyCard
credulous = outside (by_rows (but ActivateCard (with_confirmed (λ a. true) activate_card)))

-- 22. RESETS PIN1 UNASKED (demand 3): with Reset_PIN1 0 too
abbrev pub resetter : AnyCard
resetter = outside (by_rows (but ActivateCard (with_recode (λ v x. reset_pin1 x) activate_card)))

-- a card that is right but for the pace
abbrev pub by_pace : (Pace → Pace) → AnyCard
by_pace change =
    outside
    (record {
      verdict = honest.verdict;
      pace = λ c q. change (honest.pace c q);
      asks = honest.asks;
      says = honest.says;
      leaves = honest.leaves;
    })

-- 23. HAS NOBODY WAIT (demand 2), as the card did until the delay
abbrev pub goes_on : Pace → Pace
goes_on (Refused b) = Refused b
goes_on (Waits t) = Goes
goes_on Goes = Goes

abbrev pub hurried : AnyCard
hurried = by_pace goes_on

-- 24. LETS A WAIT OF T SECONDS END AT SENDING T (demand 2)
abbrev pub sooner : Pace → Pace
sooner (Refused b) = Refused b
sooner (Waits t) = cond (leb t 1) Goes (Waits t)
sooner Goes = Goes

abbrev pub impatient : AnyCard
impatient = by_pace sooner

-- 25. COUNTS NO WRONG CODE (demand 2)
abbrev pub uncounted : Pace → Pace
uncounted (Refused b) = Refused false
uncounted (Waits t) = Waits t
uncounted Goes = Goes

abbrev pub trusting : AnyCard
trusting = by_pace uncounted

-- 26. FORGETS THE WRONG CODES AT A POWER-OFF (demand 1)
abbrev pub forgets_off : State → List ℕ → Off
forgets_off s nxt =
    cond (is_card s.image)
    (cond (leb image_room (length nxt)) (off_by 0 (encode (waiting no_pending (decode s.image)) ++ drop image_size nxt)) (off_by 2 nxt))
    (off_by 1 nxt)

abbrev pub forgiving : AnyCard
forgiving = record { taps = (outside honest).taps; power_off = forgets_off }
