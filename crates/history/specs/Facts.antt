-- What the further theorems speak of: a card unchanged, the first check to fail, a field that stands twice, what a SIGN costs, what a purge takes, the
-- SIGN that a repeat tells again, what an activation leaves, a note that is too old. What a request is told that is sent again and again says Waiting.antt.
-- Assumes nothing.
use Rattle.std.specs.Prelude.{ℕ, ◌+◌, ◌*◌, ◌≤◌, ◌<◌, ◌≡◌, List, [], ◌∷◌, ◌++◌, take, drop, Bool, true, false, cond, not, ◌&&◌, ◌||◌, leb, eqb}
use Rattle.wire.specs.Wire.{Bytes}
use Rattle.fields.specs.Fields.{View, rest_from, copies, has, val, well_formed}
use Rattle.card.specs.declared.Pending.{Pending}
use Rattle.card.specs.declared.Face.{Face}
use Rattle.card.specs.declared.Card.{Card}
use Rattle.card.specs.Layout.{most_hashes}
use Rattle.card.specs.Values.{after_purge, no_key, no_last}
use Rattle.card.specs.Image.{decode}
use Rattle.card.specs.Valid.{is_card}
use Rattle.manual.specs.Words.{sw_need_encryption, sw_invalid_params, sw_need_pause}
use Rattle.manual.specs.declared.Command.{Command}
use Rattle.manual.specs.declared.Command.TheVariants.{WriteIssuerData, ActivateCard}
use Rattle.manual.specs.declared.Outcome.{Outcome}
use Rattle.manual.specs.Request.{code, command, payload}
use Rattle.manual.specs.Row.{Matched, Question, shaped, Row, Rule, rules}
use Rattle.manual.specs.Commands.{row}
use Rattle.manual.specs.Storage.{guarded, sent_counter}
use Rattle.manual.specs.Activation.{activated_face, activated_codes}
use Rattle.manual.specs.Tags.{Signature}
use Rattle.manual.specs.Settle.{State, holding, Call, sent_in, matched}
use Rattle.story.specs.Sums.{Sheet, History, told_in, is_done, accepted, ins, signed_new, wallets}
use Rattle.story.specs.Buffers.{questions, response}
use Rattle.history.specs.Demands.{AnyCard, settle_stop, ButWait, check_word, is_refusal, Event, tapped, tap_by, image_by, left, played, given, Rightful}

-- the image m' after spells the card that m spelled, and is m itself where m is a card in bytes
pub record Unchanged (m m' : List ℕ) : Type 0 where
  pub card : decode m' ≡ decode m
  pub bytes : is_card m ≡ true → Bytes m → m' ≡ m

-- it does so but for the wait (02 Ask 7)
abbrev pub Stays : List ℕ → List ℕ → Type 0
Stays m m' = (p : Pending) × ButWait p m m'

-- f refuses the call by checks 1 to 12, or has it wait: nothing is asked, nothing accepted, and the card stays but for the wait; the check and its status word are told where settle
-- says none of 1 to 3 and the request need not wait
pub record Refused (f : AnyCard) (s : State) (i : Call) : Type 0 where
  pub asks : questions (f.taps.ask s i) ≡ []
  pub answer : accepted (response (f.taps.settle s i)) ≡ false
  pub word :
      settle_stop s i ≡ 0 → eqb (f.taps.settle s i).result.word sw_need_pause ≡ false
      → is_refusal (f.taps.settle s i).result.reason (f.taps.settle s i).result.word ≡ true
  pub stays : Stays s.image (image_by f s i)

-- CHECKS 1 to 12 that a request is held to; those of a call, on the card that the image spells
abbrev pub checks_of : Row → Matched → Face → List ℕ → List Rule
checks_of r m f q = rules r m f (well_formed (payload q)) (sent_in q) q

abbrev pub checks_at : State → Call → List Rule
checks_at s i =
    let c : Card = decode s.image in
    checks_of (row (command i.request)) (matched c.codes (sent_in i.request)) c.face i.request

-- check n holds: each of its parts does
abbrev pub check_holds : ℕ → List Rule → Bool
check_holds n [] = true
check_holds n (r ∷ rs) = (not (eqb r.check n) || r.ok) && check_holds n rs

-- n is the first to fail
pub record FirstFails (n : ℕ) (rs : List Rule) : Type 0 where
  pub before : (j : ℕ) → j < n → check_holds j rs ≡ true
  pub fails : check_holds n rs ≡ false

abbrev pub AllHold : List Rule → Type 0
AllHold rs = (j : ℕ) → check_holds j rs ≡ true

-- what a result's reason tells of it: 0 exactly where there is a number, or 9000 to 9003, or 9789; else the status word, of which check 4 has two
pub record Reasoned (r : Outcome) : Type 0 where
  pub none : eqb r.reason 0 ≡ (not (eqb r.number 0) || (is_done r.word || eqb r.word sw_need_pause))
  pub word : eqb r.reason 0 ≡ false → eqb r.reason 4 ≡ false → r.word ≡ check_word r.reason
  pub four : r.reason ≡ 4 → (eqb r.word sw_need_encryption || eqb r.word sw_invalid_params) ≡ true

-- the commands that ask for the issuer's word
pub data AsksIssuer : Command → Type 0 where
  note : AsksIssuer WriteIssuerData
  activation : AsksIssuer ActivateCard

-- check 13: the others hold, the answers have the questions' shape, and the issuer's word on a note or an activation is no
pub record SaidNo (s : State) (i : Call) : Type 0 where
  pub others : AllHold (checks_at s i)
  pub issuer : AsksIssuer (command i.request)
  pub shape : shaped ((row (command i.request)).questions (decode s.image).face (sent_in i.request) i.draw) i.answers ≡ true
  pub no : i.answers ≡ 0 ∷ []

-- ask's reason x and settle's y: the same, but where settle has the issuer's no
pub data Alike (x y : ℕ) : Type 0 where
  alike : y ≡ x → Alike x y
  thirteen : x ≡ 0 → y ≡ 13 → Alike x y

-- A FIELD THAT STANDS TWICE. Whether a tag is one of a list; and that each tag of the command's entry stands at most once in the request
abbrev pub is_of : ℕ → List ℕ → Bool
is_of t [] = false
is_of t (u ∷ us) = eqb u t || is_of t us

abbrev pub OnceEach : List ℕ → Type 0
OnceEach q = (t : ℕ) → is_of t (row (command q)).reads ≡ true → copies t (rest_from (payload q) 0) ≤ 1

-- in every request of a history that was accepted
abbrev pub AllOnce : History → Type 0
AllOnce [] = Unit {0}
AllOnce (t ∷ h) = (accepted t.response ≡ true → OnceEach t.request) × AllOnce h

-- WHAT A COMMAND READS. Two views agree on a tag, on absence and value; and on each tag of a list
abbrev pub SameField : ℕ → View → View → Type 0
SameField t v w = (has t v ≡ has t w) × (val t v ≡ val t w)

abbrev pub SameOn : List ℕ → View → View → Type 0
SameOn [] v w = Unit {0}
SameOn (t ∷ ts) v w = SameField t v w × SameOn ts v w

-- the call with another request
abbrev pub sending : List ℕ → Call → Call
sending q i = record { request = q; draw = i.draw; answers = i.answers; buffers = i.buffers }

abbrev pub PassesFive : State → Call → Type 0
PassesFive s i = (n : ℕ) → n ≤ 5 → check_holds n (checks_at s i) ≡ true

-- a request beside that of the call: of the same command, both past checks 1 to 5, and the same on each tag of the command's entry
pub record Beside (s : State) (i : Call) (q : List ℕ) : Type 0 where
  pub same : command q ≡ command i.request
  pub first : PassesFive s i
  pub second : PassesFive s (sending q i)
  pub fields : SameOn (row (command i.request)).reads (sent_in i.request) (sent_in q)

-- what n new hashes, at most ten, cost a card: one signature, and n hashes on the count
pub record Cost (c c' : Card) (n : ℕ) : Type 0 where
  pub remaining : c'.face.front.wallet.remaining + 1 ≡ c.face.front.wallet.remaining
  pub signed_hashes : c'.face.front.wallet.signed ≡ c.face.front.wallet.signed + n
  pub few : n ≤ most_hashes

-- where n signatures begin in SIGN's response: behind CID's ten bytes and the head of the signatures' field, of two bytes, or four from four signatures on
abbrev pub place : ℕ → ℕ
place n = cond (leb n 3) 12 14

-- the answers of a provider that answers each question by itself, one after the other
abbrev pub answers_of : (Question → List ℕ) → List Question → List ℕ
answers_of provider [] = []
answers_of provider (x ∷ xs) = provider x ++ answers_of provider xs

-- the k-th of equal parts, counted from 0
abbrev pub nth : ℕ → ℕ → List ℕ → List ℕ
nth size k l = take size (drop (k * size) l)

-- what a purge takes of a card: Status, key, Remaining and the last signatures, their room zero; and what it leaves
pub record Forgotten (c c' : Card) : Type 0 where
  pub state : c'.face.front.wallet.status ≡ after_purge c.face.front.flags.reusable
  pub key : c'.face.front.key ≡ no_key
  pub remaining : c'.face.front.wallet.remaining ≡ 0
  pub last : c'.face.last ≡ no_last
  pub number : c'.face.front.wallet.number ≡ c.face.front.wallet.number
  pub signed_hashes : c'.face.front.wallet.signed ≡ c.face.front.wallet.signed
  pub counters : c'.face.front.counters ≡ c.face.front.counters
  pub held : c'.face.held ≡ c.face.held
  pub fixed : c'.face.front.fixed ≡ c.face.front.fixed
  pub flags : c'.face.front.flags ≡ c.face.front.flags
  pub codes : c'.codes ≡ c.codes

-- THE SIGN THAT A REPEAT TELLS AGAIN. The state and the history that events leave, from an image on
abbrev pub state_after : AnyCard → List ℕ → List Event → State
state_after f m es = left f (holding m) es

abbrev pub history_of : AnyCard → List ℕ → List Event → History
history_of f m es = played f (holding m) [] es

-- where events `past` were followed by es: among es stands the SIGN that newly made these signatures, for the wallet that lives after them all
pub record Made (f : AnyCard) (m : List ℕ) (past es : List Event) (signatures : List ℕ) : Type 0 where
  pub before : List Event
  pub call : Call
  pub after : List Event
  pub whole : es ≡ before ++ (tapped call ∷ after)
  pub signed : signed_new (tap_by f (state_after f m (past ++ before)) call) ≡ true
  pub wallet : wallets (history_of f m (past ++ before)) ≡ wallets (history_of f m (past ++ es))
  pub told : signatures ≡ val Signature (told_in (tap_by f (state_after f m (past ++ before)) call).response)

-- and rightfully; what is told again is what was newly given last
pub record Original (f : AnyCard) (sh : Sheet) (m : List ℕ) (past es : List Event) (signatures : List ℕ) : Type 0 where
  pub told : signatures ≡ given (history_of f m (past ++ es))
  pub made : Made f m past es (given (history_of f m (past ++ es)))
  pub rightful :
      Rightful sh (history_of f m (past ++ made.before)) (tap_by f (state_after f m (past ++ made.before)) made.call) made.call
      (questions (f.taps.ask (state_after f m (past ++ made.before)) made.call))

-- the card that an accepted activation leaves: activated, with the default PIN1 where it was to be reset, and nothing else anew (02 Ask 1) but
-- the wait, which is cleared as after every command
abbrev pub woken_card : View → Card → Card
woken_card v c = record { face = activated_face c.face; codes = activated_codes v c.codes }

-- a note: WRITE_ISSUER_DATA with this counter, or one below it
pub record NoteUpTo (n : ℕ) (i : Call) : Type 0 where
  pub command : ins i.request ≡ code WriteIssuerData
  pub counter : sent_counter (sent_in i.request) ≤ n

-- of the card that an image spells
abbrev pub note_counter : List ℕ → ℕ
note_counter m = (decode m).face.held.issuer.counter

abbrev pub protected : List ℕ → Bool
protected m = guarded (decode m).face
