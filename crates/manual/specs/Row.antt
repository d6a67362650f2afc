-- A command as a row; its questions and the shape of their answers; the checks 1 to 12 as one list of rules over a row. Assumes nothing.
use Rattle.std.specs.Prelude.{ℕ, List, [], ◌∷◌, ◌++◌, Bool, true, cond, not, ◌&&◌, ◌||◌, length, get_or, take, drop, leb, eqb, Result, Ok, Err}
use Rattle.wire.specs.Wire.{be1, be2, joined}
use Rattle.fields.specs.Fields.{View, holds, twice, Tagged}
use Rattle.card.specs.declared.Face.{Face}
use Rattle.card.specs.declared.Codes.{Codes}
use Rattle.card.specs.Layout.{key_room, key_short, signature_size}
use Rattle.card.specs.Values.{u16}
use Rattle.manual.specs.Words.{sw_wrong_length, sw_cla_not_supported, sw_ins_not_supported, sw_need_encryption, sw_invalid_params, sw_invalid_status}
use Rattle.manual.specs.Tags.{CID, CVC}
use Rattle.manual.specs.declared.Needs.{Needs}
use Rattle.manual.specs.declared.Command.{Command}
use Rattle.manual.specs.declared.Refusal.{Refusal}
use Rattle.manual.specs.Request.{lc_of, fits, ins_of, listed, command}

-- QUESTIONS: kind (1), wallet number (2), curve (1), message length (2), message, whose parts follow one another
pub record Question : Type 0 where
  pub kind : ℕ
  pub number : ℕ
  pub curve : ℕ
  pub message : List (List ℕ)

abbrev pub question : ℕ → ℕ → ℕ → List (List ℕ) → Question
question k n c m = record { kind = k; number = n; curve = c; message = m }

abbrev pub head_bytes : ℕ → ℕ → ℕ → ℕ → List ℕ
head_bytes k n c l = be1 k ++ be2 n ++ be1 c ++ be2 l

abbrev pub head_of : Question → List ℕ
head_of x = head_bytes x.kind x.number x.curve (u16 (length (joined x.message)))

-- the parts of all questions, and their bytes one after the other
unfoldable pub each_asked : List Question → List (List ℕ)
each_asked [] = []
each_asked (x ∷ xs) = (head_of x ∷ x.message) ++ each_asked xs

unfoldable pub asked : List Question → List ℕ
asked xs = joined (each_asked xs)

-- ANSWERS: how long an answer to a question may be, from the least to the most, and what its first byte may be
pub record Answer : Type 0 where
  pub least : ℕ
  pub most : ℕ
  pub first : ℕ → Bool

abbrev pub exactly : ℕ → (ℕ → Bool) → Answer
exactly n g = record { least = n; most = n; first = g }

abbrev pub any_byte : ℕ → Bool
any_byte b = true

-- kind 1: the key, of 65 bytes starting 04 or of 32; kinds 5 and 6, whether the issuer signed: one byte, 0 or 1; kinds 2 to 4: 64 bytes
abbrev pub key_answer : ℕ → Answer
key_answer curve = cond (eqb curve 1) (exactly key_room (λ b. eqb b 4)) (exactly key_short any_byte)

abbrev pub yes_or_no : ℕ → Bool
yes_or_no kind = eqb kind 5 || eqb kind 6

abbrev pub answer_to : Question → Answer
answer_to x =
    cond (eqb x.kind 1) (key_answer x.curve)
    (cond (yes_or_no x.kind) (exactly 1 (λ b. leb b 1))
    (exactly signature_size any_byte))

abbrev pub fitting : Answer → List ℕ → Bool
fitting w a = leb w.least (length a) && (leb (length a) w.most && w.first (get_or a 0 0))

-- "Answers follow one another with nothing between"; anything else is number 4. Only the last may have a length that is not fixed
unfoldable pub shaped : List Question → List ℕ → Bool
shaped [] a = eqb (length a) 0
shaped (x ∷ []) a = fitting (answer_to x) a
shaped (x ∷ y ∷ ys) a = fitting (answer_to x) (take (answer_to x).least a) && shaped (y ∷ ys) (drop (answer_to x).least a)

-- the answer yes
abbrev pub yes : List ℕ → Bool
yes a = eqb (get_or a 0 0) 1

-- how the codes of a request compare with those of the card: all that is ever seen of them
pub record Matched : Type 0 where
  pub pin1 : Bool
  pub pin2 : Bool
  pub new1 : Bool
  pub new2 : Bool

-- A COMMAND. f is the face of the card, v the view of the payload, d the draw, a the answers; no part of it sees the codes
pub record Row : Type 0 where
  pub reads : List ℕ  -- check 5: the tags of its entry, none of which may stand twice
  pub needs : Needs  -- checks 7 to 10
  pub pin2 : View → Bool  -- check 10, of v
  pub fields : Face → View → Bool  -- check 11, of f and v
  pub conditions : Matched → Face → View → Bool  -- check 12, of f and v
  pub questions : Face → View → List ℕ → List Question  -- of f, v and d
  pub confirmed : List ℕ → Bool  -- check 13, of a
  pub next : Face → View → List ℕ → Face  -- the face after, of f, v and a
  pub recode : View → Codes → Codes  -- the codes after, of v
  pub fields_out : Face → View → List ℕ → List ℕ → List Tagged  -- of the face after, v, d and a; CID comes first by itself
  pub more : Matched → ℕ  -- what is added to 9000

abbrev pub stays : View → Codes → Codes
stays v x = x

-- CHECKS, in order; the first failure decides
pub record Rule : Type 0 where
  pub check : ℕ
  pub ok : Bool
  pub word : ℕ

abbrev pub rule : ℕ → Bool → ℕ → Rule
rule n b w = record { check = n; ok = b; word = w }

-- the command, or which check is the first that fails, and its status word
abbrev pub Verdict : Type 0
Verdict = Result Command Refusal

abbrev pub stop : {A : Type 0} → ℕ → ℕ → Result A Refusal
stop n w = Err (record { check = n; word = w })

abbrev pub gate_of : {A : Type 0} → List Rule → Result A Refusal → Result A Refusal
gate_of [] g = g
gate_of (r ∷ rs) g = cond r.ok (gate_of rs g) (stop r.check r.word)

unfoldable pub plain : ℕ → Bool
plain p2 = not (eqb p2 1 || eqb p2 2)

-- check 9
unfoldable pub allowed : Needs → ℕ → Bool
allowed n s = cond (eqb s 1) n.empty (cond (eqb s 2) n.loaded n.purged)

-- checks 1 to 3: what the request is
abbrev pub head_rules : List ℕ → List Rule
head_rules q =
    rule 1 (fits (lc_of q)) sw_wrong_length
    ∷ rule 2 (eqb (get_or q 0 0) 0) sw_cla_not_supported
    ∷ rule 3 (listed (ins_of (get_or q 1 0))) sw_ins_not_supported
    ∷ []

-- no tag of the list stands twice, whatever the card makes of its value
abbrev pub single : List ℕ → View → Bool
single [] v = true
single (t ∷ ts) v = not (twice t v) && single ts v

-- checks 4 and 5: its parameters; its payload is well formed, and has no tag of the command's entry twice. For every face they are the same
abbrev pub form_rules : Row → Face → Bool → View → List ℕ → List Rule
form_rules r f formed v q =
    rule 4 (plain (get_or q 3 0)) sw_need_encryption
    ∷ rule 4 (eqb (get_or q 2 0) 0 && eqb (get_or q 3 0) 0) sw_invalid_params
    ∷ rule 5 formed sw_invalid_params
    ∷ rule 5 (single r.reads v) sw_invalid_params
    ∷ []

-- checks 6 to 9, of the view v of the payload
abbrev pub entry_rules : Row → Matched → Face → View → List Rule
entry_rules r m f v =
    rule 6 m.pin1 sw_invalid_params
    ∷ rule 7 (not r.needs.cid || holds CID v f.front.fixed.cid) sw_invalid_params
    ∷ rule 8 (r.needs.asleep || eqb f.front.flags.active 1) sw_invalid_status
    ∷ rule 9 (allowed r.needs f.front.wallet.status) sw_invalid_status
    ∷ []

-- checks 10 to 12: PIN2, then CVC; the command's own fields; its own conditions
abbrev pub asks_cvc : Row → Face → Bool
asks_cvc r f = r.needs.cvc && eqb f.front.flags.usecvc 1

abbrev pub own_rules : Row → Matched → Face → View → List Rule
own_rules r m f v =
    rule 10 (not (r.pin2 v) || m.pin2) sw_invalid_params
    ∷ rule 10 (not (asks_cvc r f) || holds CVC v f.front.fixed.cvc) sw_invalid_params
    ∷ rule 11 (r.fields f v) sw_invalid_params
    ∷ rule 12 (r.conditions m f v) sw_invalid_status
    ∷ []

-- of a request q; v is the view of its payload
abbrev pub rules : Row → Matched → Face → Bool → View → List ℕ → List Rule
rules r m f formed v q = head_rules q ++ (form_rules r f formed v q ++ (entry_rules r m f v ++ own_rules r m f v))

abbrev pub passed : List ℕ → Verdict
passed q = Ok (command q)
