-- REASONS, of any card that meets demand 2: which check a reason names, what it tells of the status word, and that ask and settle agree. Assumes nothing.
use Prim.Native.Nat.{ℕ, zero, suc, ◌≤◌}
use native.Mathlib.Omega.{arith}
use mathlib.Core.Path.{◌≡◌, refl, ap, ◌∙◌, subst}
use mathlib.Core.List.{List, [], ◌∷◌}
use mathlib.Core.Bool.{Bool, true, false, ◌&&◌, ◌||◌}
use lib.ListN.{length, get_or}
use lib.Dec.{leb, eqb}
use borrow.Author.Tests.{eq-eqb, ne_eqb, leb-true, leb-false}
use Rattle.fields.specs.Fields.{View}
use Rattle.card.specs.declared.Face.{Face}
use Rattle.card.specs.Image.{decode}
use Rattle.manual.specs.Words.{sw_process_completed, sw_error_processing_command, sw_need_encryption, sw_invalid_params, sw_need_pause, questions_room}
use Rattle.manual.specs.declared.Command.{Command}
use Rattle.manual.specs.declared.Command.TheVariants.{ReadCard, CreateWallet, CheckWallet, SetPin, Sign, VerifyCard, ValidateCard, PurgeWallet}
use Rattle.manual.specs.declared.Command.TheVariants.{ReadUserData, WriteUserData, WriteIssuerData, ReadIssuerData, ActivateCard}
use Rattle.manual.specs.declared.Outcome.{Outcome}
use Rattle.manual.specs.Request.{command}
use Rattle.manual.specs.Row.{Matched, exactly, fitting, shaped, Rule}
use Rattle.manual.specs.Commands.{row}
use Rattle.manual.specs.Settle.{State, Call, ask_call, sent_in, matched, Said, done, card_after, Posed}
use Rattle.manual.specs.Settle.{settled, settled_of, outcome, lent, asked_for, asked_of, Settled}
use Rattle.story.specs.Sums.{is_done}
use Rattle.history.specs.Demands.{AnyCard, ask_stop, settle_stop, check_word, is_refusal, Demand2}
use Rattle.history.specs.Facts.{checks_at, FirstFails, AllHold, Reasoned, AsksIssuer, note, activation, SaidNo, Alike, alike, thirteen}
use Rattle.history.specs.Waiting.{wait_of}
use Rattle.history.proofs.Choice.{both_true, clash}
use Rattle.history.proofs.Delay.{Delayed}
use Rattle.history.proofs.Taps.{in_range, by_word, not_done_lem, not_pause, by_outcome}
use Rattle.history.proofs.Cards.{done_is}
use Rattle.history.proofs.Images.{asked_at, settled_at, looked, looked_ask, both_look, by_call, by_ask}
use Rattle.history.proofs.Theorems.{every}

-- THE FIRST CHECK TO FAIL is one
first_one : {m n : ℕ} {rs : List Rule} → FirstFails m rs → FirstFails n rs → m ≡ n
first_one {m} {n} x y = go (leb m n) (leb n m) refl refl
  where
    go : (a b : Bool) → leb m n ≡ a → leb n m ≡ b → m ≡ n
    go true true e f = omega (arith, leb-true m n e, leb-true n m f)
    go true false e f = clash (y.before m (leb-false n m f)) x.fails
    go false b e f = clash (x.before n (leb-false m n e)) y.fails

-- THE ISSUER'S NO: the byte 0
byte_0 : (a : List ℕ) → fitting (exactly 1 (λ b. leb b 1)) a ≡ true → eqb (get_or a 0 0) 1 ≡ false → a ≡ 0 ∷ []
byte_0 [] e n = clash e refl
byte_0 (zero ∷ []) e n = refl
byte_0 (suc x ∷ []) e n = clash (eq-eqb (suc x) 1 (omega (arith, leb-true (suc x) 1 e))) n
byte_0 (x ∷ y ∷ ys) e n =
    let l : ℕ = length (x ∷ y ∷ ys) in
    let z = both_true (leb l 1) (leb x 1) (both_true (leb 1 l) (leb l 1 && leb x 1) e).1 in
    absurd (omega (arith, leb-true l 1 z.0))

-- in answer to a note or an activation
record No (k : Command) (a : List ℕ) : Type 0 where
  asks : AsksIssuer k
  byte : a ≡ 0 ∷ []

unconfirmed : (k : Command) (f : Face) (v : View) (d a : List ℕ) → shaped ((row k).questions f v d) a ≡ true → (row k).confirmed a ≡ false → No k a
unfolding shaped
unconfirmed ReadCard f v d a y e = clash refl e
unconfirmed CreateWallet f v d a y e = clash refl e
unconfirmed CheckWallet f v d a y e = clash refl e
unconfirmed SetPin f v d a y e = clash refl e
unconfirmed Sign f v d a y e = clash refl e
unconfirmed VerifyCard f v d a y e = clash refl e
unconfirmed ValidateCard f v d a y e = clash refl e
unconfirmed PurgeWallet f v d a y e = clash refl e
unconfirmed ReadUserData f v d a y e = clash refl e
unconfirmed WriteUserData f v d a y e = clash refl e
unconfirmed WriteIssuerData f v d a y e = record { asks = note; byte = byte_0 a y e }
unconfirmed ReadIssuerData f v d a y e = clash refl e
unconfirmed ActivateCard f v d a y e = record { asks = activation; byte = byte_0 a y e }

no_to : {k : Command} → AsksIssuer k → (row k).confirmed (0 ∷ []) ≡ false
no_to note = refl
no_to activation = refl

module _ (s : State) (i : Call) where
  abbrev k : Command
  k = command i.request

  abbrev f : Face
  f = (decode s.image).face

  abbrev x : Matched
  x = matched (decode s.image).codes (sent_in i.request)

  said_no :
      AllHold (checks_at s i) → shaped ((row k).questions f (sent_in i.request) i.draw) i.answers ≡ true
      → (row k).confirmed i.answers ≡ false → SaidNo s i
  said_no h y n =
      let z = unconfirmed k f (sent_in i.request) i.draw i.answers y n in
      record { others = h; issuer = z.asks; shape = y; no = z.byte }

  -- what settle says, lent
  abbrev result_of : Said → Outcome
  result_of z = (lent z (card_after z (decode s.image).codes i.request) i.buffers.out i.buffers.next).result

  -- THE RESULT of a call whose card is looked at: by the first check to fail, a pause, or where all hold
  module _
      (P : Outcome → Type 0) (no_way : (n w l : ℕ) → is_refusal n w ≡ true → FirstFails n (checks_at s i) → P (outcome 0 n w l))
      (waits : (t l : ℕ) → Delayed (row k) x f i.request t → P (outcome 0 0 sw_need_pause l)) where
    asked_by : (AllHold (checks_at s i) → (l : ℕ) → P (outcome 0 0 sw_process_completed l)) → P (asked_at s i).result
    unfolding asked_of
    asked_by yes_way =
        by_outcome (λ _ n w _. (l : ℕ) → P (outcome 0 n w l)) x f i.request i.draw i.answers
        (λ n w h l. no_way n w l h.word h.first) (λ t h l. waits t l h) (λ h _. yes_way h.all) (λ h _ _. yes_way h.all) (λ h _ _. yes_way h.all) _

    settled_by :
        (AllHold (checks_at s i) → shaped ((row k).questions f (sent_in i.request) i.draw) i.answers ≡ false → P (outcome 4 0 0 0))
        → (SaidNo s i → P (outcome 0 13 sw_error_processing_command 2))
        → (AllHold (checks_at s i) → (row k).confirmed i.answers ≡ true → (w l : ℕ) → is_done w ≡ true → P (outcome 0 0 w l)) → P (settled_at s i).result
    unfolding settled_of lent done
    settled_by four thirteenth yes_way =
        by_outcome (λ z _ _ _. P (result_of z)) x f i.request i.draw i.answers
        (λ n w h. no_way n w 2 h.word h.first)
        (λ t h. waits t _ h)
        (λ h n. four h.all n)
        (λ h y n. thirteenth (said_no h.all y n))
        (λ h _ t. yes_way h.all t _ _ (done_is k x))

  -- ask and settle, of the same request and draw
  alike_at : (page : List ℕ) → Alike (asked_at s (ask_call i.request i.draw page)).result.reason (settled_at s i).result.reason
  unfolding asked_of settled_of lent done
  alike_at page =
      by_outcome (λ z n _ _. Alike n (result_of z).reason) x f i.request i.draw i.answers
      (λ n w h. alike refl) (λ t h. alike refl) (λ h _. alike refl) (λ h _ _. thirteen refl refl) (λ h _ _. alike refl)

  -- n fails first, and the request need not wait if that is after check 10: then it does not
  goes_on_lem : (n : ℕ) → FirstFails n (checks_at s i) → (11 ≤ n → wait_of (decode s.image) i.request ≡ 0) → (t : ℕ) → Delayed (row k) x f i.request t → ⊥
  goes_on_lem n h prompt t d = go (leb 11 n) refl
    where
      go : (b : Bool) → leb 11 n ≡ b → ⊥
      go true e = omega (arith, d.some, d.is_left, prompt (leb-true 11 n e))
      go false e = clash (d.holds n (omega (arith, leb-false 11 n e))) h.fails

-- ask and settle, whatever they are given: numbers other than 0 have no reason
asked_cases :
    (P : Outcome → Type 0) (s : State) (i : Call) → ((n : ℕ) → eqb n 0 ≡ false → P (outcome n 0 0 0))
    → ((n w l : ℕ) → is_refusal n w ≡ true → FirstFails n (checks_at s i) → P (outcome 0 n w l)) → ((l : ℕ) → P (outcome 0 0 sw_need_pause l))
    → ((l : ℕ) → P (outcome 0 0 sw_process_completed l)) → P (asked_for s i).result
asked_cases P s i stopped no_way waits yes_way =
    by_ask (λ (z : Posed). P z.result) s i stopped (asked_by s i P no_way (λ t l _. waits l) (λ _. yes_way))

settled_cases :
    (P : Outcome → Type 0) (s : State) (i : Call) → ((n : ℕ) → eqb n 0 ≡ false → P (outcome n 0 0 0))
    → ((n w l : ℕ) → is_refusal n w ≡ true → FirstFails n (checks_at s i) → P (outcome 0 n w l)) → ((l : ℕ) → P (outcome 0 0 sw_need_pause l))
    → (SaidNo s i → P (outcome 0 13 sw_error_processing_command 2))
    → ((w l : ℕ) → is_done w ≡ true → P (outcome 0 0 w l)) → P (settled s i).result
settled_cases P s i stopped no_way waits thirteenth yes_way =
    by_call (λ (z : Settled). P z.result) s i stopped
    (λ _ _ _. settled_by s i P no_way (λ t l _. waits l) (λ _ _. stopped 4 refl) thirteenth (λ _ _. yes_way))

-- WHAT A REASON TELLS of the result
numbered : (n : ℕ) → eqb n 0 ≡ false → Reasoned (outcome n 0 0 0)
numbered n e = record { none = rw e refl; word = λ z _. clash refl z; four = λ z. absurd (omega arith) }

refused_by : (n w l : ℕ) → is_refusal n w ≡ true → Reasoned (outcome 0 n w l)
refused_by n w l e =
    record {
      none = rw (ne_eqb n 0 (λ z. omega (arith, (in_range n w e).0)), not_done_lem n w e, not_pause n w e) refl;
      word = λ _ z. by_word (λ y. y ≡ check_word n) n w e refl (λ y. clash (eq-eqb n 4 y) z);
      four = λ z. by_word (λ y. (eqb y sw_need_encryption || eqb y sw_invalid_params) ≡ true) n w e (rw z refl) (λ _. refl);
    }

carried_out : (w l : ℕ) → is_done w ≡ true → Reasoned (outcome 0 0 w l)
carried_out w l e = record { none = rw e refl; word = λ z _. clash refl z; four = λ z. absurd (omega arith) }

paused : (l : ℕ) → Reasoned (outcome 0 0 sw_need_pause l)
paused l = record { none = refl; word = λ z _. clash refl z; four = λ z. absurd (omega arith) }

pub asked_reasoned : (f : AnyCard) → Demand2 f → (s : State) (i : Call) → Reasoned (f.taps.ask s i).result
asked_reasoned =
    every (λ f. (s : State) (i : Call) → Reasoned (f.taps.ask s i).result)
    (λ s i. asked_cases Reasoned s i numbered (λ n w l e _. refused_by n w l e) paused (λ l. carried_out sw_process_completed l refl))

pub settled_reasoned : (f : AnyCard) → Demand2 f → (s : State) (i : Call) → Reasoned (f.taps.settle s i).result
settled_reasoned =
    every (λ f. (s : State) (i : Call) → Reasoned (f.taps.settle s i).result)
    (λ s i.
    settled_cases Reasoned s i numbered (λ n w l e _. refused_by n w l e) paused
    (λ _. record { none = refl; word = λ _ _. refl; four = λ z. absurd (omega arith) })
    carried_out)

-- REASON n OF 1 TO 12: every check before n holds of this card and request, and n does not
pub asked_first :
    (f : AnyCard) → Demand2 f → (s : State) (i : Call) (n : ℕ) → 1 ≤ n → (f.taps.ask s i).result.reason ≡ n → FirstFails n (checks_at s i)
asked_first =
    every (λ f. (s : State) (i : Call) (n : ℕ) → 1 ≤ n → (f.taps.ask s i).result.reason ≡ n → FirstFails n (checks_at s i))
    (λ s i n h.
    asked_cases (λ r. r.reason ≡ n → FirstFails n (checks_at s i)) s i
    (λ _ _ e. absurd (omega arith))
    (λ m w l _ x e. subst (λ j. FirstFails j (checks_at s i)) e x)
    (λ l e. absurd (omega arith))
    (λ l e. absurd (omega arith)))

pub settled_first :
    (f : AnyCard) → Demand2 f → (s : State) (i : Call) (n : ℕ) → 1 ≤ n → n ≤ 12 → (f.taps.settle s i).result.reason ≡ n → FirstFails n (checks_at s i)
settled_first =
    every (λ f. (s : State) (i : Call) (n : ℕ) → 1 ≤ n → n ≤ 12 → (f.taps.settle s i).result.reason ≡ n → FirstFails n (checks_at s i))
    (λ s i n h g.
    settled_cases (λ r. r.reason ≡ n → FirstFails n (checks_at s i)) s i
    (λ _ _ e. absurd (omega arith))
    (λ m w l _ x e. subst (λ j. FirstFails j (checks_at s i)) e x)
    (λ l e. absurd (omega arith))
    (λ _ e. absurd (omega arith))
    (λ w l _ e. absurd (omega arith)))

-- and the first check to fail is the reason, unless the request has to wait after check 10
pub first_asked :
    (f : AnyCard) → Demand2 f → (s : State) (i : Call) (n : ℕ) → ask_stop s i ≡ 0 → FirstFails n (checks_at s i)
    → (11 ≤ n → wait_of (decode s.image) i.request ≡ 0) → (f.taps.ask s i).result.reason ≡ n
first_asked f d s i n e h p =
    ap (λ y. y.result.reason) (d.asks s i ∙ looked_ask s i e)
    ∙ asked_by s i (λ r. r.reason ≡ n) (λ m w l _ x. first_one x h) (λ t l x. absurd (goes_on_lem s i n h p t x)) (λ g l. clash (g n) h.fails)

pub first_settled :
    (f : AnyCard) → Demand2 f → (s : State) (i : Call) (n : ℕ) → settle_stop s i ≡ 0 → FirstFails n (checks_at s i)
    → (11 ≤ n → wait_of (decode s.image) i.request ≡ 0) → (f.taps.settle s i).result.reason ≡ n
first_settled f d s i n e h p =
    ap (λ y. y.result.reason) (d.settles s i ∙ looked s i e)
    ∙ settled_by s i (λ r. r.reason ≡ n) (λ m w l _ x. first_one x h) (λ t l x. absurd (goes_on_lem s i n h p t x))
    (λ g _. clash (g n) h.fails) (λ y. clash (y.others n) h.fails) (λ g _ w l _. clash (g n) h.fails)

-- REASON 13: all twelve hold, the answers have their shape, and the issuer said no; and where that is so, and the request need not wait, the reason is 13
pub settled_thirteen : (f : AnyCard) → Demand2 f → (s : State) (i : Call) → (f.taps.settle s i).result.reason ≡ 13 → SaidNo s i
settled_thirteen =
    every (λ f. (s : State) (i : Call) → (f.taps.settle s i).result.reason ≡ 13 → SaidNo s i)
    (λ s i.
    settled_cases (λ r. r.reason ≡ 13 → SaidNo s i) s i
    (λ _ _ e. absurd (omega arith))
    (λ n w l h _ e. absurd (omega (arith, (in_range n w h).1)))
    (λ l e. absurd (omega arith))
    (λ x _. x)
    (λ w l _ e. absurd (omega arith)))

pub thirteen_settled :
    (f : AnyCard) → Demand2 f → (s : State) (i : Call) → settle_stop s i ≡ 0 → wait_of (decode s.image) i.request ≡ 0 → SaidNo s i
    → (f.taps.settle s i).result.reason ≡ 13
thirteen_settled f d s i e p y =
    let no : (row (command i.request)).confirmed i.answers ≡ false = ap (row (command i.request)).confirmed y.no ∙ no_to y.issuer in
    ap (λ z. z.result.reason) (d.settles s i ∙ looked s i e)
    ∙ settled_by s i (λ r. r.reason ≡ 13) (λ n w l _ x. clash (y.others n) x.fails) (λ t l x. absurd (omega (arith, x.some, x.is_left, p)))
    (λ _ n. clash y.shape n) (λ _. refl) (λ _ t w l _. clash t no)

-- ASK AND SETTLE say the same reason, but where settle says 13 and ask 0
pub reasons_alike :
    (f : AnyCard) → Demand2 f → (s : State) (i : Call) (page : List ℕ) → questions_room ≤ length page → settle_stop s i ≡ 0
    → Alike (f.taps.ask s (ask_call i.request i.draw page)).result.reason (f.taps.settle s i).result.reason
reasons_alike f d s i page l e =
    let asking : Call = ask_call i.request i.draw page in
    rw (d.asks s asking ∙ looked_ask s asking (both_look s i page l e), d.settles s i ∙ looked s i e) (alike_at s i page)
