-- THE FIELD THAT STANDS TWICE, of any card that meets demand 2: what check 5 tells of a request; that a command reads no tag outside of its entry; and what
-- an accepted request of a history has. Assumes nothing.
use Prim.Native.Nat.{ℕ, ◌+◌, ◌-◌, ◌≤◌}
use native.Mathlib.Omega.{arith}
use mathlib.Core.Path.{◌≡◌, refl, sym, ap, ◌∙◌, subst}
use mathlib.Core.List.{List, [], ◌∷◌, ◌++◌}
use mathlib.Core.Bool.{Bool, true, false, cond, not, ◌&&◌, ◌||◌}
use lib.ListN.{length, get_or}
use lib.Dec.{leb, eqb}
use borrow.Author.Tests.{leb-true, leb-false, eqb-true, not-true}
use Rattle.std.specs.Prelude.{Ok}
use Rattle.fields.specs.Fields.{View, rest_from, copies, times_of, is_twice, twice, view_of, holds, well_formed}
use Rattle.fields.proofs.Often.{many}
use Rattle.card.specs.declared.Codes.{Codes}
use Rattle.card.specs.declared.Face.{Face}
use Rattle.card.specs.declared.Card.{Card}
use Rattle.card.specs.Values.{u8, default_pin1, default_pin2}
use Rattle.card.specs.Image.{decode}
use Rattle.card.specs.Valid.{is_card}
use Rattle.manual.specs.Words.{sw_invalid_params, sw_invalid_status, questions_room, draw_size}
use Rattle.manual.specs.Tags.{CID, PIN1, PIN2, CVC, NewPIN1, NewPIN2, ResetPIN1, TransactionHash, TransactionHashSize}
use Rattle.manual.specs.declared.Command.{Command}
use Rattle.manual.specs.declared.Pace.{Pace}
use Rattle.manual.specs.declared.Pace.TheVariants.{Refused, Waits, Goes}
use Rattle.manual.specs.Request.{lc_of, fits, ins_of, listed, command, payload}
use Rattle.manual.specs.Row.{Matched, Question, asked, Row, Rule, rule, gate_of, plain, single, allowed, asks_cvc, rules, Verdict, stop}
use Rattle.manual.specs.Wallet.{create_wallet, set_pin, sign}
use Rattle.manual.specs.Activation.{activate_card}
use Rattle.manual.specs.Commands.{row}
use Rattle.manual.specs.Delay.{entered, counts, wrong_code, is_held, whole_wait, pace_for, pace_by}
use Rattle.manual.specs.Settle.{State, Call, sent_in, matched, judged_by, judged, Said, done, answered, said_by, said, questions_of}
use Rattle.manual.specs.Settle.{pace_of, paced, paced_to, paced_reason, paced_word, paced_questions}
use Rattle.manual.specs.Settle.{Posed, asked_of, asked_for, settled_of, lent, settled, outcome, posed, posed_by, untouched, roomy}
use Rattle.story.specs.Sums.{History, accepted}
use Rattle.story.specs.Buffers.{response}
use Rattle.history.specs.Demands.{AnyCard, Demand2, Event, tapped, switched_off, leaves, adds, played}
use Rattle.history.specs.Facts.{SameField, checks_at, check_holds, is_of, OnceEach, AllOnce, sending, PassesFive, Beside}
use Rattle.history.specs.Waiting.{wait_of}
use Rattle.history.specs.Wrong.{says_at}
use Rattle.history.proofs.Choice.{by_cases, both_true, clash}
use Rattle.history.proofs.Taps.{paced_as, carried}
use Rattle.history.proofs.Images.{model, by_call, response_is, stages, said_at}
use Rattle.history.proofs.Theorems.{every}
use Rattle.history.proofs.Entries.{same_holds, Reads, reads}

-- NO TAG OF A LIST TWICE: each at most once
at_most : (n : ℕ) → is_twice (times_of n) ≡ false → n ≤ 1
at_most n e = go (leb n 1) refl
  where
    go : (b : Bool) → leb n 1 ≡ b → n ≤ 1
    go true h = leb-true n 1 h
    go false h = clash (ap is_twice (many n (leb-false n 1 h))) e

of_list : (v : View) (t : ℕ) (ts : List ℕ) → single ts v ≡ true → is_of t ts ≡ true → twice t v ≡ false
of_list v t [] s e = clash e refl
of_list v t (u ∷ us) s e =
    let y = both_true (not (twice u v)) (single us v) s in
    go (not-true (twice u v) y.0) (of_list v t us y.1) (eqb u t) refl e
  where
    go : twice u v ≡ false → (is_of t us ≡ true → twice t v ≡ false) → (b : Bool) → eqb u t ≡ b → (b || is_of t us) ≡ true → twice t v ≡ false
    go h rest true i e = subst (λ x. twice x v ≡ false) (eqb-true u t i) h
    go h rest false i e = rest e

each_once : (q : List ℕ) → single (row (command q)).reads (sent_in q) ≡ true → OnceEach q
unfolding sent_in view_of twice
each_once q h t e = at_most (copies t (rest_from (payload q) 0)) (of_list (sent_in q) t (row (command q)).reads h e)

-- A REQUEST THAT PASSES CHECK 5 has each tag of its command's entry at most once
pub five_once : (s : State) (i : Call) → check_holds 5 (checks_at s i) ≡ true → OnceEach i.request
five_once s i h =
    let b : Bool = single (row (command i.request)).reads (sent_in i.request) in
    each_once i.request (both_true b true (both_true (well_formed (payload i.request)) (b && true) h).1).0

-- AN ACCEPTED REQUEST of any history has each tag of its command's entry at most once
once_model : (s : State) (i : Call) → accepted (response (settled s i)) ≡ true → OnceEach i.request
unfolding accepted
once_model s i =
    by_call (λ z. accepted (response z) ≡ true → OnceEach i.request) s i
    (λ n k e. clash e (rw k refl))
    (λ _ _ _ e.
    let c = decode s.image in
    let m = matched c.codes (sent_in i.request) in
    each_once i.request (carried m c.face i.request i.draw i.answers (rw (response_is s i) at e)).passed.once)

play_model : (s : State) (h : History) (es : List Event) → AllOnce h → AllOnce (played model s h es)
play_model s h [] o = o
play_model s h (tapped i ∷ es) o = play_model (leaves model s (tapped i)) (adds model s (tapped i) ++ h) es (once_model s i, o)
play_model s h (switched_off nxt ∷ es) o = play_model (leaves model s (switched_off nxt)) h es o

pub accepted_once : (f : AnyCard) → Demand2 f → (s : State) (es : List Event) → AllOnce (played f s [] es)
accepted_once = every (λ f. (s : State) (es : List Event) → AllOnce (played f s [] es)) (λ s es. play_model s [] es tt)

-- and the tags that a history's sums read of a command are in its entry: PIN1, PIN2 and CVC, the new codes, Reset_PIN1, the hashes and their size
pub sums_listed :
    (is_of PIN1 sign.reads ≡ true) × (is_of PIN2 sign.reads ≡ true) × (is_of CVC sign.reads ≡ true)
    × (is_of TransactionHash sign.reads ≡ true) × (is_of TransactionHashSize sign.reads ≡ true)
    × (is_of PIN1 create_wallet.reads ≡ true) × (is_of PIN2 create_wallet.reads ≡ true) × (is_of CVC create_wallet.reads ≡ true)
    × (is_of NewPIN1 set_pin.reads ≡ true) × (is_of NewPIN2 set_pin.reads ≡ true)
    × (is_of PIN1 activate_card.reads ≡ true) × (is_of ResetPIN1 activate_card.reads ≡ true)
sums_listed = (refl, refl, refl, refl, refl, refl, refl, refl, refl, refl, refl, refl)

-- CHECKS 1 TO 5 by name, and what is left of the judgement where they hold
record Opened (r : Row) (q : List ℕ) : Type 0 where
  pub length : fits (lc_of q) ≡ true
  pub class : eqb (get_or q 0 0) 0 ≡ true
  pub listed : listed (ins_of (get_or q 1 0)) ≡ true
  pub plain : plain (get_or q 3 0) ≡ true
  pub bare : (eqb (get_or q 2 0) 0 && eqb (get_or q 3 0) 0) ≡ true
  pub formed : well_formed (payload q) ≡ true
  pub once : single r.reads (sent_in q) ≡ true

opened : (s : State) (i : Call) → PassesFive s i → Opened (row (command i.request)) i.request
opened s i h =
    let q : List ℕ = i.request in
    let b : Bool = single (row (command q)).reads (sent_in q) in
    let c : Bool = eqb (get_or q 2 0) 0 && eqb (get_or q 3 0) 0 in
    let four = both_true (plain (get_or q 3 0)) (c && true) (h 4 (omega arith)) in
    let five = both_true (well_formed (payload q)) (b && true) (h 5 (omega arith)) in
    record {
      length = (both_true (fits (lc_of q)) true (h 1 (omega arith))).0;
      class = (both_true (eqb (get_or q 0 0) 0) true (h 2 (omega arith))).0;
      listed = (both_true (listed (ins_of (get_or q 1 0))) true (h 3 (omega arith))).0;
      plain = four.0;
      bare = (both_true c true four.1).0;
      formed = five.0;
      once = (both_true b true five.1).0;
    }

-- checks 6 to 12, each by whether it holds
abbrev later : Bool → Bool → Bool → Bool → Bool → Bool → Bool → Bool → List Rule
later pin1 cid awake status pin2 cvc fields conditions =
    rule 6 pin1 sw_invalid_params ∷ rule 7 cid sw_invalid_params ∷ rule 8 awake sw_invalid_status ∷ rule 9 status sw_invalid_status ∷ rule 10 pin2 sw_invalid_params
    ∷ rule 10 cvc sw_invalid_params ∷ rule 11 fields sw_invalid_params ∷ rule 12 conditions sw_invalid_status ∷ []

-- a code that is asked for and not right
is_asked_lem : (b c : Bool) → (not b || c) ≡ false → b ≡ true
is_asked_lem true c e = refl
is_asked_lem false c e = clash refl e

-- check 10: over PIN2 where that is asked for and not right, else over the CVC
same_ten :
    (a b a' b' : Bool) {c c' d d' : Bool} → a ≡ a' → (a' ≡ true → (b ≡ b') × (c ≡ c')) → ((not a || b) ≡ true → d ≡ d')
    → cond (a && not b) c d ≡ cond (a' && not b') c' d'
same_ten true true true true e two three = three refl
same_ten true true true false e two three = clash refl (two refl).0
same_ten true false true true e two three = clash refl (sym (two refl).0)
same_ten true false true false e two three = (two refl).1
same_ten true b false b' e two three = clash refl e
same_ten false b true b' e two three = clash refl (sym e)
same_ten false b false b' e two three = three refl

module _ (r : Row) (x : Codes) (f : Face) where
  abbrev later_of : View → List Rule
  later_of v =
      later (holds PIN1 v x.pin1) (not r.needs.cid || holds CID v f.front.fixed.cid) (r.needs.asleep || eqb f.front.flags.active 1)
      (allowed r.needs f.front.wallet.status) (not (r.pin2 v) || holds PIN2 v x.pin2) (not (asks_cvc r f) || holds CVC v f.front.fixed.cvc)
      (r.fields f v) (r.conditions (matched x v) f v)

  judged_later : (q : List ℕ) (g : Verdict) → Opened r q
      → gate_of (rules r (matched x (sent_in q)) f (well_formed (payload q)) (sent_in q) q) g ≡ gate_of (later_of (sent_in q)) g
  judged_later q g o = rw (o.length, o.class, o.listed, o.plain, o.bare, o.formed, o.once) refl

  -- a code that is asked for, and one that is not
  where_asked : (b : Bool) {c d : Bool} → (b ≡ true → c ≡ d) → (not b || c) ≡ (not b || d)
  where_asked true h = h refl
  where_asked false h = refl

  same_rules : (v w : View) → Reads r v w → later_of v ≡ later_of w
  same_rules v w h =
      let pin1 = same_holds PIN1 v w h.pin1 x.pin1 in
      let cid = where_asked r.needs.cid (λ e. same_holds CID v w (h.cid e) f.front.fixed.cid) in
      let pin2 = ap (λ b. not b || holds PIN2 v x.pin2) h.asks_pin2 ∙ where_asked (r.pin2 w) (λ e. same_holds PIN2 v w (h.pin2 e) x.pin2) in
      let cvc = where_asked (asks_cvc r f)
      (λ e. same_holds CVC v w (h.cvc (both_true r.needs.cvc (eqb f.front.flags.usecvc 1) e).0) f.front.fixed.cvc) in
      λ j. later (pin1 j) (cid j) (r.needs.asleep || eqb f.front.flags.active 1) (allowed r.needs f.front.wallet.status) (pin2 j) (cvc j)
      (h.fields f j) (h.conditions x f j)

  -- what counts as a wrong code of two fields that agree, and of the verdict on both
  same_counts : (t : ℕ) (default : List ℕ) (v w : View) → SameField t v w → counts t default v ≡ counts t default w
  same_counts t default v w h = λ j. h.0 j && not (same_holds t v w h default j)

  same_wrong :
      (v w : View) → Reads r v w → (k : Command)
      → wrong_code r (matched x v) v (gate_of (later_of v) (Ok k)) ≡ wrong_code r (matched x w) w (gate_of (later_of v) (Ok k))
  same_wrong v w h k =
      let P : Verdict → Type 0 = λ z. wrong_code r (matched x v) v z ≡ wrong_code r (matched x w) w z in
      let ten = same_ten (r.pin2 v) (holds PIN2 v x.pin2) (r.pin2 w) (holds PIN2 w x.pin2) h.asks_pin2
      (λ e. (same_holds PIN2 v w (h.pin2 e) x.pin2, same_counts PIN2 default_pin2 v w (h.pin2 e))) in
      by_cases P (holds PIN1 v x.pin1)
      (λ _.
      by_cases P (not r.needs.cid || holds CID v f.front.fixed.cid)
      (λ _.
      by_cases P (r.needs.asleep || eqb f.front.flags.active 1)
      (λ _.
      by_cases P (allowed r.needs f.front.wallet.status)
      (λ _.
      by_cases P (not (r.pin2 v) || holds PIN2 v x.pin2)
      (λ two.
      by_cases P (not (asks_cvc r f) || holds CVC v f.front.fixed.cvc)
      (λ _.
      by_cases P (r.fields f v)
      (λ _. by_cases P (r.conditions (matched x v) f v) (λ _. refl) (λ _. refl))
      (λ _. refl))
      (λ n. ten (λ _. (h.cvc (both_true r.needs.cvc (eqb f.front.flags.usecvc 1) (is_asked_lem (asks_cvc r f) _ n)).0).0)))
      (λ n. ten (λ y. clash y n)))
      (λ _. refl))
      (λ _. refl))
      (λ _. refl))
      (λ _. same_counts PIN1 default_pin1 v w h.pin1)

  -- and what is then said
  same_done : (v w : View) (d a : List ℕ) → Reads r v w → answered r (matched x v) f v d a ≡ answered r (matched x w) f w d a
  unfolding answered done
  same_done v w d a h = rw (h.questions f d, h.more x, h.next f a, h.fields_out (r.next f w a) d a) refl

-- a judgement refuses, or hands on the command
refuses_or : (P : Verdict → Type 0) (g : Verdict) → ((n w : ℕ) → P (stop n w)) → P g → (rs : List Rule) → P (gate_of rs g)
refuses_or P g no_way yes_way [] = yes_way
refuses_or P g no_way yes_way (r ∷ rs) = by_cases P r.ok (λ _. refuses_or P g no_way yes_way rs) (λ _. no_way r.check r.word)

-- A COMMAND READS NO TAG OUTSIDE OF ITS ENTRY
module _ (s : State) (i : Call) (q : List ℕ) (b : Beside s i q) where
  abbrev k : Command
  k = command i.request

  abbrev c : Card
  c = decode s.image

  abbrev v : View
  v = sent_in i.request

  abbrev w : View
  w = sent_in q

  abbrev x : Matched
  x = matched (decode s.image).codes (sent_in i.request)

  abbrev y : Matched
  y = matched (decode s.image).codes (sent_in q)

  h : Reads (row k) v w
  h = reads k v w b.fields

  abbrev left : List Rule
  left = later_of (row k) c.codes c.face v

  abbrev z : Verdict
  z = gate_of left (Ok k)

  first : judged x c.face i.request ≡ z
  unfolding judged_by
  first = judged_later (row k) c.codes c.face i.request (Ok k) (opened s i b.first)

  second : judged y c.face q ≡ z
  unfolding judged_by
  second =
      judged_later (row (command q)) c.codes c.face q (Ok (command q)) (opened s (sending q i) b.second)
      ∙ ap (λ j. gate_of (later_of (row j) c.codes c.face w) (Ok j)) b.same
      ∙ ap (λ j. gate_of j (Ok k)) (sym (same_rules (row k) c.codes c.face v w h))

  says_alike : said y c.face q i.draw i.answers ≡ said x c.face i.request i.draw i.answers
  unfolding said
  says_alike =
      ap (λ j. said_by j y c.face q i.draw i.answers) second
      ∙ refuses_or (λ j. said_by j y c.face q i.draw i.answers ≡ said_by j x c.face i.request i.draw i.answers) (Ok k)
      (λ n w. refl) (sym (same_done (row k) c.codes c.face v w i.draw i.answers h)) left
      ∙ ap (λ j. said_by j x c.face i.request i.draw i.answers) (sym first)

  recodes_alike : (row (command q)).recode w c.codes ≡ (row k).recode v c.codes
  recodes_alike = ap (λ j. (row j).recode w c.codes) b.same ∙ sym (h.recode c.codes)

  -- two that are not held wait alike
  pub wait_alike : is_held c.face q ≡ is_held c.face i.request → wait_of c q ≡ wait_of c i.request
  wait_alike e =
      let n : ℕ = c.face.pending.wait.left - 1 in
      (λ j. cond (e j) n (whole_wait (row (b.same j)) c.face w))
      ∙ (λ j. cond (is_held c.face i.request) n (u8 (c.face.pending.wait.wrong + cond (sym h.asks_pin2 j) c.face.front.fixed.pause 0)))

  -- and so do their paces
  module _ (e : wait_of c q ≡ wait_of c i.request) where
    abbrev p : Pace
    p = pace_by z (row k) x c.face v i.request

    pace_first : pace_of x c.face i.request ≡ p
    unfolding pace_of
    pace_first = ap (λ g. pace_by g (row k) x c.face v i.request) first

    pace_second : pace_of y c.face q ≡ p
    unfolding pace_of pace_by
    pace_second =
        let u : wrong_code (row (command q)) y w z ≡ wrong_code (row k) x v z =
        ap (λ j. wrong_code (row j) y w z) b.same ∙ sym (same_wrong (row k) c.codes c.face v w h k) in
        ap (λ g. pace_by g (row (command q)) y c.face w q) second ∙ (λ j. cond (entered z) (pace_for (e j)) (Refused (u j)))

    asks_alike : questions_of z c.face q i.draw ≡ questions_of z c.face i.request i.draw
    asks_alike =
        refuses_or (λ y. questions_of y c.face q i.draw ≡ questions_of y c.face i.request i.draw) (Ok k) (λ n w. refl)
        (sym (h.questions c.face i.draw)) left

    asks_paced : (p : Pace) → paced_questions p z c.face q i.draw ≡ paced_questions p z c.face i.request i.draw
    asks_paced (Refused b) = asks_alike
    asks_paced (Waits t) = refl
    asks_paced Goes = asks_alike

    abbrev pose : Pace → Verdict → List Question → Posed
    pose p g xs = posed (paced_reason p g) (paced_word p g) (asked xs) i.buffers.page

    ask_alike : asked_for s (sending q i) ≡ asked_for s i
    unfolding asked_for asked_of
    ask_alike =
        stages (λ y. y) (λ y. y) (λ n. posed_by (outcome n 0 0 0) i.buffers.page) (λ n. refl)
        (is_card s.image) (leb questions_room (length i.buffers.page)) (eqb (length i.draw) draw_size)
        ((λ j. pose (pace_second j) (second j) (paced_questions (pace_second j) (second j) c.face q i.draw))
        ∙ ap (pose p z) (asks_paced p)
        ∙ sym (λ j. pose (pace_first j) (first j) (paced_questions (pace_first j) (first j) c.face i.request i.draw)))

    -- what is then said and left, where they need not wait
    module _ (o : wait_of c i.request ≡ 0) where
      goes_on : (g : Said) → says_at p c.face q g ≡ says_at p c.face i.request g
      unfolding pace_by
      goes_on g = by_cases (λ p. says_at p c.face q g ≡ says_at p c.face i.request g) (entered z) (λ _. rw o refl) (λ _. refl)

      paced_alike : paced_to c q i.draw i.answers ≡ said_at s i
      unfolding paced
      paced_alike =
          paced_as (pace_of y c.face q) y c.face q i.draw i.answers
          ∙ (λ j. says_at (pace_second j) c.face q (says_alike j))
          ∙ goes_on (said x c.face i.request i.draw i.answers)
          ∙ (λ j. says_at (sym pace_first j) c.face i.request (said x c.face i.request i.draw i.answers))
          ∙ sym (paced_as (pace_of x c.face i.request) x c.face i.request i.draw i.answers)

      settle_alike : settled s (sending q i) ≡ settled s i
      unfolding settled settled_of
      settle_alike =
          stages (λ y. y) (λ y. y) (λ n. untouched n i.buffers.out i.buffers.next) (λ n. refl)
          (is_card s.image) (roomy (length i.buffers.out) (length i.buffers.next)) (eqb (length i.draw) draw_size)
          (λ j. lent (paced_alike j)
          (record { face = (paced_alike j).face; codes = cond (paced_alike j).executed (recodes_alike j) c.codes })
          i.buffers.out i.buffers.next)

-- where they wait alike, ask says the same; and so does settle, where they need not wait: what is held is the request itself
pub own_tags :
    (f : AnyCard) → Demand2 f → (s : State) (i : Call) (q : List ℕ) → Beside s i q → wait_of (decode s.image) q ≡ wait_of (decode s.image) i.request
    → (f.taps.ask s (sending q i) ≡ f.taps.ask s i)
    × (wait_of (decode s.image) i.request ≡ 0 → f.taps.settle s (sending q i) ≡ f.taps.settle s i)
own_tags =
    every
    (λ f. (s : State) (i : Call) (q : List ℕ) → Beside s i q → wait_of (decode s.image) q ≡ wait_of (decode s.image) i.request
    → (f.taps.ask s (sending q i) ≡ f.taps.ask s i)
    × (wait_of (decode s.image) i.request ≡ 0 → f.taps.settle s (sending q i) ≡ f.taps.settle s i))
    (λ s i q b e. (ask_alike s i q b e, settle_alike s i q b e))
