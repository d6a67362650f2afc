-- What a tap is: a response read back; and the cases of a tap: refused, stuck, or carried out. Assumes nothing.
use Prim.Native.Nat.{ℕ, zero, suc, ◌+◌, ◌-◌, ◌/◌, ◌%◌, ◌≤◌, ◌<◌}
use native.Mathlib.Omega.{arith}
use mathlib.Core.Path.{◌≡◌, refl, sym, ap, ◌∙◌, subst}
use mathlib.Core.List.{List, [], ◌∷◌, ◌++◌}
use mathlib.Core.Bool.{Bool, true, false, not, ◌&&◌, ◌||◌}
use lib.ListN.{length, get_or, length-append}
use lib.Seq.{take_at, get_or-append-add, get_or-append_seam}
use lib.Dec.{leb, eqb}
use borrow.Author.Tests.{le-leb, leb-true, eq-eqb, ne_eqb, eqb-true}
use Rattle.wire.specs.Wire.{be2}
use Rattle.fields.specs.Fields.{View, has, holds, val, written, Tagged, Writable, among, first_of}
use Rattle.fields.proofs.Trip.{has_written, val_written}
use Rattle.card.specs.declared.Pending.{Pending}
use Rattle.card.specs.declared.Face.{Face}
use Rattle.card.specs.Layout.{held_room}
use Rattle.card.specs.Valid.{ok_pending, ok_face}
use Rattle.card.specs.Values.{u16, held_for, no_pending, with_pending}
use Rattle.cards.proofs.Shape.{held_request_long}
use Rattle.kept.proofs.Tests.{valid}
use Rattle.kept.proofs.Waits.{no_pending_ok}
use Rattle.manual.specs.Words.{sw_process_completed, sw_error_processing_command, sw_need_pause, sw_wrong_length, sw_need_encryption, sw_invalid_status}
use Rattle.manual.specs.Words.{sw_invalid_params, sw_ins_not_supported, sw_cla_not_supported}
use Rattle.manual.specs.Tags.{CVC}
use Rattle.manual.specs.declared.Pace.{Pace}
use Rattle.manual.specs.declared.Pace.TheVariants.{Refused, Waits, Goes}
use Rattle.manual.specs.Request.{command, listed, ins_of}
use Rattle.manual.specs.Row.{Matched, Question, shaped, Row, Rule, gate_of, single, allowed, asks_cvc, passed, Verdict, stop}
use Rattle.manual.specs.Commands.{row}
use Rattle.manual.specs.Delay.{seconds, pace_for, pace_by, pending_after, pause_fields}
use Rattle.manual.specs.Settle.{sent_in, judged_by, judged, Said, silent, refused, done, answered, said_by, said}
use Rattle.manual.specs.Settle.{pace_of, pausing, leaving, paced_by, paced, paced_reason, paced_word, paced_questions}
use Rattle.story.specs.Sums.{body_of, last_word, told_in, is_done, accepted}
use Rattle.history.specs.Demands.{check_word, is_refusal}
use Rattle.history.specs.Facts.{checks_of, check_holds, FirstFails, AllHold}
use Rattle.history.specs.Wrong.{says_at}
use Rattle.history.proofs.Choice.{by_cases, both_true, clash}
use Rattle.history.proofs.Delay.{resting, resting_long, resting_ok, Delayed, delayed_ok}

-- RESPONSES
seam : (b : List ℕ) (w : ℕ) → length (b ++ be2 w) - 2 ≡ length b
seam b w = simp length-append (omega arith)

word_of : (b : List ℕ) (w : ℕ) → last_word (b ++ be2 w) ≡ w
word_of b w =
    let x : get_or (b ++ be2 w) (length b) 0 ≡ w / 256 = get_or-append_seam b (w / 256) (w % 256 ∷ []) 0 in
    let y : get_or (b ++ be2 w) (length b + 1) 0 ≡ w % 256 = get_or-append-add b (be2 w) 1 0 in
    rw (seam b w, x, y) (omega arith)

body_of_lem : (b : List ℕ) (w : ℕ) → body_of (b ++ be2 w) ≡ b
body_of_lem b w = take_at b (be2 w) (length (b ++ be2 w) - 2) (sym (seam b w))

pub accepts : (b : List ℕ) (w : ℕ) → accepted (b ++ be2 w) ≡ is_done w
unfolding accepted
accepts b w =
    let l : 2 ≤ length (b ++ be2 w) = simp length-append (omega arith) in
    rw (le-leb 2 (length (b ++ be2 w)) l, word_of b w)

-- what is told is what was written
module _ (t w : ℕ) (fs : List Tagged) (h : Writable fs) where
  pub has_told : has t (told_in (written fs ++ be2 w)) ≡ among t fs
  has_told = rw (body_of_lem (written fs) w) (has_written t fs h)

  pub val_told : val t (told_in (written fs ++ be2 w)) ≡ first_of t fs
  val_told = rw (body_of_lem (written fs) w) (val_written t fs h)

-- CHECKS
abbrev pub Every : List Rule → Type 0
Every [] = Unit {0}
Every (r ∷ rs) = (r.ok ≡ true) × Every rs

-- rules of checks from b on, in their order, each with a word of its check
abbrev pub refusals : ℕ → List Rule → Bool
refusals b [] = true
refusals b (r ∷ rs) = leb b r.check && (is_refusal r.check r.word && refusals r.check rs)

-- they leave every earlier check alone
earlier : (b : ℕ) (rs : List Rule) → refusals b rs ≡ true → (j : ℕ) → j < b → check_holds j rs ≡ true
earlier b [] x j l = refl
earlier b (r ∷ rs) x j l =
    let y = both_true (leb b r.check) (is_refusal r.check r.word && refusals r.check rs) x in
    let z = both_true (is_refusal r.check r.word) (refusals r.check rs) y.1 in
    let u : b ≤ r.check = leb-true b r.check y.0 in
    rw (ne_eqb r.check j (λ e. omega arith), earlier r.check rs z.1 j (omega arith)) refl

-- a rule that holds changes nothing
past : (r : Rule) (rs : List Rule) (j : ℕ) → r.ok ≡ true → check_holds j (r ∷ rs) ≡ check_holds j rs
past r rs j e = go (not (eqb r.check j))
  where
    go : (b : Bool) → ((b || r.ok) && check_holds j rs) ≡ check_holds j rs
    go true = refl
    go false = ap (λ a. a && check_holds j rs) e

pub all_hold : (rs : List Rule) → Every rs → AllHold rs
all_hold [] h j = refl
all_hold (r ∷ rs) h j = past r rs j h.0 ∙ all_hold rs h.1 j

-- the status word of a check is one of six
by_check :
    (P : ℕ → Type 0) (n : ℕ) → P sw_wrong_length → P sw_cla_not_supported → P sw_ins_not_supported → P sw_invalid_status → P sw_error_processing_command
    → P sw_invalid_params → P (check_word n)
by_check P n one two three status thirteen other =
    by_cases P (eqb n 1) (λ _. one)
    (λ _.
    by_cases P (eqb n 2) (λ _. two)
    (λ _.
    by_cases P (eqb n 3) (λ _. three)
    (λ _.
    by_cases P (eqb n 8 || (eqb n 9 || eqb n 12)) (λ _. status)
    (λ _. by_cases P (eqb n 13) (λ _. thirteen) (λ _. other)))))

-- a refusal is of a check of 1 to 12, with its word, or in check 4 with another
pub in_range : (n w : ℕ) → is_refusal n w ≡ true → (1 ≤ n) × (n ≤ 12) × ((eqb w (check_word n) || (eqb n 4 && eqb w sw_need_encryption)) ≡ true)
in_range n w e =
    let y = both_true (leb 1 n) (leb n 12 && (eqb w (check_word n) || (eqb n 4 && eqb w sw_need_encryption))) e in
    let z = both_true (leb n 12) (eqb w (check_word n) || (eqb n 4 && eqb w sw_need_encryption)) y.1 in
    (leb-true 1 n y.0, leb-true n 12 z.0, z.1)

pub by_word : (P : ℕ → Type 0) (n w : ℕ) → is_refusal n w ≡ true → P (check_word n) → (n ≡ 4 → P sw_need_encryption) → P w
by_word P n w e own other = go (eqb w (check_word n)) refl (in_range n w e).2
  where
    go : (b : Bool) → eqb w (check_word n) ≡ b → (b || (eqb n 4 && eqb w sw_need_encryption)) ≡ true → P w
    go true h _ = subst P (sym (eqb-true w (check_word n) h)) own
    go false h e =
        let y = both_true (eqb n 4) (eqb w sw_need_encryption) e in
        subst P (sym (eqb-true w sw_need_encryption y.1)) (other (eqb-true n 4 y.0))

-- it is none of 9000 to 9003, and not 9789
pub not_done_lem : (n w : ℕ) → is_refusal n w ≡ true → is_done w ≡ false
not_done_lem n w e = by_word (λ x. is_done x ≡ false) n w e (by_check (λ x. is_done x ≡ false) n refl refl refl refl refl refl) (λ _. refl)

pub not_pause : (n w : ℕ) → is_refusal n w ≡ true → eqb w sw_need_pause ≡ false
not_pause n w e =
    by_word (λ x. eqb x sw_need_pause ≡ false) n w e (by_check (λ x. eqb x sw_need_pause ≡ false) n refl refl refl refl refl refl) (λ _. refl)

-- the first check to fail refuses, or every rule holds
by_rules :
    (P : Verdict → Type 0) (b : ℕ) (rs : List Rule) (g : Verdict) → refusals b rs ≡ true
    → ((n w : ℕ) → is_refusal n w ≡ true → is_done w ≡ false → FirstFails n rs → P (stop n w)) → (Every rs → P g) → P (gate_of rs g)
by_rules P b [] g x no_way yes_way = yes_way tt
by_rules P b (r ∷ rs) g x no_way yes_way =
    let y = (both_true (leb b r.check) (is_refusal r.check r.word && refusals r.check rs) x).1 in
    let z = both_true (is_refusal r.check r.word) (refusals r.check rs) y in
    by_cases P r.ok
    (λ e.
    by_rules P r.check rs g z.1
    (λ n w x d f. no_way n w x d (record { before = λ j l. past r rs j e ∙ f.before j l; fails = past r rs n e ∙ f.fails }))
    (λ h. yes_way (e, h)))
    (λ e.
    no_way r.check r.word z.0 (not_done_lem r.check r.word z.0)
    (record {
      before = λ j l. rw (ne_eqb r.check j (λ e. omega arith), earlier r.check rs z.1 j l) refl;
      fails = rw (eq-eqb r.check r.check refl, e) refl;
    }))

-- the checks that a proof speaks of, by name: a new check moves only the places here
pub record Passed (r : Row) (m : Matched) (f : Face) (v : View) : Type 0 where
  pub once : single r.reads v ≡ true
  pub pin1 : m.pin1 ≡ true
  pub awake : (r.needs.asleep || eqb f.front.flags.active 1) ≡ true
  pub allows : allowed r.needs f.front.wallet.status ≡ true
  pub pin2 : (not (r.pin2 v) || m.pin2) ≡ true
  pub cvc : (not (asks_cvc r f) || holds CVC v f.front.fixed.cvc) ≡ true
  pub fields : r.fields f v ≡ true
  pub conditions : r.conditions m f v ≡ true

module _ (r : Row) (m : Matched) (f : Face) (q : List ℕ) where
  pub by_checks :
      (P : Verdict → Type 0) → ((n w : ℕ) → is_refusal n w ≡ true → is_done w ≡ false → FirstFails n (checks_of r m f q) → P (stop n w))
      → (Every (checks_of r m f q) → P (passed q)) → P (gate_of (checks_of r m f q) (passed q))
  by_checks P = by_rules P 0 (checks_of r m f q) (passed q) refl

  pub named : Every (checks_of r m f q) → Passed r m f (sent_in q)
  named h =
      let s = h.1.1.1.1.1.1 in
      let g = s.1 in
      let o = g.1.1.1.1 in
      record {
        once = s.0;
        pin1 = g.0;
        awake = g.1.1.0;
        allows = g.1.1.1.0;
        pin2 = o.0;
        cvc = o.1.0;
        fields = o.1.1.0;
        conditions = o.1.1.1.0;
      }

-- REFUSED, or to wait: the face stays but for the wait, and so do the codes; numbers other than 0 have no response, and leave all of it
pub record Same (f : Face) (s : Said) : Type 0 where
  pub wait : Pending
  pub face : s.face ≡ with_pending wait f
  pub long : length f.pending.request ≡ held_room → length wait.request ≡ held_room
  pub ok : ok_face f ≡ true → ok_pending wait ≡ true
  pub codes : s.executed ≡ false
  pub answer : accepted s.response ≡ false
  pub silence : eqb s.number 0 ≡ false → (s.response ≡ []) × (s.face ≡ f)

positive : (t : ℕ) → eqb t 0 ≡ false → 1 ≤ t
positive zero e = clash refl e
positive (suc t) e = omega arith

-- THE CASES OF A TAP. Check n of 1 to 12 refuses it; after check 10 it need not wait
pub record Stopped (m : Matched) (f : Face) (q : List ℕ) (n w : ℕ) : Type 0 where
  pub word : is_refusal n w ≡ true
  pub not_done : is_done w ≡ false
  pub first : FirstFails n (checks_of (row (command q)) m f q)
  pub verdict : judged m f q ≡ stop n w
  pub goes : leb 11 n ≡ true → seconds (row (command q)) f (sent_in q) q ≡ 0

-- all of them hold, and it need not wait
pub record Through (m : Matched) (f : Face) (q : List ℕ) : Type 0 where
  pub verdict : judged m f q ≡ passed q
  pub passed : Passed (row (command q)) m f (sent_in q)
  pub all : AllHold (checks_of (row (command q)) m f q)
  pub goes : seconds (row (command q)) f (sent_in q) q ≡ 0

-- what is said by the pace
pub paced_as : (p : Pace) (m : Matched) (f : Face) (q d a : List ℕ) → paced_by p m f q d a ≡ says_at p f q (said m f q d a)
paced_as (Refused b) m f q d a = refl
paced_as (Waits t) m f q d a = refl
paced_as Goes m f q d a = refl

-- of what is said, and of the reason, the word and the questions of ask
module _ (P : Said → ℕ → ℕ → List Question → Type 0) (m : Matched) (f : Face) (q d a : List ℕ) where
  abbrev r : Row
  r = row (command q)

  abbrev v : View
  v = sent_in q

  -- by a pace and a verdict
  abbrev By : Pace → Verdict → Type 0
  By p z = P (says_at p f q (said_by z m f q d a)) (paced_reason p z) (paced_word p z) (paced_questions p z f q d)

  -- after check 10 it waits or goes on
  by_wait :
      (z : Verdict) → ((j : ℕ) → j ≤ 10 → check_holds j (checks_of r m f q) ≡ true)
      → ((t : ℕ) → Delayed r m f q t → P (pausing t f q) 0 sw_need_pause [])
      → (seconds r f v q ≡ 0 → By Goes z) → By (pace_for (seconds r f v q)) z
  by_wait z h waits goes =
      let t = seconds r f v q in
      by_cases (λ p. By p z) (eqb t 0)
      (λ e. goes (eqb-true t 0 e))
      (λ e. waits t (record { some = positive t e; is_left = refl; holds = h }))

  pub by_outcome :
      ((n w : ℕ) → Stopped m f q n w → P (refused n w (with_pending (resting r m f v n) f)) n w [])
      → ((t : ℕ) → Delayed r m f q t → P (pausing t f q) 0 sw_need_pause [])
      → (Through m f q → shaped (r.questions f v d) a ≡ false → P (silent 4 f) 0 sw_process_completed (r.questions f v d))
      → (Through m f q → shaped (r.questions f v d) a ≡ true → r.confirmed a ≡ false
      → P (refused 13 sw_error_processing_command (with_pending no_pending f)) 0 sw_process_completed (r.questions f v d))
      → (Through m f q → shaped (r.questions f v d) a ≡ true → r.confirmed a ≡ true
      → P (leaving no_pending (done r m f v d a)) 0 sw_process_completed (r.questions f v d))
      → P (paced m f q d a) (paced_reason (pace_of m f q) (judged m f q)) (paced_word (pace_of m f q) (judged m f q))
      (paced_questions (pace_of m f q) (judged m f q) f q d)
  unfolding paced pace_of pace_by said judged_by answered done
  by_outcome no_way waits four thirteen yes_way =
      let g : Verdict = judged m f q in
      let p : Pace = pace_of m f q in
      subst (λ s. P s (paced_reason p g) (paced_word p g) (paced_questions p g f q d)) (sym (paced_as p m f q d a))
      (by_checks r m f q (λ z. g ≡ z → By (pace_by z r m f v q) z)
      (λ n w x e h u.
      let stopped : (leb 11 n ≡ true → seconds r f v q ≡ 0) → P (refused n w (with_pending (resting r m f v n) f)) n w [] =
      λ y. no_way n w (record { word = x; not_done = e; first = h; verdict = u; goes = y }) in
      by_cases (λ p. By p (stop n w)) (leb 11 n)
      (λ l.
      by_wait (stop n w) (λ j k. h.before j (omega (arith, k, leb-true 11 n l))) waits
      (λ y. subst (λ z. P (refused n w (with_pending z f)) n w []) (rw l refl) (stopped (λ _. y))))
      (λ l. subst (λ z. P (refused n w (with_pending z f)) n w []) (rw l refl) (stopped (λ y. clash y l))))
      (λ h k.
      let b = all_hold (checks_of r m f q) h in
      by_wait (passed q) (λ j _. b j) waits
      (λ y.
      let u : Through m f q = record { verdict = k; passed = named r m f q h; all = b; goes = y } in
      by_cases (λ z. P (leaving no_pending z) 0 sw_process_completed (r.questions f v d)) (shaped (r.questions f v d) a)
      (λ e.
      by_cases (λ z. P (leaving no_pending z) 0 sw_process_completed (r.questions f v d)) (r.confirmed a)
      (λ c. yes_way u e c)
      (λ c. thirteen u e c))
      (λ e. four u e)))
      refl)

-- a refusal is the same, a pause too, and so is number 4
module _ (f : Face) where
  refused_same :
      (n w : ℕ) (p : Pending) → length p.request ≡ held_room → (ok_face f ≡ true → ok_pending p ≡ true) → is_done w ≡ false
      → Same f (refused n w (with_pending p f))
  refused_same n w p l o e =
      record {
        wait = p;
        face = refl;
        long = λ _. l;
        ok = o;
        codes = refl;
        answer = accepts [] w ∙ e;
        silence = λ n. clash refl n;
      }

  pausing_same : (r : Row) (m : Matched) (q : List ℕ) (t : ℕ) → Delayed r m f q t → Same f (pausing t f q)
  pausing_same r m q t h =
      record {
        wait = pending_after (Waits t) f.pending q;
        face = refl;
        long = λ _. held_request_long (held_for t (u16 (length q)) f.pending.wait) q;
        ok = delayed_ok r m f q t h;
        codes = refl;
        answer = accepts (written (pause_fields t)) sw_need_pause;
        silence = λ n. clash refl n;
      }

  silent_same : Same f (silent 4 f)
  unfolding accepted
  silent_same =
      record {
        wait = f.pending;
        face = refl;
        long = λ l. l;
        ok = λ o. (valid f o).pending;
        codes = refl;
        answer = refl;
        silence = λ n. (refl, refl);
      }

-- the cases, where those that leave the card but for the wait need not be told apart
module _ (P : Said → List Question → Type 0) (m : Matched) (f : Face) (q d a : List ℕ) where
  pub by_tap :
      ((s : Said) → Same f s → P s [])
      → (Passed (row (command q)) m f (sent_in q) → (s : Said) → Same f s → P s ((row (command q)).questions f (sent_in q) d))
      → (Passed (row (command q)) m f (sent_in q) → shaped ((row (command q)).questions f (sent_in q) d) a ≡ true
      → P (leaving no_pending (done (row (command q)) m f (sent_in q) d a)) ((row (command q)).questions f (sent_in q) d))
      → P (paced m f q d a) (paced_questions (pace_of m f q) (judged m f q) f q d)
  by_tap no_way stuck yes_way =
      let r = row (command q) in
      by_outcome (λ s _ _ x. P s x) m f q d a
      (λ n w h.
      no_way _ (refused_same f n w (resting r m f (sent_in q) n) (resting_long r m f (sent_in q) n) (resting_ok r m f (sent_in q) n) h.not_done))
      (λ t h. no_way _ (pausing_same f r m q t h))
      (λ h _. stuck h.passed _ (silent_same f))
      (λ h _ _. stuck h.passed _ (refused_same f 13 sw_error_processing_command no_pending refl (λ _. no_pending_ok) refl))
      (λ h e _. yes_way h.passed e)

-- what is accepted was carried out, and nothing is held or counted then
pub record Carried (r : Row) (m : Matched) (f : Face) (v : View) (d a : List ℕ) (s : Said) (x : List Question) : Type 0 where
  pub passed : Passed r m f v
  pub shape : shaped (r.questions f v d) a ≡ true
  pub yes : r.confirmed a ≡ true
  pub is_done : s ≡ leaving no_pending (done r m f v d a)
  pub is_asked : x ≡ r.questions f v d

module _ (m : Matched) (f : Face) (q d a : List ℕ) where
  -- and its INS is listed
  accepted_by :
      accepted (paced m f q d a).response ≡ true
      → Carried (row (command q)) m f (sent_in q) d a (paced m f q d a) (paced_questions (pace_of m f q) (judged m f q) f q d)
      × (listed (ins_of (get_or q 1 0)) ≡ true)
  accepted_by =
      let r = row (command q) in
      by_outcome
      (λ s _ _ x. accepted s.response ≡ true → Carried r m f (sent_in q) d a s x × (listed (ins_of (get_or q 1 0)) ≡ true)) m f q d a
      (λ n w h e. clash e (accepts [] w ∙ h.not_done))
      (λ t h e. clash e (accepts (written (pause_fields t)) sw_need_pause))
      (λ h _ e. clash e (silent_same f).answer)
      (λ h _ _ e. clash e (accepts [] sw_error_processing_command))
      (λ h g y e. (
        record { passed = h.passed; shape = g; yes = y; is_done = refl; is_asked = refl },
        (both_true (listed (ins_of (get_or q 1 0))) true (h.all 3)).0,
      ))

  pub carried :
      accepted (paced m f q d a).response ≡ true
      → Carried (row (command q)) m f (sent_in q) d a (paced m f q d a) (paced_questions (pace_of m f q) (judged m f q) f q d)
  carried e = (accepted_by e).0

  pub lists : accepted (paced m f q d a).response ≡ true → listed (ins_of (get_or q 1 0)) ≡ true
  lists e = (accepted_by e).1
