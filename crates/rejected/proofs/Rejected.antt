-- THE WRONG CARDS of specs/Wrong.antt, each shown to be rejected by the demand named: one call, or a few, on which it differs. Assumes nothing.
use Prim.Native.Nat.{ℕ, suc, ◌≤◌}
use native.Mathlib.Omega.{arith}
use mathlib.Core.Path.{◌≡◌, refl, ap, ◌∙◌}
use mathlib.Core.List.{List, [], ◌∷◌}
use mathlib.Core.Bool.{Bool, true}
use lib.ListN.{length, get_or, replicate}
use lib.Dec.{lit≤}
use Rattle.std.specs.Prelude.{Ok, Err}
use Rattle.wire.specs.Wire.{joined}
use Rattle.fields.specs.Fields.{fld}
use Rattle.card.specs.declared.Face.{Face}
use Rattle.card.specs.declared.Card.{Card}
use Rattle.card.specs.Layout.{pin_size, signature_size, wallet_at, key_at, last_at}
use Rattle.card.specs.Image.{decode}
use Rattle.manual.specs.Words.{sw_process_completed, sw_need_pause, questions_room}
use Rattle.manual.specs.Tags.{NewPIN1, NewPIN2, Challenge}
use Rattle.manual.specs.declared.Command.TheVariants.{ReadCard, SetPin, Sign, VerifyCard}
use Rattle.manual.specs.declared.Pace.{Pace}
use Rattle.manual.specs.declared.Pace.TheVariants.{Refused, Waits, Goes}
use Rattle.manual.specs.Row.{Question, asked, each_asked, shaped, Verdict}
use Rattle.manual.specs.Checking.{salt_size}
use Rattle.manual.specs.Commands.{row}
use Rattle.manual.specs.Settle.{State, holding, Call, Posed, sent_in, matched, said, said_by, questions_of, pace_of, paced, paced_questions}
use Rattle.manual.specs.Settle.{settled, settled_of, asked_for, asked_of}
use Rattle.manual.specs.Settle.{judged_by as judgement}
use Rattle.history.specs.Demands.{AnyCard, is_refusal, Asked, none_asked, all_asked, must_wait, Demand1, Demand2}
use Rattle.history.specs.Demands.{taps_of, left, Asks, nothing, due, all_kinds, Poses, Demand3}
use Rattle.history.specs.Wrong.{asks_at, outside, judged_by, paced_by, asks_by, says_by, honest}
use Rattle.history.specs.Wrong.{refuser, yes_sayer, forgetter, repeater, proud, old_card, greedy, hasty, hoarder}
use Rattle.history.specs.Wrong.{eager, riser, teller, forger, notary, babbler, stubborn, inventor, mute, first_taker, heir, credulous, resetter}
use Rattle.history.proofs.Choice.{both_true, clash}
use Rattle.history.proofs.Taps.{paced_as}
use Rattle.history.proofs.Images.{model}
use Rattle.rejected.proofs.Story.{run, sheet0, image0, fresh0, sheet1, image1, fresh1, sheet2, image2, fresh2, codes1, request, call}
use Rattle.rejected.proofs.Story.{ask0, reads, creates, hashes, signs, repeats, purges, verifies, notes, wakes}

-- THE FRAME of the wrong cards is right: with the manual's rows it meets demand 2
same_asks : (z : Verdict) (c : Card) (q d : List ℕ) → asks_by row z c q d ≡ questions_of z c.face q d
same_asks (Ok k) c q d = refl
same_asks (Err e) c q d = refl

same_says : (z : Verdict) (c : Card) (q d a : List ℕ) → says_by row z c q d a ≡ said_by z (matched c.codes (sent_in q)) c.face q d a
same_says (Ok k) c q d a = refl
same_says (Err e) c q d a = refl

asks_paced : (p : Pace) (z : Verdict) (f : Face) (q d : List ℕ) → asks_at p (questions_of z f q d) ≡ paced_questions p z f q d
asks_paced (Refused b) z f q d = refl
asks_paced (Waits t) z f q d = refl
asks_paced Goes z f q d = refl

pub honest_accepted : Demand2 (outside honest)
unfolding asked_for asked_of settled settled_of paced pace_of said judgement
honest_accepted =
    record {
      asks = λ m i.
          let c = decode m.image in
          let z = judged_by row c i.request in
          rw (same_asks z c i.request i.draw, asks_paced (paced_by row c i.request) z c.face i.request i.draw) refl;
      settles = λ m i.
          let c = decode m.image in
          let x = matched c.codes (sent_in i.request) in
          rw (
            same_says (judged_by row c i.request) c i.request i.draw i.answers,
            paced_as (paced_by row c i.request) x c.face i.request i.draw i.answers,
          )
          refl;
      turns_off = λ m nxt. refl;
    }

-- demand 2, at a call on the state that calls of the manual's own left
abbrev after0 : List Call → State
after0 is = left model (holding image0) (taps_of is)

by_manual : {f : AnyCard} → Demand2 f → (is : List Call) (i : Call) → f.taps.settle (after0 is) i ≡ settled (after0 is) i
by_manual h is i = h.settles (after0 is) i

-- 1. answers 6985 to everything: READ_CARD's response begins with CID
pub refuser_rejected : Demand2 refuser → ⊥
unfolding run
refuser_rejected h = let e : ◌≡◌ {A = ℕ} 0x69 0x01 = ap (λ z. get_or z.response 0 0) (by_manual h [] reads) in absurd (omega arith)

-- 2. gives 9000 to everything: a wrong PIN1 is 6A86
pub yes_sayer_rejected : Demand2 yes_sayer → ⊥
unfolding run
yes_sayer_rejected h =
    let e : ◌≡◌ {A = ℕ} 0x90 0x6A = ap (λ z. get_or z.response 0 0) (by_manual h [] (call (request codes1 ReadCard []) [])) in
    absurd (omega arith)

-- 3. never changes the image: CREATE_WALLET makes the status 2
pub forgetter_rejected : Demand2 forgetter → ⊥
unfolding run
forgetter_rejected h = let e : ◌≡◌ {A = ℕ} 1 2 = ap (λ z. get_or z.next wallet_at 0) (by_manual h [] creates) in absurd (omega arith)

-- 4. honours the first SIGN and afterwards repeats its signatures: byte 12 of the second response is the first of its signature
pub repeater_rejected_2 : Demand2 repeater → ⊥
unfolding run
repeater_rejected_2 h =
    let e : ◌≡◌ {A = ℕ} 5 6 = ap (λ z. get_or z.response 12 0) (by_manual h (creates ∷ signs 1 5 ∷ []) (signs 1 6)) in
    absurd (omega arith)

pub repeater_rejected_3 : Demand3 repeater → ⊥
unfolding run
repeater_rejected_3 h =
    let k = h.next sheet0 image0 fresh0 (taps_of (creates ∷ signs 1 5 ∷ [])) (signs 1 6) in
    let e : ◌≡◌ {A = ℕ} 5 6 = ap (λ v. get_or v 0 0) (k.signs refl).answers in
    absurd (omega arith)

-- 5. reports a Signed_Hashes of its own making: 7, where no hash was signed
pub proud_rejected : Demand3 proud → ⊥
unfolding run
proud_rejected h =
    let e : ◌≡◌ {A = ℕ} 7 0 = ap (λ v. get_or v 3 0) ((h.next sheet0 image0 fresh0 [] reads).signed_hashes refl refl) in
    absurd (omega arith)

-- 6. takes any note: 9 again is 6985, and so is 8
pub old_card_rejected : Demand2 old_card → ⊥
unfolding run
old_card_rejected h =
    let e : ◌≡◌ {A = ℕ} 0x01 0x69 = ap (λ z. get_or z.response 0 0) (by_manual h (notes 9 ∷ []) (notes 9)) in
    absurd (omega arith)

pub old_card_rejected_below : Demand2 old_card → ⊥
unfolding run
old_card_rejected_below h =
    let e : ◌≡◌ {A = ℕ} 0x01 0x69 = ap (λ z. get_or z.response 0 0) (by_manual h (notes 9 ∷ []) (notes 8)) in
    absurd (omega arith)

-- 7. takes a signature off Remaining per hash: two hashes, 3 of 5 left
pub greedy_rejected : Demand3 greedy → ⊥
unfolding run
greedy_rejected h =
    let e : ◌≡◌ {A = ℕ} 4 5 = (h.kept sheet0 image0 fresh0 (taps_of (creates ∷ signs 2 5 ∷ []))).balance refl in
    absurd (omega arith)

-- 8. stores the new codes before it looks whether they may change: a SIGN on them, after a refused SET_PIN
pub hasty_rejected : Demand3 hasty → ⊥
unfolding run
hasty_rejected h =
    let setting : Call = ask0 SetPin (fld NewPIN1 codes1.pin1 ∷ fld NewPIN2 codes1.pin2 ∷ []) [] in
    let signing : Call = call (request codes1 Sign (hashes 1 5)) (replicate signature_size 5) in
    clash ((h.next sheet0 image0 fresh0 (taps_of (creates ∷ setting ∷ [])) signing).signs refl).is_due.entitled.pin1 refl

-- 9. keeps the purged key: its size is 0 after PURGE_WALLET
pub hoarder_rejected : Demand2 hoarder → ⊥
unfolding run
hoarder_rejected h = let e : ◌≡◌ {A = ℕ} 65 0 = ap (λ z. get_or z.next key_at 0) (by_manual h (creates ∷ []) purges) in absurd (omega arith)

-- 10. asks for the signatures of any new SIGN: on other codes than those in force, a question of 38 bytes
by_asks : {A Due : Type 0} {these : List Question} {x : List ℕ} → Asks Due these x → (x ≡ [] → A) → (Due → A) → A
by_asks (nothing e) f g = f e
by_asks (due z e) f g = g z

pub eager_rejected : Demand3 eager → ⊥
unfolding run
eager_rejected h =
    by_asks ((h.next sheet0 image0 fresh0 (taps_of (creates ∷ [])) (call (request codes1 Sign (hashes 1 5)) [])).sign_asks refl)
    (λ e. let z : ◌≡◌ {A = ℕ} 38 0 = ap length e in absurd (omega arith))
    (λ z. clash z.entitled.pin1 refl)

-- 11. rises from a purge: Loaded, where the history shows Purged
pub riser_rejected : Demand3 riser → ⊥
unfolding run
riser_rejected h =
    let e : ◌≡◌ {A = ℕ} 2 3 = (h.kept sheet1 image1 fresh1 (taps_of (creates ∷ purges ∷ verifies ∷ []))).state in
    absurd (omega arith)

-- 12. tells a purged card to be Loaded
pub teller_rejected : Demand3 teller → ⊥
unfolding run
teller_rejected h =
    let e : ◌≡◌ {A = ℕ} 2 3 = ap (λ v. get_or v 0 0) ((h.next sheet1 image1 fresh1 (taps_of (creates ∷ purges ∷ [])) reads).state refl refl) in
    absurd (omega arith)

-- 13. has the purged wallet sign: a question of kind 3
first_kind : {p : ℕ → Bool} {k : ℕ} {x : List ℕ} → Poses p (k ∷ x) → p k ≡ true
unfolding asked each_asked joined
first_kind {p} {k} {x} z = go z.these z.bytes z.kinds
  where
    go : (xs : List Question) → k ∷ x ≡ asked xs → all_kinds p xs ≡ true → p k ≡ true
    go [] e u = let y : ◌≡◌ {A = ℕ} (suc (length x)) 0 = ap length e in absurd (omega arith)
    go (y ∷ ys) e u =
        let w = (both_true (p y.kind) (all_kinds p ys) u).0 in
        let l : k ≡ y.kind = ap (λ m. get_or m 0 0) e in
        ap p l ∙ w

pub forger_rejected : Demand3 forger → ⊥
unfolding run
forger_rejected h = clash (first_kind ((h.next sheet1 image1 fresh1 (taps_of (creates ∷ purges ∷ [])) verifies).spared refl refl)) refl

-- 14. signs by another command: a question of kind 2 that no SIGN asked
pub notary_rejected : Demand3 notary → ⊥
unfolding run
notary_rejected h =
    clash
    (first_kind
    (h.next sheet0 image0 fresh0 (taps_of (creates ∷ []))
    (ask0 VerifyCard (fld Challenge (replicate salt_size 4) ∷ hashes 1 5) (replicate signature_size 5))).poses)
    refl

-- 15. ask says 1234: no word of the table, nor 9000, nor 9789
asked_word :
    (i : Call) (x : Posed) → Asked i x → (x.result.word ≡ sw_process_completed → ⊥) → (x.result.word ≡ sw_need_pause → ⊥)
    → is_refusal x.result.reason x.result.word ≡ true
asked_word i x (none_asked n w e z) f g = rw z e
asked_word i x (all_asked v l z) f g = absurd (f (ap (λ y. y.result.word) z))
asked_word i x (must_wait z) f g = absurd (g (ap (λ y. y.result.word) z))

pub babbler_rejected : Demand1 babbler → ⊥
unfolding run
babbler_rejected h =
    clash
    (asked_word reads _ (h.asks (holding image0) reads refl) (λ e. let z : ◌≡◌ {A = ℕ} 0x1234 0x9000 = e in omega arith)
    (λ e. let z : ◌≡◌ {A = ℕ} 0x1234 0x9789 = e in omega arith))
    refl

-- 16. settle says number 4: READ_CARD asks nothing, and no answer answers that
none_asked_lem : (xs : List Question) → [] ≡ asked xs → shaped xs [] ≡ true
unfolding asked each_asked joined shaped
none_asked_lem [] e = refl
none_asked_lem (x ∷ xs) e = absurd (let z = ap length e in omega arith)

pub stubborn_rejected : Demand1 stubborn → ⊥
unfolding run
stubborn_rejected h =
    let z = h.agrees (holding image0) reads (replicate questions_room 0) (lit≤ tt) refl in
    clash (none_asked_lem z.these z.bytes) (z.four refl).1

-- 17. refuses with a word of its own making: ask says 6A86 to a wrong PIN1, and settle 6F00
pub inventor_rejected : Demand1 inventor → ⊥
unfolding run
inventor_rejected h =
    let e : ◌≡◌ {A = ℕ} 0x6F00 0x6A86 = ((h.agrees (holding image0) (call (request codes1 ReadCard []) []) (replicate questions_room 0)
    (lit≤ tt) refl).refuses refl).1 in
    absurd (omega arith)

-- 18. keeps the reason to itself: a wrong PIN1 is refused by check 6
pub mute_rejected : Demand2 mute → ⊥
unfolding run
mute_rejected h =
    let e : ◌≡◌ {A = ℕ} 0 6 = ap (λ z. z.result.reason) (by_manual h [] (call (request codes1 ReadCard []) [])) in
    absurd (omega arith)

pub mute_rejected_1 : Demand1 mute → ⊥
unfolding run
mute_rejected_1 h =
    let i : Call = call (request codes1 ReadCard []) [] in
    clash
    (asked_word i _ (h.asks (holding image0) i refl) (λ e. let z : ◌≡◌ {A = ℕ} 0x6A86 0x9000 = e in omega arith)
    (λ e. let z : ◌≡◌ {A = ℕ} 0x6A86 0x9789 = e in omega arith))
    refl

-- 19. takes the first of two fields with one tag: a SET_PIN with New_PIN2 twice is 6A86, and no code is another
pub first_taker_rejected : Demand2 first_taker → ⊥
unfolding run
first_taker_rejected h =
    let setting : Call =
    ask0 SetPin (fld NewPIN1 sheet0.codes.pin1 ∷ fld NewPIN2 (replicate pin_size 8) ∷ fld NewPIN2 codes1.pin2 ∷ []) [] in
    let e : ◌≡◌ {A = ℕ} 0x01 0x6A = ap (λ z. get_or z.response 0 0) (by_manual h [] setting) in
    absurd (omega arith)

-- 20. leaves a purged wallet's signatures to the next one: its repeat is accepted, and the new wallet has made none
pub heir_rejected_2 : Demand2 heir → ⊥
unfolding run
heir_rejected_2 h =
    let e : ◌≡◌ {A = ℕ} 1 0 = ap (λ z. get_or z.next last_at 0) (by_manual h (creates ∷ signs 1 5 ∷ []) purges) in
    absurd (omega arith)

pub heir_rejected_3 : Demand3 heir → ⊥
unfolding run
heir_rejected_3 h =
    let e : 1 ≤ 0 = ((h.next sheet0 image0 fresh0 (taps_of (creates ∷ signs 1 5 ∷ purges ∷ creates ∷ [])) repeats).repeats refl refl).some in
    absurd (omega arith)

-- 21. activates though the issuer said no: the answer to an accepted activation is yes
pub credulous_rejected : Demand3 credulous → ⊥
unfolding run
credulous_rejected h =
    let e : ◌≡◌ {A = ℕ} 0 1 = ap (λ a. get_or a 0 0) ((h.next sheet2 image2 fresh2 [] (wakes 0 0)).wakes refl).answers in
    absurd (omega arith)

-- 22. resets PIN1 unasked: by the history the sheet's is in force
pub resetter_rejected : Demand3 resetter → ⊥
unfolding run
resetter_rejected h =
    let e : ◌≡◌ {A = ℕ} 0x91 1 = ap (λ x. get_or x.pin1 0 0) (h.kept sheet2 image2 fresh2 (taps_of (wakes 0 1 ∷ []))).in_force in
    absurd (omega arith)
