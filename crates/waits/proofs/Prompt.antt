-- THE OLD MEANING IS A SPECIAL CASE, 02 Ask 7: on a card with no pause, nothing counted and nothing held every call says what it said before and leaves that
-- card, but that a code present, wrong and not the default is counted. Assumes nothing.
use Prim.Native.Nat.{ℕ, ◌+◌}
use native.Mathlib.Omega.{arith}
use mathlib.Core.Path.{◌≡◌, refl, sym, ap, ◌∙◌}
use mathlib.Core.List.{List}
use mathlib.Core.Bool.{Bool, true, false, cond}
use borrow.Author.Tests.{leb-true, ne_eqb}
use Rattle.std.specs.Prelude.{Ok, Err}
use Rattle.wire.proofs.Laws.{by_cases}
use Rattle.card.specs.declared.Pending.{Pending}
use Rattle.card.specs.declared.Card.{Card}
use Rattle.card.specs.Values.{u8, no_pending}
use Rattle.card.specs.Image.{decode}
use Rattle.manual.specs.declared.Pace.TheVariants.{Refused}
use Rattle.manual.specs.Request.{command}
use Rattle.manual.specs.Row.{Matched, asked, Verdict}
use Rattle.manual.specs.Commands.{row}
use Rattle.manual.specs.Delay.{entered, wrong_code, is_held, pending_after}
use Rattle.manual.specs.Settle.{State, Call, sent_in, matched, judged, word_of, reason_of, Said, leaving, paced_by, waiting, card_after, said_to, lent, posed}
use Rattle.manual.specs.Settle.{questions_of, paced_reason, paced_word, paced_questions, asked_of}
use Rattle.facts.proofs.Blind.{said_pending}
use Rattle.history.specs.Demands.{AnyCard, Demand2, ask_stop, settle_stop, only_counted}
use Rattle.history.specs.Waiting.{enters, wait_of, over_wrong, Prompt}
use Rattle.history.proofs.Images.{looked_ask}
use Rattle.waits.proofs.Pace.{by_pace, paced_by_lem}
use Rattle.waits.proofs.Sending.{lent_leaving, settles_as}

-- no code counts as wrong in a request that passes checks 1 to 10
right_code : (c : Card) (q : List ℕ) → enters c q ≡ true → over_wrong c q ≡ false
right_code c q = go (judged (matched c.codes (sent_in q)) c.face q)
  where
    go : (g : Verdict) → entered g ≡ true → wrong_code (row (command q)) (matched c.codes (sent_in q)) (sent_in q) g ≡ false
    go (Ok k) e = refl
    go (Err w) e = let l = leb-true 11 w.check e in rw (ne_eqb w.check 6 (λ z. omega arith), ne_eqb w.check 10 (λ z. omega arith)) refl

module _ (c : Card) (n : Prompt c) (q : List ℕ) where
  goes : wait_of c q ≡ 0
  goes =
      by_cases (λ (t : ℕ). t ≡ 0) (is_held c.face q)
      (λ _. rw n.pending refl)
      (λ _. rw (n.pending, n.pause) (by_cases (λ (t : ℕ). u8 (0 + t) ≡ 0) ((row (command q)).pin2 (sent_in q)) (λ _. refl) (λ _. refl)))

module _ (f : AnyCard) (h : Demand2 f) (s : State) (i : Call) (n : Prompt (decode s.image)) where
  abbrev c : Card
  c = decode s.image

  abbrev q : List ℕ
  q = i.request

  abbrev x : Matched
  x = matched c.codes (sent_in q)

  abbrev g : Verdict
  g = judged x c.face q

  -- what was said before, and the card that was left
  abbrev says : Said
  says = said_to c q i.draw i.answers

  abbrev next : Card
  next = card_after says c.codes q

  same : waiting no_pending next ≡ next
  same = ap (λ p. waiting p next) (sym (said_pending x c.face q i.draw i.answers ∙ n.pending))

  noted : (b : Bool) → waiting (pending_after (Refused b) no_pending q) next ≡ cond b (waiting (only_counted 1) next) next
  noted true = refl
  noted false = same

  pub prompt_as_before :
      settle_stop s i ≡ 0
      → f.taps.settle s i ≡ lent says (cond (over_wrong c q) (waiting (only_counted 1) next) next) i.buffers.out i.buffers.next
  prompt_as_before go =
      settles_as h s i go (paced_by_lem c q i.draw i.answers refl)
      ∙ by_pace c q (λ p. Goal (paced_by p x c.face q i.draw i.answers))
      (λ _. left (pending_after (Refused (over_wrong c q)) c.face.pending q) (rw n.pending (noted (over_wrong c q))))
      (λ _ l. absurd (omega (arith, goes c n q)))
      (λ e _. left no_pending (rw (right_code c q e) same))
    where
      Goal : Said → Type 0
      Goal z =
          lent z (card_after z c.codes q) i.buffers.out i.buffers.next
          ≡ lent says (cond (over_wrong c q) (waiting (only_counted 1) next) next) i.buffers.out i.buffers.next

      left : (p : Pending) → waiting p next ≡ cond (over_wrong c q) (waiting (only_counted 1) next) next → Goal (leaving p says)
      left p e = lent_leaving p says c.codes q i.buffers.out i.buffers.next ∙ ap (λ z. lent says z i.buffers.out i.buffers.next) e

  pub asked_as_before :
      ask_stop s i ≡ 0
      → f.taps.ask s i ≡ posed (reason_of g) (word_of g) (asked (questions_of g c.face q i.draw)) i.buffers.page
  unfolding asked_of
  asked_as_before go =
      h.asks s i ∙ looked_ask s i go
      ∙ by_pace c q
      (λ p.
      posed (paced_reason p g) (paced_word p g) (asked (paced_questions p g c.face q i.draw)) i.buffers.page
      ≡ posed (reason_of g) (word_of g) (asked (questions_of g c.face q i.draw)) i.buffers.page)
      (λ _. refl)
      (λ _ l. absurd (omega (arith, goes c n q)))
      (λ _ _. refl)
