-- ASK AND SETTLE AGREE, of the manual: a part of demand 1. Assumes nothing.
use Prim.Native.Nat.{ℕ, ◌≤◌}
use native.Mathlib.Omega.{arith}
use mathlib.Core.Path.{◌≡◌, refl, sym}
use mathlib.Core.List.{List, []}
use mathlib.Core.Bool.{false}
use lib.ListN.{length, drop}
use lib.Seq.{take_at}
use Rattle.wire.specs.Wire.{joined}
use Rattle.card.specs.declared.Face.{Face}
use Rattle.card.specs.Values.{no_pending, with_pending}
use Rattle.card.specs.Image.{decode}
use Rattle.manual.specs.Words.{sw_process_completed, sw_error_processing_command, questions_room}
use Rattle.manual.specs.declared.Outcome.{Outcome}
use Rattle.manual.specs.Request.{command}
use Rattle.manual.specs.Row.{Matched, Question, asked, each_asked, shaped}
use Rattle.manual.specs.Commands.{row}
use Rattle.manual.specs.Settle.{State, Call, ask_call, sent_in, matched, Said, silent, refused, done, pausing, leaving, card_after}
use Rattle.manual.specs.Settle.{settled, settled_of, lent, asked_for, asked_of, posed}
use Rattle.story.specs.Sums.{is_done}
use Rattle.history.specs.Demands.{settle_stop, Agree}
use Rattle.history.proofs.Choice.{clash}
use Rattle.history.proofs.Delay.{resting}
use Rattle.history.proofs.Taps.{by_outcome}
use Rattle.history.proofs.Cards.{done_is}
use Rattle.history.proofs.Images.{settled_at, looked, looked_ask, both_look}

module _ (m : State) (i : Call) (page : List ℕ) where
  abbrev f : Face
  f = (decode m.image).face

  abbrev x : Matched
  x = matched (decode m.image).codes (sent_in i.request)

  -- what settle says; the reason, the word and the questions of ask
  abbrev Goal : Said → ℕ → ℕ → List Question → Type 0
  Goal s n w xs =
      Agree i.answers (posed n w (asked xs) page)
      (lent s (card_after s (decode m.image).codes i.request) i.buffers.out i.buffers.next)

  -- 0 is not 4
  zero_four : {A : Type 0} → ◌≡◌ {A = ℕ} 0 4 → A
  zero_four e = absurd (omega arith)

  -- refused by checks 1 to 12, or to wait: nothing is asked, and both say the same reason and word
  stopped : (s : Said) → s.number ≡ 0 → is_done s.word ≡ false → Goal s s.reason s.word []
  unfolding lent asked each_asked joined
  stopped s z e =
      rw z
      (record {
        these = [];
        bytes = refl;
        refuses = λ _. (refl, refl);
        four = λ z. zero_four z;
        fits = λ z _. clash refl (rw z at e);
        thirteen = λ z _ _. clash refl (rw z at e);
      })

  -- all twelve hold
  module _ (s : Said) (l : List Question) where
    abbrev y : Outcome
    y = (lent s (card_after s (decode m.image).codes i.request) i.buffers.out i.buffers.next).result

    passes :
        (y.number ≡ 4 → shaped l i.answers ≡ false) → (shaped l i.answers ≡ false → y.number ≡ 4)
        → (y.number ≡ 0 → is_done y.word ≡ false → (y.reason ≡ 13) × (y.word ≡ sw_error_processing_command)) → Goal s 0 sw_process_completed l
    passes four fits thirteen =
        record {
          these = l;
          bytes = take_at (asked l) (drop (length (asked l)) page) (length (asked l)) refl;
          refuses = λ e. clash refl e;
          four = λ e. (refl, four e);
          fits = λ _. fits;
          thirteen = λ _. thirteen;
        }

  agree_card : Agree i.answers (asked_of x f i.request i.draw page) (settled_at m i)
  unfolding asked_of settled_of lent done
  agree_card =
      let r = row (command i.request) in
      by_outcome Goal x f i.request i.draw i.answers
      (λ n w h. stopped (refused n w (with_pending (resting r x f (sent_in i.request) n) f)) refl h.not_done)
      (λ t h. stopped (pausing t f i.request) refl refl)
      (λ h n. passes (silent 4 f) _ (λ _. n) (λ _. refl) (λ e. zero_four (sym e)))
      (λ h e n. passes (refused 13 sw_error_processing_command (with_pending no_pending f)) _ (λ z. zero_four z) (λ n. clash e n) (λ _ _. (refl, refl)))
      (λ h e n.
      passes (leaving no_pending (done r x f (sent_in i.request) i.draw i.answers)) _ (λ z. zero_four z) (λ n. clash e n)
      (λ _ z. clash (done_is (command i.request) x) z))

pub agree_model :
    (m : State) (i : Call) (page : List ℕ) → questions_room ≤ length page → settle_stop m i ≡ 0
    → Agree i.answers (asked_for m (ask_call i.request i.draw page)) (settled m i)
agree_model m i page h b =
    rw (looked m i b, looked_ask m (ask_call i.request i.draw page) (both_look m i page h b)) (agree_card m i page)
