-- WHAT IS ACCEPTED, by any card that meets demand 2: all checks hold, nobody waits, the answers have their shape, and the issuer does not say no; and whatever
-- is so is accepted. Assumes nothing.
use Prim.Native.Nat.{ℕ}
use native.Mathlib.Omega.{arith}
use mathlib.Core.Path.{◌≡◌, refl, sym, ap, ◌∙◌}
use mathlib.Core.List.{List}
use mathlib.Core.Bool.{true}
use lib.ListN.{length}
use lib.Dec.{eqb}
use Rattle.std.specs.Prelude.{Ok}
use Rattle.wire.specs.Wire.{Bytes}
use Rattle.card.specs.declared.Card.{Card}
use Rattle.card.specs.Values.{no_pending}
use Rattle.card.specs.Image.{decode}
use Rattle.card.specs.Valid.{is_card}
use Rattle.manual.specs.Words.{sw_process_completed, draw_size}
use Rattle.manual.specs.declared.Command.{Command}
use Rattle.manual.specs.Request.{code, command}
use Rattle.manual.specs.Row.{Matched, shaped}
use Rattle.manual.specs.Commands.{row}
use Rattle.manual.specs.Delay.{entered}
use Rattle.manual.specs.Settle.{holding, Call, sent_in, matched, judged, done, answered, said_by, said, leaving, paced_to, lent, roomy}
use Rattle.story.specs.Sums.{is_done, ins}
use Rattle.history.specs.Demands.{AnyCard, Demand2, settle_stop}
use Rattle.history.specs.Waiting.{wait_of}
use Rattle.history.proofs.Choice.{clash}
use Rattle.history.proofs.Taps.{Passed, by_outcome}
use Rattle.history.proofs.Images.{stop_none, said_at}
use Rattle.waits.proofs.Pace.{pace_goes, paced_by_lem}
use Rattle.waits.proofs.Sending.{number_goes, number_is, settles_as}
use Rattle.tablets.specs.Tablets.{Accepts}

-- WHAT GOES ON on a card, of a request q, a draw d and answers a
pub record Goes (c : Card) (q d a : List ℕ) : Type 0 where
  pub verdict : judged (matched c.codes (sent_in q)) c.face q ≡ Ok (command q)
  pub prompt : wait_of c q ≡ 0
  pub shape : shaped ((row (command q)).questions c.face (sent_in q) d) a ≡ true
  pub yes : (row (command q)).confirmed a ≡ true

module _ (c : Card) (q d a : List ℕ) where
  abbrev x : Matched
  x = matched c.codes (sent_in q)

  goes : (paced_to c q d a).number ≡ 0 → is_done (paced_to c q d a).word ≡ true → Goes c q d a × Passed (row (command q)) x c.face (sent_in q)
  unfolding done
  goes =
      by_outcome (λ z _ _ _. z.number ≡ 0 → is_done z.word ≡ true → Goes c q d a × Passed (row (command q)) x c.face (sent_in q)) x c.face q d a
      (λ n w h _ e. clash e h.not_done)
      (λ t h _ e. clash e refl)
      (λ h _ n _. absurd (omega arith))
      (λ h _ _ _ e. clash e refl)
      (λ h s y _ _. (record { verdict = h.verdict; prompt = h.goes; shape = s; yes = y }, h.passed))

  pub goes_on_lem : Goes c q d a → paced_to c q d a ≡ leaving no_pending (done (row (command q)) x c.face (sent_in q) d a)
  unfolding said answered
  goes_on_lem g =
      paced_by_lem c q d a (pace_goes c q (ap entered g.verdict) g.prompt)
      ∙ ap (leaving no_pending) (ap (λ z. said_by z x c.face q d a) g.verdict ∙ rw (g.shape, g.yes) refl)

-- AN ACCEPTED CALL goes on, and is none of numbers 1 to 3
module _ {f : AnyCard} (h : Demand2 f) {k : Command} {m : List ℕ} {i : Call} (y : Accepts k f m i) where
  pub looks : settle_stop (holding m) i ≡ 0
  looks = number_goes h (holding m) i y.number

  held_to :
      Goes (decode m) i.request i.draw i.answers
      × Passed (row (command i.request)) (matched (decode m).codes (sent_in i.request)) (decode m).face (sent_in i.request)
  unfolding lent
  held_to =
      let n : (said_at (holding m) i).number ≡ 0 = sym (number_is h (holding m) i looks) ∙ y.number in
      let e = settles_as h (holding m) i looks refl in
      let w : (said_at (holding m) i).word ≡ sw_process_completed = rw n at (sym (ap (λ z. z.result.word) e) ∙ y.word) in
      goes (decode m) i.request i.draw i.answers n (rw w refl)

  pub went : Goes (decode m) i.request i.draw i.answers
  went = held_to.0

  pub has_passed : Passed (row (command i.request)) (matched (decode m).codes (sent_in i.request)) (decode m).face (sent_in i.request)
  has_passed = held_to.1

-- WHAT GOES ON IS ACCEPTED: on another card, by a call that was none of numbers 1 to 3 on this one, where the command has no other word than 9000
module _ {f : AnyCard} (h : Demand2 f) (m m' : List ℕ) (i : Call) (old : settle_stop (holding m) i ≡ 0) (o : is_card m' ≡ true) where
  still_looks : settle_stop (holding m') i ≡ 0
  still_looks =
      let z = stop_none (is_card m) (roomy (length i.buffers.out) (length i.buffers.next)) (eqb (length i.draw) draw_size) old in
      rw (o, z.1.0, z.1.1) refl

  pub accepts :
      (k : Command) → ins i.request ≡ code k → Bytes i.request → (row (command i.request)).more (matched (decode m').codes (sent_in i.request)) ≡ 0
      → Goes (decode m') i.request i.draw i.answers → Accepts k f m' i
  unfolding lent done
  accepts k e b n g =
      let s = settles_as h (holding m') i still_looks (goes_on_lem (decode m') i.request i.draw i.answers g) in
      record { ins = e; bytes = b; number = ap (λ z. z.result.number) s; word = ap (λ z. z.result.word) s ∙ rw n refl }
