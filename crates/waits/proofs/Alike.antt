-- ASK AND SETTLE WAIT ALIKE, 02 Ask 7: each says 9789 exactly where the pace of the request is to wait, whatever the draw and the answers are. Assumes nothing.
use Prim.Native.Nat.{ℕ, ◌+◌}
use native.Mathlib.Omega.{arith}
use mathlib.Core.Path.{◌≡◌, refl, sym, ap, ◌∙◌}
use mathlib.Core.List.{List, []}
use mathlib.Core.Bool.{Bool, true, false}
use lib.Dec.{eqb}
use borrow.Author.Tests.{eq-eqb, ne_eqb}
use Rattle.wire.specs.Wire.{joined}
use Rattle.wire.proofs.Laws.{by_cases}
use Rattle.card.specs.declared.Face.{Face}
use Rattle.card.specs.declared.Card.{Card}
use Rattle.card.specs.Image.{decode}
use Rattle.manual.specs.Words.{sw_process_completed, sw_need_pause}
use Rattle.manual.specs.declared.Pace.{Pace}
use Rattle.manual.specs.declared.Pace.TheVariants.{Refused, Waits, Goes}
use Rattle.manual.specs.Request.{command}
use Rattle.manual.specs.Row.{Matched, shaped, asked, each_asked}
use Rattle.manual.specs.Commands.{row}
use Rattle.manual.specs.Settle.{State, Call, sent_in, matched, judged_by, judged, word_of, Said, done, answered, said_by, said, paced_by, paced, said_to}
use Rattle.manual.specs.Settle.{Settled, lent, settled_of, posed, paced_reason, paced_word, paced_questions, asked_of}
use Rattle.facts.proofs.Facts.{facts}
use Rattle.history.specs.Demands.{AnyCard, Demand2, ask_stop, settle_stop}
use Rattle.history.proofs.Choice.{clash}
use Rattle.history.proofs.Taps.{not_pause, by_checks}
use Rattle.history.proofs.Images.{looked_ask}
use Rattle.waits.proofs.Pace.{pace_at}
use Rattle.waits.proofs.Sending.{settle_is}

abbrev pub is_wait : Pace → Bool
is_wait (Refused b) = false
is_wait (Waits t) = true
is_wait Goes = false

abbrev pub NoPause : ℕ → Type 0
NoPause w = eqb w sw_need_pause ≡ false

module _ (c : Card) (q : List ℕ) where
  abbrev x : Matched
  x = matched c.codes (sent_in q)

  abbrev f : Face
  f = c.face

  -- where nobody has to wait, the word is another
  said_word : (d a : List ℕ) → NoPause (said_to c q d a).word
  unfolding said judged_by answered done
  said_word d a =
      let r = row (command q) in
      by_checks r x f q (λ g. NoPause (said_by g x f q d a).word)
      (λ n w e _ _. not_pause n w e)
      (λ _.
      by_cases (λ (s : Said). NoPause s.word) (shaped (r.questions f (sent_in q) d) a)
      (λ _.
      by_cases (λ (s : Said). NoPause s.word) (r.confirmed a)
      (λ _. let few = (facts (command q)).more x in ne_eqb (sw_process_completed + r.more x) sw_need_pause (λ e. omega arith))
      (λ _. refl))
      (λ _. refl))

  verdict_word : NoPause (word_of (judged x f q))
  unfolding judged_by
  verdict_word = by_checks (row (command q)) x f q (λ g. NoPause (word_of g)) (λ n w e _ _. not_pause n w e) (λ _. refl)

  settle_word : (d a out nxt : List ℕ) → eqb (settled_of c q d a out nxt).result.word sw_need_pause ≡ is_wait (pace_at c q)
  unfolding settled_of lent paced
  settle_word d a out nxt = go (pace_at c q) _
    where
      lent_word : (s : Said) (y : Card) → NoPause s.word → NoPause (lent s y out nxt).result.word
      lent_word s y e = by_cases (λ (z : Settled). NoPause z.result.word) (eqb s.number 0) (λ _. e) (λ _. refl)

      go : (p : Pace) (y : Card) → eqb (lent (paced_by p x f q d a) y out nxt).result.word sw_need_pause ≡ is_wait p
      go (Refused b) y = lent_word (paced_by (Refused b) x f q d a) y (said_word d a)
      go (Waits t) y = refl
      go Goes y = lent_word (paced_by Goes x f q d a) y (said_word d a)

  ask_word : (d page : List ℕ) → eqb (asked_of x f q d page).result.word sw_need_pause ≡ is_wait (pace_at c q)
  unfolding asked_of
  ask_word d page = go (pace_at c q)
    where
      go : (p : Pace) → eqb (paced_word p (judged x f q)) sw_need_pause ≡ is_wait p
      go (Refused b) = verdict_word
      go (Waits t) = refl
      go Goes = verdict_word

  -- a request that has to wait is asked nothing
  ask_none : (d page : List ℕ) → is_wait (pace_at c q) ≡ true → asked_of x f q d page ≡ posed 0 sw_need_pause [] page
  unfolding asked_of asked each_asked joined
  ask_none d page = go (pace_at c q)
    where
      go : (p : Pace) → is_wait p ≡ true
          → posed (paced_reason p (judged x f q)) (paced_word p (judged x f q)) (asked (paced_questions p (judged x f q) f q d)) page
          ≡ posed 0 sw_need_pause [] page
      go (Refused b) e = clash e refl
      go (Waits t) e = refl
      go Goes e = clash e refl

-- OF ANY CARD that meets demand 2
module _ {f : AnyCard} (h : Demand2 f) (s : State) (i : Call) where
  pub settle_waits : settle_stop s i ≡ 0 → eqb (f.taps.settle s i).result.word sw_need_pause ≡ is_wait (pace_at (decode s.image) i.request)
  settle_waits e =
      ap (λ z. eqb z.result.word sw_need_pause) (settle_is h s i e)
      ∙ settle_word (decode s.image) i.request i.draw i.answers i.buffers.out i.buffers.next

  pub ask_waits : ask_stop s i ≡ 0 → eqb (f.taps.ask s i).result.word sw_need_pause ≡ is_wait (pace_at (decode s.image) i.request)
  ask_waits e =
      ap (λ z. eqb z.result.word sw_need_pause) (h.asks s i ∙ looked_ask s i e)
      ∙ ask_word (decode s.image) i.request i.draw i.buffers.page

-- the same request, sent to both
module _ (f : AnyCard) (h : Demand2 f) (s : State) (i j : Call) (same : j.request ≡ i.request) (settles : settle_stop s i ≡ 0) (asks : ask_stop s j ≡ 0) where
  pub waits_alike : eqb (f.taps.ask s j).result.word sw_need_pause ≡ eqb (f.taps.settle s i).result.word sw_need_pause
  waits_alike = ask_waits h s j asks ∙ ap (λ q. is_wait (pace_at (decode s.image) q)) same ∙ sym (settle_waits h s i settles)

  pub pause_asks_none : (f.taps.settle s i).result.word ≡ sw_need_pause → f.taps.ask s j ≡ posed 0 sw_need_pause [] j.buffers.page
  pause_asks_none e =
      h.asks s j ∙ looked_ask s j asks
      ∙ ask_none (decode s.image) j.request j.draw j.buffers.page (sym (ask_waits h s j asks) ∙ waits_alike ∙ eq-eqb _ sw_need_pause e)
