-- One more tap on a card: it keeps the card's shape, and what ties it to its history. Assumes nothing.
use Prim.Native.Nat.{ℕ, ◌+◌, ◌≤◌}
use native.Mathlib.Omega.{arith}
use mathlib.Core.Path.{◌≡◌, refl, sym, ◌∙◌}
use mathlib.Core.List.{List, [], ◌∷◌}
use mathlib.Core.Bool.{true}
use lib.ListN.{length}
use borrow.Author.Tests.{le-leb}
use Rattle.fields.specs.Fields.{View, written}
use Rattle.card.specs.declared.Pending.{Pending}
use Rattle.card.specs.declared.Face.{Face}
use Rattle.card.specs.declared.Card.{Card}
use Rattle.card.specs.Layout.{held_room}
use Rattle.card.specs.Valid.{ok_face}
use Rattle.card.specs.Shape.{Shape}
use Rattle.card.specs.Values.{no_pending}
use Rattle.cards.proofs.Shape.{shape_with_pending}
use Rattle.kept.proofs.Waits.{no_pending_ok, keeps_pending}
use Rattle.manual.specs.Words.{sw_process_completed}
use Rattle.manual.specs.Tags.{Signature}
use Rattle.manual.specs.declared.Command.{Command}
use Rattle.manual.specs.Request.{command}
use Rattle.manual.specs.Row.{Matched, Question}
use Rattle.manual.specs.Commands.{row}
use Rattle.manual.specs.Settle.{waiting, sent_in, matched, judged, Said, fields_of, done, pace_of, leaving, paced_to, paced_questions, recoded, card_after}
use Rattle.facts.proofs.Facts.{small_shape, facts, writes}
use Rattle.story.specs.Sums.{Sheet, History, tap, is_done, accepted}
use Rattle.history.proofs.Choice.{did_by}
use Rattle.history.proofs.Taps.{accepts, val_told, Passed, Same, by_tap}
use Rattle.history.proofs.Seen.{look, look_none, watch, Inv}
use Rattle.history.proofs.Commands.{conduct}

-- a command that is carried out is told by 9000 to 9003
done_word : (n : ℕ) → n ≤ 3 → is_done (sw_process_completed + n) ≡ true
done_word n h =
    rw
    (le-leb sw_process_completed (sw_process_completed + n) (omega arith), le-leb (sw_process_completed + n) (sw_process_completed + 3) (omega arith))

pub done_is : (k : Command) (m : Matched) → is_done (sw_process_completed + (row k).more m) ≡ true
done_is k m = done_word ((row k).more m) ((facts k).more m)

-- THE CARD after a tap, and what was asked
abbrev pub after : Card → List ℕ → List ℕ → List ℕ → Card
after c q d a = card_after (paced_to c q d a) c.codes q

abbrev pub xs : Card → List ℕ → List ℕ → List Question
xs c q d =
    let m : Matched = matched c.codes (sent_in q) in
    paced_questions (pace_of m c.face q) (judged m c.face q) c.face q d

-- a card with another wait
pub shape_waiting : (p : Pending) (c : Card) → Shape c → length p.request ≡ held_room → Shape (waiting p c)
shape_waiting p c s l = record { codes = s.codes; face = shape_with_pending c.face s.face p l }

-- a card, and what its history shows
pub record Fits (sh : Sheet) (c : Card) (h : History) : Type 0 where
  pub inv : Inv sh (watch c.face) c.codes (look sh h)
  pub shape : Shape c

module _ (c : Card) (q d a : List ℕ) where
  abbrev k : Command
  k = command q

  abbrev v : View
  v = sent_in q

  abbrev m : Matched
  m = matched c.codes (sent_in q)

  abbrev f : Face
  f = c.face

  -- the face of a tap that is carried out
  abbrev g : Face
  g = (row k).next f v a

  pub shape_after : Shape c → Shape (after c q d a)
  unfolding done
  shape_after s =
      by_tap (λ z _. Shape (card_after z c.codes q)) m f q d a
      kept
      (λ _. kept)
      (λ _ _.
      shape_waiting no_pending (record { face = g; codes = (row k).recode v c.codes })
      (record { codes = (facts k).codes v c.codes s.codes; face = (facts k).shape f v a s.face }) refl)
    where
      kept : (z : Said) → Same f z → Shape (card_after z c.codes q)
      kept z y = rw (y.face, y.codes) (shape_waiting y.wait c s (y.long s.face.pending))

  -- what is left of a card is a card
  pub stays_tap : ok_face f ≡ true → ok_face (after c q d a).face ≡ true
  unfolding done
  stays_tap o =
      by_tap (λ z _. ok_face z.face ≡ true) m f q d a
      kept
      (λ _. kept)
      (λ y s. keeps_pending g ((conduct k m f q d a y).stays o s) no_pending no_pending_ok)
    where
      kept : (z : Said) → Same f z → ok_face z.face ≡ true
      kept z y = rw y.face (keeps_pending f o y.wait (y.ok o))

  -- EVERY TAP keeps card and history in step; a refusal by one line
  module _ (sh : Sheet) (h : History) (i : Fits sh c h) where
    abbrev Goal : Said → List Question → Type 0
    Goal z y = Inv sh (watch z.face) (recoded k z.executed v c.codes) (look sh (tap q z.response ∷ h))

    stays : (z : Said) → Same f z → Goal z []
    stays z e = rw (e.face, e.codes, look_none sh (tap q z.response) h e.answer) i.inv

    keeps_done : Passed (row k) m f v → Goal (leaving no_pending (done (row k) m f v d a)) []
    unfolding done
    keeps_done y =
        let fs = fields_of (row k) g v d a in
        let w = sw_process_completed + (row k).more m in
        let r = (done (row k) m f v d a).response in
        let e : accepted r ≡ true = accepts (written fs) w ∙ done_is k m in
        let s = small_shape ((facts k).shape f v a i.shape.face) in
        (conduct k m f q d a y).keeps sh c.codes h r i.inv (did_by q r e) (sym (val_told Signature w fs (writes (facts k) g v d a s)))

    inv_tap : Inv sh (watch (after c q d a).face) (after c q d a).codes (look sh (tap q (paced_to c q d a).response ∷ h))
    inv_tap = by_tap Goal m f q d a stays (λ _. stays) (λ y g. keeps_done y)

    pub fits_tap : Fits sh (after c q d a) (tap q (paced_to c q d a).response ∷ h)
    fits_tap = record { inv = inv_tap; shape = shape_after i.shape }

-- where a call gave no response
pub fits_none : (sh : Sheet) (c : Card) (h : History) (q : List ℕ) → Fits sh c h → Fits sh c (tap q [] ∷ h)
unfolding accepted
fits_none sh c h q i = record { inv = rw (look_none sh (tap q []) h refl) i.inv; shape = i.shape }
