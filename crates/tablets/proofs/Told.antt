-- READ_USER_DATA TELLS what the card holds under each of the four tags, by any card that meets demand 2; and so what was sent. Assumes nothing.
use Prim.Native.Nat.{ℕ, ◌+◌}
use mathlib.Core.Path.{◌≡◌, refl, ap, ◌∙◌}
use mathlib.Core.List.{List, [], ◌∷◌, ◌++◌}
use mathlib.Core.Bool.{true, false}
use native.Mathlib.Omega.{arith}
use lib.ListN.{length}
use lib.Seq.{take_all}
use lib.Dec.{eqb}
use borrow.Author.Tests.{eqb-true, eq-eqb}
use Rattle.wire.specs.Wire.{be2, be4}
use Rattle.wire.proofs.Laws.{by_cases}
use Rattle.fields.specs.Fields.{View, val, written, Tagged, fld, first_of}
use Rattle.card.specs.declared.Card.{Card}
use Rattle.card.specs.Values.{block_of}
use Rattle.card.specs.Image.{decode}
use Rattle.manual.specs.Words.{sw_process_completed}
use Rattle.manual.specs.Tags.{UserData, UserProtectedData, UserCounter, UserProtectedCounter}
use Rattle.manual.specs.declared.Command.TheVariants.{ReadUserData}
use Rattle.manual.specs.Request.{payload}
use Rattle.manual.specs.Storage.{held_field, read_user_data}
use Rattle.manual.specs.Commands.{row}
use Rattle.manual.specs.Settle.{holding, Call, sent_in, matched, fields_of, response_of, done}
use Rattle.facts.proofs.Facts.{small_decode, facts, writes}
use Rattle.story.specs.Sums.{told_in}
use Rattle.story.specs.Buffers.{response}
use Rattle.history.specs.Demands.{AnyCard, Demand2}
use Rattle.history.specs.Facts.{is_of}
use Rattle.history.proofs.Choice.{by_ins}
use Rattle.history.proofs.Taps.{val_told}
use Rattle.waits.proofs.Sending.{says}
use Rattle.tablets.specs.Tablets.{Ready, Reads, user_tags, is_in, AllStore, stored_all, Sent, TwoByTwo, user_value}
use Rattle.tablets.proofs.Accepted.{goes_on_lem, looks, went}
use Rattle.tablets.proofs.Many.{all_reads}
use Rattle.tablets.proofs.Held.{by_tag, holds_written}

-- a field that is told only if it is not empty
first_own : (t : ℕ) (d : List ℕ) (rest : List Tagged) → first_of t rest ≡ [] → first_of t (held_field t d ++ rest) ≡ d
first_own t d rest e =
    by_cases (λ (l : List Tagged). first_of t (l ++ rest) ≡ d) (eqb (length d) 0)
    (λ z. e ∙ take_all 0 d (omega (arith, eqb-true (length d) 0 z)))
    (λ _. rw (eq-eqb t t refl) refl)

first_other : (t s : ℕ) (d : List ℕ) (rest : List Tagged) → eqb s t ≡ false → first_of t (held_field s d ++ rest) ≡ first_of t rest
first_other t s d rest e =
    by_cases (λ (l : List Tagged). first_of t (l ++ rest) ≡ first_of t rest) (eqb (length d) 0) (λ _. refl) (λ _. rw e refl)

-- what is told of a card
module _ (c : Card) (v : View) (d a : List ℕ) where
  abbrev x : List ℕ
  x = block_of c.face.held.user

  abbrev y : List ℕ
  y = block_of c.face.held.protected

  abbrev numbers : List Tagged
  numbers = fld UserCounter (be4 c.face.front.counters.user) ∷ fld UserProtectedCounter (be4 c.face.front.counters.protected) ∷ []

  tells_value : (t : ℕ) → is_of t user_tags ≡ true → first_of t (fields_of read_user_data c.face v d a) ≡ user_value t c
  tells_value =
      by_tag (λ t. first_of t (fields_of read_user_data c.face v d a) ≡ user_value t c)
      (first_own UserData x (held_field UserProtectedData y ++ numbers) (first_other UserData UserProtectedData y numbers refl))
      (first_other UserProtectedData UserData x (held_field UserProtectedData y ++ numbers) refl ∙ first_own UserProtectedData y numbers refl)
      (first_other UserCounter UserData x (held_field UserProtectedData y ++ numbers) refl ∙ first_other UserCounter UserProtectedData y numbers refl)
      (first_other UserProtectedCounter UserData x (held_field UserProtectedData y ++ numbers) refl
      ∙ first_other UserProtectedCounter UserProtectedData y numbers refl)

-- READ_USER_DATA, accepted
module _ (f : AnyCard) (h : Demand2 f) (m : List ℕ) (i : Call) (r : Reads f m i) where
  told :
      response (f.taps.settle (holding m) i)
      ≡ written (fields_of read_user_data (decode m).face (sent_in i.request) i.draw i.answers) ++ be2 sw_process_completed
  unfolding done
  told =
      let c = decode m in
      let v = sent_in i.request in
      says h (holding m) i (looks h r)
      ∙ ap (λ s. s.response) (goes_on_lem c i.request i.draw i.answers (went h r))
      ∙ ap (λ k. response_of (row k) (sw_process_completed + (row k).more (matched c.codes v)) ((row k).next c.face v i.answers) v i.draw i.answers)
      (by_ins ReadUserData refl i.request r.ins)

  pub read_tells : (t : ℕ) → is_of t user_tags ≡ true → val t (told_in (response (f.taps.settle (holding m) i))) ≡ user_value t (decode m)
  read_tells t l =
      let c = decode m in
      let v = sent_in i.request in
      ap (λ z. val t (told_in z)) told
      ∙ val_told t sw_process_completed (fields_of read_user_data c.face v i.draw i.answers)
      (writes (facts ReadUserData) c.face v i.draw i.answers (small_decode m))
      ∙ tells_value c v i.draw i.answers t l

-- AFTER ANY NUMBER OF E0 that are apart two by two it is accepted where it was before, and tells what was sent, and the old value where nothing was
module _ (f : AnyCard) (h : Demand2 f) (m : List ℕ) (u : Ready m) (is : List Call) (y : AllStore f m is) (two : TwoByTwo is) (i : Call) (r : Reads f m i) where
  after : Reads f (stored_all f m is) i
  after = all_reads f h m u is y i r

  pub sent_is_told :
      (t : ℕ) → is_of t user_tags ≡ true → (q : List ℕ) → Sent q is → is_in t (payload q) ≡ true
      → val t (told_in (response (f.taps.settle (holding (stored_all f m is)) i))) ≡ val t (sent_in q)
  sent_is_told t l q s e = read_tells f h (stored_all f m is) i after t l ∙ (holds_written f h m u is y two).sent t l q s e

  pub old_is_told :
      (t : ℕ) → is_of t user_tags ≡ true → ((q : List ℕ) → Sent q is → is_in t (payload q) ≡ false)
      → val t (told_in (response (f.taps.settle (holding (stored_all f m is)) i))) ≡ user_value t (decode m)
  old_is_told t l n = read_tells f h (stored_all f m is) i after t l ∙ (holds_written f h m u is y two).old t l n
