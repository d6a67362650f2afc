-- THE CARD THAT REPORTS A SIGNED_HASHES OF ITS OWN MAKING is right in all else: it asks as the manual does, leaves the same image, and but for READ_CARD says
-- the same. Assumes nothing.
use Prim.Native.Nat.{ℕ}
use mathlib.Core.Path.{◌≡◌, refl, sym, ap, ◌∙◌}
use mathlib.Core.List.{List, [], ◌++◌}
use mathlib.Core.Bool.{Bool, true, false, cond}
use lib.ListN.{length, take, drop}
use lib.Dec.{leb, eqb}
use Rattle.std.specs.Prelude.{Ok, Err}
use Rattle.fields.specs.Fields.{View}
use Rattle.card.specs.declared.Face.{Face}
use Rattle.card.specs.declared.Card.{Card}
use Rattle.card.specs.Layout.{image_size}
use Rattle.card.specs.Values.{no_pending, with_pending}
use Rattle.card.specs.Image.{encode, decode}
use Rattle.card.specs.Valid.{is_card}
use Rattle.manual.specs.Words.{sw_error_processing_command, questions_room, draw_size}
use Rattle.manual.specs.declared.Command.{Command}
use Rattle.manual.specs.declared.Command.TheVariants.{ReadCard, CreateWallet, CheckWallet, SetPin, Sign, VerifyCard, ValidateCard, PurgeWallet}
use Rattle.manual.specs.declared.Command.TheVariants.{ReadUserData, WriteUserData, WriteIssuerData, ReadIssuerData, ActivateCard}
use Rattle.manual.specs.declared.Pace.{Pace}
use Rattle.manual.specs.declared.Pace.TheVariants.{Refused, Waits, Goes}
use Rattle.manual.specs.Request.{code, command}
use Rattle.manual.specs.Row.{Matched, Row, asked, shaped, Verdict}
use Rattle.manual.specs.Wallet.{read_card, read_fields}
use Rattle.manual.specs.Commands.{row}
use Rattle.manual.specs.Delay.{pace_by, pending_after}
use Rattle.manual.specs.Settle.{State, Call, sent_in, matched, paced_reason, paced_word, Said, silent, refused, done, answered, lent, roomy, untouched, outcome}
use Rattle.manual.specs.Settle.{posed, posed_by, asked_for, settled}
use Rattle.story.specs.Buffers.{image}
use Rattle.history.specs.Demands.{image_by}
use Rattle.history.specs.Wrong.{asks_at, says_at, judged_by, paced_by, asks_by, says_by, leaves_by, but, with_fields_out, boasting, proud}
use Rattle.history.proofs.Taps.{by_checks}
use Rattle.history.proofs.Images.{model, stages, image_lent}
use Rattle.rejected.proofs.Rejected.{honest_accepted}

-- its rows, and a row without what it tells
abbrev rows : Command → Row
rows = but ReadCard (with_fields_out (λ f v d a. read_fields (boasting f)) read_card)

abbrev mum : Row → Row
mum = with_fields_out (λ f v d a. [])

like : (k : Command) → mum (rows k) ≡ mum (row k)
like ReadCard = refl
like CreateWallet = refl
like CheckWallet = refl
like SetPin = refl
like Sign = refl
like VerifyCard = refl
like ValidateCard = refl
like PurgeWallet = refl
like ReadUserData = refl
like WriteUserData = refl
like WriteIssuerData = refl
like ReadIssuerData = refl
like ActivateCard = refl

-- no pace hangs on that
pace_mum : (z : Verdict) (r : Row) (m : Matched) (f : Face) (v : View) (q : List ℕ) → pace_by z r m f v q ≡ pace_by z (mum r) m f v q
unfolding pace_by
pace_mum (Ok k) r m f v q = refl
pace_mum (Err e) r m f v q = refl

-- of an answered command, what does not hang on what it tells
record Core (x y : Said) : Type 0 where
  number : x.number ≡ y.number
  face : x.face ≡ y.face
  executed : x.executed ≡ y.executed

core_mum : (r : Row) (m : Matched) (f : Face) (v : View) (d a : List ℕ) → Core (answered r m f v d a) (answered (mum r) m f v d a)
unfolding answered done
core_mum r m f v d a = go (shaped (r.questions f v d) a) (r.confirmed a)
  where
    go : (b c : Bool)
        → Core (cond b (cond c (done r m f v d a) (refused 13 sw_error_processing_command f)) (silent 4 f))
        (cond b (cond c (done (mum r) m f v d a) (refused 13 sw_error_processing_command f)) (silent 4 f))
    go true true = record { number = refl; face = refl; executed = refl }
    go true false = record { number = refl; face = refl; executed = refl }
    go false c = record { number = refl; face = refl; executed = refl }

core_paced : (p : Pace) (f : Face) (q : List ℕ) {x y : Said} → Core x y → Core (says_at p f q x) (says_at p f q y)
core_paced (Refused b) f q z =
    let w = pending_after (Refused b) f.pending q in
    record { number = z.number; face = λ j. cond (eqb (z.number j) 0) (with_pending w (z.face j)) (z.face j); executed = z.executed }
core_paced (Waits t) f q z = record { number = refl; face = refl; executed = refl }
core_paced Goes f q z =
    record { number = z.number; face = λ j. cond (eqb (z.number j) 0) (with_pending no_pending (z.face j)) (z.face j); executed = z.executed }

module _ (c : Card) (q d a : List ℕ) where
  same_verdict : judged_by rows c q ≡ judged_by row c q
  same_verdict = ap (λ (r : Row). judged_by (λ _. r) c q) (like (command q))

  -- its rows need PIN2 where the manual's do
  same_pace : paced_by rows c q ≡ paced_by row c q
  same_pace =
      let m = matched c.codes (sent_in q) in
      let z = judged_by row c q in
      ap (λ z. pace_by z (rows (command q)) m c.face (sent_in q) q) same_verdict
      ∙ pace_mum z (rows (command q)) m c.face (sent_in q) q
      ∙ ap (λ r. pace_by z r m c.face (sent_in q) q) (like (command q))
      ∙ sym (pace_mum z (row (command q)) m c.face (sent_in q) q)

  same_asks : (z : Verdict) → asks_by rows z c q d ≡ asks_by row z c q d
  same_asks (Err e) = refl
  same_asks (Ok k) = ap (λ r. r.questions c.face (sent_in q) d) (like k)

  same_core : (z : Verdict) → Core (says_by rows z c q d a) (says_by row z c q d a)
  same_core (Err e) = record { number = refl; face = refl; executed = refl }
  same_core (Ok k) =
      let m = matched c.codes (sent_in q) in
      let x = core_mum (rows k) m c.face (sent_in q) d a in
      let y = core_mum (row k) m c.face (sent_in q) d a in
      let z = ap (λ r. answered r m c.face (sent_in q) d a) (like k) in
      record {
        number = x.number ∙ ap (λ w. w.number) z ∙ sym y.number;
        face = x.face ∙ ap (λ w. w.face) z ∙ sym y.face;
        executed = x.executed ∙ ap (λ w. w.executed) z ∙ sym y.executed;
      }

  abbrev proudly : Said
  proudly = says_at (paced_by rows c q) c.face q (says_by rows (judged_by rows c q) c q d a)

  abbrev honestly : Said
  honestly = says_at (paced_by row c q) c.face q (says_by row (judged_by row c q) c q d a)

  core : Core proudly honestly
  core = rw (same_pace, same_verdict) (core_paced (paced_by row c q) c.face q (same_core (judged_by row c q)))

  leaves_alike : leaves_by rows c q proudly ≡ leaves_by row c q honestly
  leaves_alike =
      λ n. record {
        face = core.face n;
        codes = cond (core.executed n) ((like (command q) n).recode (sent_in q) c.codes) c.codes;
      }

  -- but for READ_CARD
  module _ (e : eqb (code (command q)) (code ReadCard) ≡ false) where
    same_row : rows (command q) ≡ row (command q)
    same_row = rw e

    says_alike : proudly ≡ honestly
    says_alike =
        (λ n. says_at (same_pace n) c.face q (says_by rows (same_verdict n) c q d a))
        ∙ ap (says_at (paced_by row c q) c.face q)
        (by_checks (row (command q)) (matched c.codes (sent_in q)) c.face q (λ z. says_by rows z c q d a ≡ says_by row z c q d a)
        (λ n w _ _ _. refl)
        (λ _. ap (λ r. answered r (matched c.codes (sent_in q)) c.face (sent_in q) d a) same_row))

module _ (s : State) (i : Call) where
  abbrev c0 : Card
  c0 = decode s.image

  pub proud_asks : proud.taps.ask s i ≡ asked_for s i
  proud_asks =
      let p = same_pace c0 i.request i.draw i.answers in
      let e = same_verdict c0 i.request i.draw i.answers in
      let x = ap (λ z. asks_by rows z c0 i.request i.draw) e ∙ same_asks c0 i.request i.draw i.answers (judged_by row c0 i.request) in
      stages (λ z. z) (λ z. z) (λ n. posed_by (outcome n 0 0 0) i.buffers.page) (λ n. refl) (is_card s.image) (leb questions_room (length i.buffers.page))
      (eqb (length i.draw) draw_size)
      (λ n. posed (paced_reason (p n) (e n)) (paced_word (p n) (e n)) (asked (asks_at (p n) (x n))) i.buffers.page)
      ∙ honest_accepted.asks s i

  pub proud_leaves : image_by proud s i ≡ image_by model s i
  proud_leaves =
      let x = core c0 i.request i.draw i.answers in
      let y = leaves_alike c0 i.request i.draw i.answers in
      stages (image s.image) (image s.image) (λ n. untouched n i.buffers.out i.buffers.next) (λ n. refl) (is_card s.image)
      (roomy (length i.buffers.out) (length i.buffers.next)) (eqb (length i.draw) draw_size)
      (image_lent s.image _ _ i.buffers.out i.buffers.next
      ∙ (λ n. cond (eqb (x.number n) 0) (take image_size (encode (y n) ++ drop image_size i.buffers.next)) s.image)
      ∙ sym (image_lent s.image _ _ i.buffers.out i.buffers.next))
      ∙ ap (image s.image) (honest_accepted.settles s i)

  pub proud_says : eqb (code (command i.request)) (code ReadCard) ≡ false → proud.taps.settle s i ≡ settled s i
  proud_says e =
      let x = says_alike c0 i.request i.draw i.answers e in
      let y = leaves_alike c0 i.request i.draw i.answers in
      stages (λ z. z) (λ z. z) (λ n. untouched n i.buffers.out i.buffers.next) (λ n. refl) (is_card s.image)
      (roomy (length i.buffers.out) (length i.buffers.next)) (eqb (length i.draw) draw_size)
      (λ n. lent (x n) (y n) i.buffers.out i.buffers.next)
      ∙ honest_accepted.settles s i
