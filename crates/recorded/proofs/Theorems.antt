-- THE THEOREMS of a play: its card is what settle leaves, its sums are those of the history, and so the card keeps its account. Assumes nothing.
use Prim.Native.Nat.{ℕ, suc, ◌+◌, ◌≤◌}
use native.Mathlib.Omega.{arith}
use mathlib.Core.Path.{◌≡◌, refl, sym, ap, ◌∙◌, subst}
use mathlib.Core.List.{List, [], ◌∷◌, ◌++◌, append_assoc, append-nil}
use mathlib.Core.Bool.{Bool, true, false, cond}
use lib.ListN.{length, take, drop}
use lib.Seq.{take_at}
use lib.Dec.{leb, ltb, eqb}
use borrow.Author.Tests.{leb-true, eqb-true, eq-eqb}
use Rattle.std.specs.Prelude.{Some, None}
use Rattle.text.specs.Text.{decimal, plain_decimal, fitting, number_of}
use Rattle.wire.proofs.Laws.{by_cases}
use Rattle.card.specs.Layout.{image_size, image_room, top32}
use Rattle.card.specs.Image.{encode, decode}
use Rattle.card.specs.Valid.{is_card}
use Rattle.cards.proofs.Shape.{length_encode}
use Rattle.cards.proofs.Round.{decode_encode}
use Rattle.sheet.specs.Sheet.{count_of, max_of, first_bad, sheet_in}
use Rattle.personalise.specs.Personalise.{value_of, sheet_fixed, sheet_card, Outcome, personalised}
use Rattle.personalise.proofs.Laws.{sheet_shape}
use Rattle.sheets_back.proofs.Good.{sheet_is_card}
use Rattle.manual.specs.Settle.{holding, Call}
use Rattle.story.specs.Sums.{Sheet, History, is_done, accepted, status, made}
use Rattle.story.specs.Buffers.{response}
use Rattle.history.specs.Demands.{AnyCard, Demand2, Event, tapped, image_by, left, played, Fresh, Kept}
use Rattle.history.specs.Facts.{Stays}
use Rattle.history.proofs.Choice.{clash}
use Rattle.history.proofs.Events.{played_more, left_more}
use Rattle.history.proofs.Images.{model, model_demand2, model_demand3}
use Rattle.history.proofs.Theorems.{every, card_stays, refusal_keeps}
use Rattle.tapline.specs.Line.{Recorded}
use Rattle.sums.specs.Counted.{counted, live_signs}
use Rattle.printing.specs.Printing.{sums_text}
use Rattle.recording.specs.Recording.{taps_of}
use Rattle.recording.specs.Play.{call_of, settled_for, Played, begun, after_tap, after_taps, taps_text, end_text, play_text, printed}
use Rattle.recorded.specs.Facts.{events, sheet_of, sums_of}
use Rattle.recorded.proofs.Counted.{counted_more, sums_fit}

-- A TAP is a call of settle, on any card that meets demand 2
module _ (f : AnyCard) (h : Demand2 f) where
  -- what is settled for a tap is what the card's settle gives
  pub tap_settles : (m : List ℕ) (t : Recorded) → settled_for m t ≡ f.taps.settle (holding m) (call_of t)
  tap_settles m t = sym (h.settles (holding m) (call_of t))

  -- the card after a tap is what settle leaves
  pub tap_leaves : (p : Played) (t : Recorded) → (after_tap p t).image ≡ image_by f (holding p.image) (call_of t)
  tap_leaves = every (λ f. (p : Played) (t : Recorded) → (after_tap p t).image ≡ image_by f (holding p.image) (call_of t)) (λ p t. refl) f h

  -- the response to it is settle's
  pub tap_tells : (p : Played) (t : Recorded) → response (settled_for p.image t) ≡ response (f.taps.settle (holding p.image) (call_of t))
  tap_tells p t = ap response (tap_settles p.image t)

model_leaves : (p : Played) (ts : List Recorded) → (after_taps p ts).image ≡ (left model (holding p.image) (events ts)).image
unfolding after_taps
model_leaves p [] = refl
model_leaves p (t ∷ ts) = model_leaves (after_tap p t) ts

-- THE CARD AFTER TAPS, any number of them, is what the calls leave, one after the other
pub taps_leave : (f : AnyCard) → Demand2 f → (p : Played) (ts : List Recorded) → (after_taps p ts).image ≡ (left f (holding p.image) (events ts)).image
taps_leave = every (λ f. (p : Played) (ts : List Recorded) → (after_taps p ts).image ≡ (left f (holding p.image) (events ts)).image) model_leaves

-- A GOOD SHEET gives a fresh card
pub good_sheet_is_fresh : (s : List ℕ) → first_bad s ≡ 0 → Fresh (sheet_of s) (encode (sheet_card s))
unfolding sheet_card
good_sheet_is_fresh s e = record { card = sheet_is_card s e; spells = decode_encode (sheet_card s) (sheet_shape s) }

-- so what personalise answered 0 for is a fresh card of the sheet, at the front of the buffer
pub personalised_is_fresh : (s out : List ℕ) → (personalised s out).answer ≡ 0 → Fresh (sheet_of s) (take image_size (personalised s out).image)
unfolding personalised
personalised_is_fresh s out =
    by_cases (λ (z : Outcome). z.answer ≡ 0 → Fresh (sheet_of s) (take image_size z.image)) (ltb (length out) image_room)
    (λ _ e. let z : ◌≡◌ {A = ℕ} 99 0 = e in absurd (omega arith))
    (λ _.
    by_cases (λ (z : Outcome). z.answer ≡ 0 → Fresh (sheet_of s) (take image_size z.image)) (eqb (first_bad s) 0)
    (λ g _.
    subst (Fresh (sheet_of s)) (sym (take_at (encode (sheet_card s)) (drop image_size out) image_size (length_encode (sheet_card s) (sheet_shape s))))
    (good_sheet_is_fresh s (eqb-true (first_bad s) 0 g)))
    (λ g e. clash (eq-eqb (first_bad s) 0 e) g))

-- the maximum that a sheet gives fits 32 bits
pub max_fits : (s : List ℕ) → (sheet_fixed s).max ≤ top32
unfolding sheet_fixed max_of number_of fitting count_of
max_fits s = go (plain_decimal (value_of 6 s)) (leb (decimal (value_of 6 s)) top32) refl
  where
    go :
        (a b : Bool) → leb (decimal (value_of 6 s)) top32 ≡ b
        → count_of (cond a (cond b (Some (decimal (value_of 6 s))) None) None) ≤ top32
    go true true e = leb-true _ _ e
    go true false e = omega arith
    go false b e = omega arith

-- THE SUMS of a play are those of the history. A play over calls, with the sums that its history has:
module _ (sh : Sheet) (m : List ℕ) (e : Fresh sh m) (x : sh.fixed.max ≤ top32) where
  abbrev over : ℕ → List Event → Played
  over n es = record { taps = n; sums = sums_of sh (played model (holding m) [] es); image = (left model (holding m) es).image }

  over_one : (n : ℕ) (es : List Event) (t : Recorded) → after_tap (over n es) t ≡ over (suc n) (es ++ (tapped (call_of t) ∷ []))
  over_one n es t =
      let i : Call = call_of t in
      let s = counted_more sh (played model (holding m) [] es) _ (sums_fit sh m e x es i) ∙ ap (sums_of sh) (sym (played_more model (holding m) [] es (tapped i))) in
      λ j. record { taps = suc n; sums = s j; image = (sym (left_more model (holding m) es (tapped i)) j).image }

  over_all : (n : ℕ) (es : List Event) (ts : List Recorded) → (after_taps (over n es) ts).sums ≡ sums_of sh (played model (holding m) [] (es ++ events ts))
  unfolding after_taps
  over_all n es [] = ap (λ (es : List Event). sums_of sh (played model (holding m) [] es)) (sym (append-nil es))
  over_all n es (t ∷ ts) =
      ap (λ p. (after_taps p ts).sums) (over_one n es t)
      ∙ over_all (suc n) (es ++ (tapped (call_of t) ∷ [])) ts
      ∙ ap (λ (es : List Event). sums_of sh (played model (holding m) [] es)) (append_assoc es (tapped (call_of t) ∷ []) (events ts))

-- for every good sheet and all taps, on any card that meets demand 2: whether a wallet lives, its new SIGNs and all new hashes are those that the history shows
pub sums_of_history :
    (f : AnyCard) → Demand2 f → (s : List ℕ) → first_bad s ≡ 0 → (ts : List Recorded)
    → (after_taps (begun s) ts).sums ≡ sums_of (sheet_of s) (played f (holding (encode (sheet_card s))) [] (events ts))
sums_of_history =
    every
    (λ f.
    (s : List ℕ) → first_bad s ≡ 0 → (ts : List Recorded)
    → (after_taps (begun s) ts).sums ≡ sums_of (sheet_of s) (played f (holding (encode (sheet_card s))) [] (events ts)))
    (λ s e ts. over_all (sheet_of s) (encode (sheet_card s)) (good_sheet_is_fresh s e) (max_fits s) 0 [] ts)

-- so the live wallet's new SIGNs are the history's, and none where no wallet lives
pub live_signs_of_history :
    (f : AnyCard) → Demand2 f → (s : List ℕ) → first_bad s ≡ 0 → (ts : List Recorded)
    → (let h : History = played f (holding (encode (sheet_card s))) [] (events ts) in
    live_signs (after_taps (begun s) ts).sums ≡ cond (eqb (status (sheet_of s) h) 2) (made h) 0)
live_signs_of_history f h s e ts = ap live_signs (sums_of_history f h s e ts)

-- THE ACCOUNT of a play, for every good sheet and all taps
module _ (s : List ℕ) (e : first_bad s ≡ 0) (ts : List Recorded) where
  abbrev p : Played
  p = after_taps (begun s) ts

  abbrev h : History
  h = played model (holding (encode (sheet_card s))) [] (events ts)

  sums_are : p.sums ≡ sums_of (sheet_of s) h
  sums_are = sums_of_history model model_demand2 s e ts

  image_is : p.image ≡ (left model (holding (encode (sheet_card s))) (events ts)).image
  image_is = taps_leave model model_demand2 (begun s) ts

  kept : Kept (sheet_of s) h (decode p.image)
  kept = rw image_is (model_demand3.kept (sheet_of s) (encode (sheet_card s)) (good_sheet_is_fresh s e) (events ts))

  -- while a wallet lives, Remaining and its new SIGNs make up the sheet's maximum
  pub remaining_and_signs :
      (after_taps (begun s) ts).sums.live ≡ true
      → (decode (after_taps (begun s) ts).image).face.front.wallet.remaining + live_signs (after_taps (begun s) ts).sums ≡ (sheet_fixed s).max
  remaining_and_signs live =
      let a : eqb (status (sheet_of s) h) 2 ≡ true = sym (ap (λ z. z.live) sums_are) ∙ live in
      let b : live_signs p.sums ≡ made h = ap live_signs sums_are ∙ ap (λ b. cond b (made h) 0) a in
      ap (λ n. (decode p.image).face.front.wallet.remaining + n) b ∙ kept.balance (eqb-true (status (sheet_of s) h) 2 a)

  -- Signed_Hashes is all new hashes
  pub signed_is_hashes : (decode (after_taps (begun s) ts).image).face.front.wallet.signed ≡ (after_taps (begun s) ts).sums.hashes
  signed_is_hashes = kept.signed_hashes ∙ sym (ap (λ z. z.hashes) sums_are)

-- so a good recording prints a line for each tap, and then Remaining, Signed_Hashes, the new SIGNs, and Signed_Hashes again
pub last_line :
    (s : List ℕ) → first_bad (sheet_in s) ≡ 0 → (taps_of s).bad ≡ 0
    → (let p : Played = after_taps (begun (sheet_in s)) (taps_of s).taps in
    let n : ℕ = (decode p.image).face.front.wallet.signed in
    printed s ≡ taps_text (begun (sheet_in s)) (taps_of s).taps ++ sums_text (decode p.image).face.front.wallet.remaining n (live_signs p.sums) n)
unfolding printed play_text end_text
last_line s e b =
    let p : Played = after_taps (begun (sheet_in s)) (taps_of s).taps in
    rw (eq-eqb _ _ e, eq-eqb _ _ b)
    (ap
    (λ (k : ℕ).
    taps_text (begun (sheet_in s)) (taps_of s).taps
    ++ sums_text (decode p.image).face.front.wallet.remaining (decode p.image).face.front.wallet.signed (live_signs p.sums) k)
    (sym (signed_is_hashes (sheet_in s) e (taps_of s).taps)))

-- A REFUSED TAP. After a refusal by number the card goes on with the image that it had
pub number_keeps : (p : Played) (t : Recorded) → eqb (settled_for p.image t).result.number 0 ≡ false → (after_tap p t).image ≡ p.image
number_keeps p t e = rw e

-- after any refusal it is the card that it was, but for the wait
pub refusal_keeps_card : (p : Played) (t : Recorded) → is_done (settled_for p.image t).result.word ≡ false → Stays p.image (after_tap p t).image
refusal_keeps_card p t e = refusal_keeps model model_demand2 (holding p.image) (call_of t) e

-- a tap that was not accepted adds nothing to the sums
pub refusal_adds_nothing : (p : Played) (t : Recorded) → accepted (response (settled_for p.image t)) ≡ false → (after_tap p t).sums ≡ p.sums
unfolding counted
refusal_adds_nothing p t e = rw e

still_card : (p : Played) (ts : List Recorded) → is_card p.image ≡ true → is_card (after_taps p ts).image ≡ true
unfolding after_taps
still_card p [] e = e
still_card p (t ∷ ts) e = still_card (after_tap p t) ts (card_stays model model_demand2 (holding p.image) (call_of t) e)

-- THE IMAGE in a play of a good sheet is a card at all times
pub played_is_card : (s : List ℕ) → first_bad s ≡ 0 → (ts : List Recorded) → is_card (after_taps (begun s) ts).image ≡ true
played_is_card s e ts = still_card (begun s) ts (sheet_is_card s e)
