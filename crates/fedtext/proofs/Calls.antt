-- CALLS ONE AFTER THE OTHER: each leaves the room that it had, so that all of them print the meaning of the recording. Assumes nothing.
use Prim.Native.Nat.{ℕ, ◌≤◌}
use native.Mathlib.Omega.{arith}
use mathlib.Core.Path.{◌≡◌, refl, sym, ap, ◌∙◌}
use mathlib.Core.Bool.{Bool, true, false, cond, ◌&&◌}
use mathlib.Core.List.{List, [], ◌∷◌, ◌++◌}
use lib.ListN.{length, drop, length-append, length-drop}
use lib.Dec.{leb, eqb}
use borrow.Author.Tests.{leb-true, le-leb, eqb-true, eq-eqb}
use Rattle.wire.specs.Wire.{be1, put, fit, room}
use Rattle.wire.proofs.Laws.{by_cases, both_true, room_true, length_put}
use Rattle.card.specs.Layout.{pause_at, image_size}
use Rattle.card.specs.Image.{encode}
use Rattle.card.specs.Valid.{is_card}
use Rattle.cards.proofs.Round.{is_card_length}
use Rattle.sheet.specs.Sheet.{pause_of, value_in, first_bad, belongs, line_after}
use Rattle.personalise.specs.Personalise.{sheet_card}
use Rattle.sheets_back.proofs.Good.{sheet_is_card}
use Rattle.manual.specs.Settle.{holding, over, settled}
use Rattle.history.proofs.Images.{model, model_demand2}
use Rattle.history.proofs.Theorems.{card_stays}
use Rattle.tapline.specs.Line.{Recorded, recorded}
use Rattle.recording.specs.declared.Play.{Play}
use Rattle.recording.specs.Play.{call_of, after_tap, printed}
use Rattle.recording.specs.Step.{Stepped, played, nothing, stopped, tapped, is_next, is_first_pause, pausing, started, stepped, line_room, room_for}
use Rattle.player.specs.declared.Player.{Player}
use Rattle.player.specs.Feed.{at_first, played_held, text_room, is_whole, Left, roomy, fed}
use Rattle.fedtext.specs.Whole.{more, count, turn, fed_text, calls_text, printed_by}
use Rattle.fedtext.proofs.Whole.{fed_prints, call_turns, call_holds, call_prints, close_prints}

-- THE IMAGE keeps its length: a card stays a card, and what is no card stays as it is
tap_keeps : (y : Play) (m : List ℕ) (t : Recorded) → length m ≡ image_size → length (after_tap (played y m) t).image ≡ image_size
unfolding settled
tap_keeps y m t h = go (is_card m) refl
  where
    go : (c : Bool) → is_card m ≡ c → length (after_tap (played y m) t).image ≡ image_size
    go true e = is_card_length (after_tap (played y m) t).image (card_stays model model_demand2 (holding m) (call_of t) e)
    go false e = rw e h

step_keeps : (y : Play) (m l : List ℕ) → length m ≡ image_size → length (stepped y m l).image ≡ image_size
unfolding stepped
step_keeps y m l h = go y.ended (is_first_pause y l) (is_next y.taps l)
  where
    go :
        (a b c : Bool)
        → length
        (cond a (nothing y m)
        (cond b (pausing y m l) (cond c (tapped y.paused (played y m) (recorded l)) (stopped y m (line_after y.paused y.taps))))).image
        ≡ image_size
    go true b c = h
    go false true c = length_put m pause_at (be1 (pause_of (value_in l))) (omega (arith, h)) ∙ h
    go false false true = tap_keeps y m (recorded l) h
    go false false false = h

start_keeps : (v m : List ℕ) → length m ≡ image_size → length (started v m).image ≡ image_size
unfolding started
start_keeps v m h = go (eqb (first_bad v) 0) refl
  where
    go : (c : Bool) → eqb (first_bad v) 0 ≡ c → length (started v m).image ≡ image_size
    go true e = rw e (is_card_length (encode (sheet_card v)) (sheet_is_card v (eqb-true (first_bad v) 0 e)))
    go false e = rw e h

turn_keeps : (y : Play) (n : ℕ) (m v : List ℕ) → length m ≡ image_size → length (played_held y n v m).image ≡ image_size
unfolding played_held
turn_keeps y n m v h =
    by_cases (λ (z : Stepped). length z.image ≡ image_size) (belongs n) {x = started v m} {y = stepped y m v}
    (λ _. start_keeps v m h)
    (λ _. step_keeps y m v h)

-- THE BUFFERS keep theirs
fit_keeps : (d : List ℕ) (at : ℕ) (v : List ℕ) → length (fit d at v) ≡ length d
unfolding fit
fit_keeps d at v =
    by_cases (λ (l : List ℕ). length l ≡ length d) (room (length d) at (length v)) {x = put d at v} {y = d}
    (λ e. length_put d at v (room_true (length d) at (length v) e))
    (λ _. refl)

over_keeps : (v out : List ℕ) → length out ≤ length (over v out)
over_keeps v out = omega (arith, length-append v (drop (length v) out), length-drop (length v) out)

record Room (t i o : ℕ) : Type 0 where
  text : text_room ≤ t
  image : i ≡ image_size
  out : line_room ≤ o

has : (text image out : ℕ) → roomy text image out ≡ true → Room text image out
unfolding roomy room_for
has text image out e =
    let a = both_true (leb text_room text) (eqb image image_size && leb line_room out) e in
    let b = both_true (eqb image image_size) (leb line_room out) a.1 in
    record { text = leb-true text_room text a.0; image = eqb-true image image_size b.0; out = leb-true line_room out b.1 }

gives : (text image out : ℕ) → Room text image out → roomy text image out ≡ true
unfolding roomy room_for
gives text image out x = rw (le-leb text_room text x.text, eq-eqb image image_size x.image, le-leb line_room out x.out)

module _ (p : Player) (b : ℕ) (text m out : List ℕ) (e : roomy (length text) (length m) (length out) ≡ true) where
  -- A CALL LEAVES ROOM
  room_stays : (let r : Left = fed p b text m out in roomy (length r.text) (length r.image) (length r.out) ≡ true)
  room_stays = go (is_whole p.lines (count p b text) b) refl
    where
      go :
          (c : Bool) → is_whole p.lines (count p b text) b ≡ c
          → (let r : Left = fed p b text m out in roomy (length r.text) (length r.image) (length r.out) ≡ true)
      go true f =
          let x = has (length text) (length m) (length out) e in
          let z : Stepped = turn p b text m in
          rw (call_turns p text m out e b f)
          (gives (length (more p b text)) (length z.image) (length (over z.text out))
          (record {
            text = omega (arith, x.text, fit_keeps text p.held (b ∷ []));
            image = turn_keeps p.play p.lines m _ x.image;
            out = omega (arith, x.out, over_keeps z.text out);
          }))
      go false f =
          let x = has (length text) (length m) (length out) e in
          rw (call_holds p text m out e b f)
          (gives (length (more p b text)) (length m) (length out)
          (record { text = omega (arith, x.text, fit_keeps text p.held (b ∷ [])); image = x.image; out = x.out }))

calls_print_on :
    (p : Player) (text m out s : List ℕ) → roomy (length text) (length m) (length out) ≡ true → calls_text p text m out s ≡ fed_text p text m s
unfolding calls_text
calls_print_on p text m out [] e = sym (close_prints p text m out e)
calls_print_on p text m out (b ∷ s) e =
    let r : Left = fed p b text m out in
    ap (λ (t : List ℕ). printed_by r ++ t) (calls_print_on r.result.player r.text r.image r.out s (room_stays p b text m out e))
    ∙ sym (call_prints p text m out e b s)

-- THE CALLS FOR A RECORDING, from buffers with room, print its meaning, whatever its bytes are and whatever the buffers held
pub calls_print : (text m out s : List ℕ) → roomy (length text) (length m) (length out) ≡ true → calls_text at_first text m out s ≡ printed s
calls_print text m out s e = calls_print_on at_first text m out s e ∙ fed_prints text m s (has (length text) (length m) (length out) e).text
