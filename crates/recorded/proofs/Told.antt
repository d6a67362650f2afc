-- WHAT IS TOLD OF A TAP: a play meets no number but 0 and 4, so it prints the response in hex, or `4`. Assumes nothing.
use Prim.Native.Nat.{ℕ, ◌/◌}
use native.Mathlib.Omega.{arith}
use mathlib.Core.Path.{◌≡◌, refl, ap, ◌∙◌}
use mathlib.Core.List.{List}
use mathlib.Core.Bool.{Bool, true, false, cond, ◌&&◌, ◌||◌}
use lib.ListN.{length}
use lib.Dec.{leb, eqb}
use borrow.Author.Tests.{eqb-true, eq-eqb}
use Rattle.wire.proofs.Laws.{both_true}
use Rattle.text.specs.Text.{ascii, is_hex, unhex, hex_of}
use Rattle.text.specs.Lines.{head_to, ended}
use Rattle.text.proofs.Laws.{length_unhex, decimal_small}
use Rattle.card.specs.Image.{decode}
use Rattle.card.specs.Valid.{is_card}
use Rattle.manual.specs.Words.{draw_size}
use Rattle.manual.specs.Settle.{Call, Settled, matched, sent_in, done, card_after, lent, settled_of, settled, roomy}
use Rattle.story.specs.Buffers.{response}
use Rattle.history.proofs.Choice.{or_false}
use Rattle.history.proofs.Taps.{by_outcome}
use Rattle.tapline.specs.Line.{request_in, draw_in, answers_in, expected_in, is_bytes, is_some, is_draw, is_expected, is_tap, longest, is_tap_line, Recorded, recorded}
use Rattle.printing.specs.Printing.{told_as}
use Rattle.recording.specs.Play.{call_of, settled_for, told}

draw_long : (v : List ℕ) → is_draw v ≡ true → length (unhex v) ≡ draw_size
unfolding is_draw
draw_long v e =
    let z : length v ≡ 64 = eqb-true _ _ (both_true (eqb (length v) 64) (is_hex v) e).0 in
    length_unhex v ∙ ap (λ (n : ℕ). n / 2) z

tap_draw : (l : List ℕ) → is_tap l ≡ true → is_draw (draw_in l) ≡ true
unfolding is_tap
tap_draw l e =
    let z = (both_true (is_some (request_in l)) (is_draw (draw_in l) && (is_bytes (answers_in l) && is_expected (expected_in l))) e).1 in
    (both_true (is_draw (draw_in l)) (is_bytes (answers_in l) && is_expected (expected_in l)) z).0

-- A TAP'S DRAW is 32 bytes
pub draw_is_32 : (l : List ℕ) → is_tap_line l ≡ true → length (recorded l).draw ≡ draw_size
unfolding is_tap_line recorded
draw_is_32 l e =
    let z = (both_true (ended l) (leb (length (head_to 10 l)) longest && is_tap (head_to 10 l)) e).1 in
    draw_long (draw_in (head_to 10 l)) (tap_draw (head_to 10 l) (both_true (leb (length (head_to 10 l)) longest) (is_tap (head_to 10 l)) z).1)

abbrev Fine : Settled → Type 0
Fine x = (eqb x.result.number 0 || eqb x.result.number 4) ≡ true

settled_fine : (m : List ℕ) (i : Call) → Fine (settled_of (decode m) i.request i.draw i.answers i.buffers.out i.buffers.next)
unfolding settled_of lent done
settled_fine m i =
    by_outcome (λ s _ _ _. Fine (lent s (card_after s (decode m).codes i.request) i.buffers.out i.buffers.next))
    (matched (decode m).codes (sent_in i.request)) (decode m).face i.request i.draw i.answers
    (λ _ _ _. refl)
    (λ _ _. refl)
    (λ _ _. refl)
    (λ _ _ _. refl)
    (λ _ _ _. refl)

-- NUMBERS 1 TO 3 are for what is no card, for small buffers and for other draws, so a tap on a card meets none of them
pub number_0_or_4 :
    (m : List ℕ) (t : Recorded) → is_card m ≡ true → length t.draw ≡ draw_size
    → (eqb (settled_for m t).result.number 0 || eqb (settled_for m t).result.number 4) ≡ true
unfolding settled roomy
number_0_or_4 m t o l = rw (o, eq-eqb _ _ l) (settled_fine m (call_of t))

-- THE LINE OF A TAP tells the response in capital hex, or `4` where settle says number 4
pub told_hex_or_4 :
    (m l : List ℕ) → is_card m ≡ true → is_tap_line l ≡ true
    → (let x : Settled = settled_for m (recorded l) in told x ≡ cond (eqb x.result.number 0) (hex_of (response x)) (ascii "4"))
unfolding told_as
told_hex_or_4 m l o e = go (eqb n 0) refl
  where
    n : ℕ
    n = (settled_for m (recorded l)).result.number

    go : (b : Bool) → eqb n 0 ≡ b → told (settled_for m (recorded l)) ≡ cond b (hex_of (response (settled_for m (recorded l)))) (ascii "4")
    go true f = rw f
    go false f = rw (f, eqb-true n 4 (or_false (eqb n 0) (eqb n 4) (number_0_or_4 m (recorded l) o (draw_is_32 l e)) f)) (decimal_small 4 (omega arith))
