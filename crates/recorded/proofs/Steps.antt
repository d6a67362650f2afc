-- THE STEPS PRINT THE MEANING: lines played one after the other print what the whole recording means. Assumes nothing.
use Prim.Native.Nat.{ℕ, suc, ◌-◌, ◌≤◌, ◌<◌}
use native.Mathlib.Omega.{arith}
use mathlib.Core.Path.{◌≡◌, refl, sym, ap, ◌∙◌}
use mathlib.Core.List.{List, [], ◌∷◌, ◌++◌, append_assoc, append-nil}
use mathlib.Core.Bool.{Bool, true, false, cond, not, ◌&&◌}
use lib.Dec.{ltb, eqb}
use borrow.Author.Tests.{ltb-true, ltb-false, ne_eqb}
use Rattle.wire.specs.Wire.{put, be1}
use Rattle.wire.proofs.Laws.{both_true, tested}
use Rattle.text.specs.Lines.{from_line}
use Rattle.card.specs.declared.Card.{Card}
use Rattle.card.specs.Layout.{pause_at}
use Rattle.card.specs.Values.{with_pause, faced}
use Rattle.card.specs.Image.{encode}
use Rattle.card.specs.Shape.{Shape}
use Rattle.cards.proofs.Shape.{length_encode}
use Rattle.writing.proofs.Renewed.{anew_pause}
use Rattle.sheet.specs.Sheet.{sheet_lines, value_in, pause_of, is_pause_line, has_pause, first_bad, required_in, after_required, sheet_in, after_sheet, line_after}
use Rattle.sheet.proofs.Laws.{after_more, after_some}
use Rattle.personalise.specs.Personalise.{sheet_card}
use Rattle.personalise.proofs.Laws.{sheet_shape}
use Rattle.sheets_back.proofs.Lined.{first}
use Rattle.sheets_back.proofs.Paused.{pause_first, pause_value, required_unpaused, unpaused_sheet, unpaused_after, paused_after, paused_card, same_bad}
use Rattle.tapline.specs.Line.{Recorded, is_tap_line, recorded}
use Rattle.printing.specs.Printing.{bad_text}
use Rattle.recording.specs.declared.Play.{Play}
use Rattle.recording.specs.Recording.{taps_in, most_taps, Taps, no_taps, tap_then, taps_from, taps_of}
use Rattle.recording.specs.Play.{Played, begun, after_tap, after_taps, text_of, taps_text, end_text, play_text, printed}
use Rattle.recording.specs.Step.{Stepped, playing, ended_at, stopped, tapped, is_next, is_first_pause, pausing, stepped, start_with, start, started}
use Rattle.recording.specs.Step.{finished, run_text, steps_text}

-- A PLAY THAT HAS ENDED prints nothing more
pub ended_is_silent : (y : Play) (m : List ℕ) (ls : List (List ℕ)) → run_text (ended_at y) m ls ≡ []
unfolding run_text finished stepped
ended_is_silent y m [] = refl
ended_is_silent y m (l ∷ ls) = ended_is_silent y m ls

-- ONE LINE of a play that goes on: the sheet's pause, a tap, or the end
abbrev else_tap : Bool → Played → List ℕ → Bool → Stepped
else_tap b p l next = cond next (tapped b p (recorded l)) (stopped (playing b p) p.image (line_after b p.taps))

no_pause : (b : Bool) (p : Played) (l : List ℕ) → is_first_pause (playing b p) l ≡ false → stepped (playing b p) p.image l ≡ else_tap b p l (is_next p.taps l)
unfolding stepped
no_pause b p l e = ap (λ c. cond c (pausing (playing b p) p.image l) (else_tap b p l (is_next p.taps l))) e

-- what is printed from this line on
module _ (b : Bool) (p : Played) (l : List ℕ) (ls : List (List ℕ)) (h : is_first_pause (playing b p) l ≡ false) where
  goes_on :
      is_next p.taps l ≡ true
      → run_text (playing b p) p.image (l ∷ ls)
      ≡ text_of p (recorded l) ++ run_text (playing b (after_tap p (recorded l))) (after_tap p (recorded l)).image ls
  unfolding run_text
  goes_on e = ap (λ z. z.text ++ run_text z.play z.image ls) (no_pause b p l h ∙ ap (else_tap b p l) e)

  stops_here : is_next p.taps l ≡ false → run_text (playing b p) p.image (l ∷ ls) ≡ bad_text (line_after b p.taps)
  unfolding run_text
  stops_here e =
      ap (λ z. z.text ++ run_text z.play z.image ls) (no_pause b p l h ∙ ap (else_tap b p l) e)
      ∙ ap (λ (t : List ℕ). bad_text (line_after b p.taps) ++ t) (ended_is_silent (playing b p) p.image ls)
      ∙ append-nil (bad_text (line_after b p.taps))

-- the taps from this line on
tap_first :
    (n k : ℕ) (l : List ℕ) (ls : List (List ℕ)) → n < most_taps → is_tap_line l ≡ true
    → taps_from (most_taps - n) k (l ∷ ls) ≡ tap_then (recorded l) (taps_from (most_taps - suc n) (suc k) ls)
unfolding taps_from
tap_first n k l ls h e =
    let z : most_taps - n ≡ suc (most_taps - suc n) = omega arith in
    ap (λ (most : ℕ). taps_from most k (l ∷ ls)) z
    ∙ ap (λ b. cond b (tap_then (recorded l) (taps_from (most_taps - suc n) (suc k) ls)) (no_taps k)) e

none_first :
    (n k : ℕ) (l : List ℕ) (ls : List (List ℕ)) → n ≤ most_taps → is_next n l ≡ false → taps_from (most_taps - n) k (l ∷ ls) ≡ no_taps k
unfolding taps_from
none_first n k l ls h e = go (ltb n most_taps) refl
  where
    go : (b : Bool) → ltb n most_taps ≡ b → taps_from (most_taps - n) k (l ∷ ls) ≡ no_taps k
    go true f =
        let x : n < most_taps = ltb-true n most_taps f in
        let z : most_taps - n ≡ suc (most_taps - suc n) = omega arith in
        let y : is_tap_line l ≡ false = rw f at e in
        ap (λ (most : ℕ). taps_from most k (l ∷ ls)) z
        ∙ ap (λ b. cond b (tap_then (recorded l) (taps_from (most_taps - suc n) (suc k) ls)) (no_taps k)) y
    go false f =
        let x : most_taps ≤ n = ltb-false n most_taps f in
        let z : most_taps - n ≡ 0 = omega arith in
        ap (λ (most : ℕ). taps_from most k (l ∷ ls)) z

-- the text of a tap and of those after it; and of none
then_text : (p : Played) (t : Recorded) (r : Taps) → play_text p (tap_then t r) ≡ text_of p t ++ play_text (after_tap p t) r
unfolding play_text taps_text after_taps
then_text p t r = append_assoc (text_of p t) (taps_text (after_tap p t) r.taps) (end_text (after_taps (after_tap p t) r.taps) r.bad)

none_text : (b : Bool) (p : Played) (n : ℕ) → play_text p (no_taps (line_after b n)) ≡ bad_text (line_after b n)
unfolding play_text taps_text after_taps end_text
none_text b p n = let e : eqb (line_after b n) 0 ≡ false = ne_eqb (line_after b n) 0 (after_some b n) in rw e

-- after a tap no line is the sheet's
pause_over : (b : Bool) (p : Played) (t : Recorded) (l : List ℕ) → is_first_pause (playing b (after_tap p t)) l ≡ false
pause_over b p t l = ap (λ c. c && (not b && is_pause_line l)) (ne_eqb (suc p.taps) 0 (λ z. omega (arith, z)))

-- THE STEPS PRINT THE MEANING of the lines, whatever has been played before them, where the first is not the sheet's pause
pub steps_print :
    (b : Bool) (p : Played) (ls : List (List ℕ)) → p.taps ≤ most_taps → is_first_pause (playing b p) (first ls) ≡ false
    → run_text (playing b p) p.image ls ≡ play_text p (taps_from (most_taps - p.taps) (line_after b p.taps) ls)
unfolding run_text finished taps_from play_text taps_text after_taps end_text
steps_print b p [] h k = refl
steps_print b p (l ∷ ls) h k =
    go (is_next p.taps l) refl (λ x. steps_print b (after_tap p (recorded l)) ls x (pause_over b p (recorded l) (first ls)))
  where
    q : Played
    q = after_tap p (recorded l)

    go :
        (c : Bool) → is_next p.taps l ≡ c
        → (suc p.taps ≤ most_taps → run_text (playing b q) q.image ls ≡ play_text q (taps_from (most_taps - suc p.taps) (line_after b (suc p.taps)) ls))
        → run_text (playing b p) p.image (l ∷ ls) ≡ play_text p (taps_from (most_taps - p.taps) (line_after b p.taps) (l ∷ ls))
    go true e ih =
        let f = both_true (ltb p.taps most_taps) (is_tap_line l) e in
        let x : p.taps < most_taps = ltb-true p.taps most_taps f.0 in
        goes_on b p l ls k e
        ∙ ap (λ (t : List ℕ). text_of p (recorded l) ++ t) (ih x ∙ ap (λ (n : ℕ). play_text q (taps_from (most_taps - suc p.taps) n ls)) (after_more b p.taps))
        ∙ sym (then_text p (recorded l) (taps_from (most_taps - suc p.taps) (suc (line_after b p.taps)) ls))
        ∙ ap (play_text p) (sym (tap_first p.taps (line_after b p.taps) l ls x f.1))
    go false e ih =
        stops_here b p l ls k e ∙ sym (ap (play_text p) (none_first p.taps (line_after b p.taps) l ls h e) ∙ none_text b p p.taps)

-- THE SHEET'S PAUSE as a step is the pause of the whole sheet
pause_set : (c : Card) (n : ℕ) → Shape c → put (encode c) pause_at (be1 n) ≡ encode (faced (with_pause n c.face) c)
pause_set c n s =
    let m = encode c in
    let w = tested {d = m} {at = pause_at} {v = be1 n} (omega (arith, length_encode c s)) (λ _. record { bytes = refl; next = refl }) in
    let x = anew_pause {c = c} {rest = []} n w (record { shape = s; bytes = sym (append-nil m) }) in
    x.bytes ∙ append-nil (encode (faced (with_pause n c.face) c))

module _ (s : List ℕ) where
  pause_step : has_pause s ≡ true → run_text start (begun (required_in s)).image (after_required s) ≡ run_text (start_with true) (begun (sheet_in s)).image (after_sheet s)
  unfolding run_text stepped
  pause_step e =
      let l : List ℕ = first (after_required s) in
      let c = sheet_card (required_in s) in
      let m =
      ap (λ (v : List ℕ). put (encode c) pause_at (be1 (pause_of v))) (pause_value s)
      ∙ pause_set c (pause_of (value_in (from_line (suc sheet_lines) s))) (sheet_shape (required_in s))
      ∙ sym (ap encode (paused_card s e)) in
      ap (run_text start (encode c)) (paused_after s e)
      ∙ rw (pause_first s ∙ e) (ap (λ (m : List ℕ). run_text (start_with true) m (after_sheet s)) m)

  lines_print : run_text start (begun (required_in s)).image (after_required s) ≡ play_text (begun (sheet_in s)) (taps_of s)
  unfolding taps_of
  lines_print = go (has_pause s) refl
    where
      go : (b : Bool) → has_pause s ≡ b → run_text start (begun (required_in s)).image (after_required s) ≡ play_text (begun (sheet_in s)) (taps_from most_taps (line_after (has_pause s) 0) (taps_in s))
      go true e = pause_step e ∙ steps_print true (begun (sheet_in s)) (after_sheet s) (omega arith) refl ∙ rw e
      go false e =
          steps_print false (begun (required_in s)) (after_required s) (omega arith) (pause_first s ∙ e)
          ∙ rw (e, unpaused_sheet s e, unpaused_after s e)

-- and so of a whole recording: its sheet first, then a line at a time, prints what the text means, whatever the image's buffer held
pub steps_print_all : (m s : List ℕ) → steps_text m s ≡ printed s
unfolding steps_text printed started
steps_print_all m s = rw (same_bad s) (go (eqb (first_bad (required_in s)) 0) refl)
  where
    go :
        (b : Bool) → eqb (first_bad (required_in s)) 0 ≡ b
        → steps_text m s ≡ cond b (play_text (begun (sheet_in s)) (taps_of s)) (bad_text (first_bad (required_in s)))
    go true e = rw (e, required_unpaused s) (lines_print s)
    go false e =
        let t : List ℕ = bad_text (first_bad (required_in s)) in
        rw e (ap (λ (u : List ℕ). t ++ u) (ended_is_silent start m (after_required s)) ∙ append-nil t)
