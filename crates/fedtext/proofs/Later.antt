-- AFTER THE SHEET: bytes that come one by one print what their lines print, and a line that is too long is bad however it goes on. Assumes nothing.
use Prim.Native.Nat.{ℕ, ◌+◌, ◌≤◌, ◌<◌}
use native.Mathlib.Omega.{arith}
use mathlib.Core.Path.{◌≡◌, refl, sym, ap, ◌∙◌}
use mathlib.Core.List.{List, [], ◌∷◌, ◌++◌, append_assoc, append-nil}
use mathlib.Core.Bool.{Bool, true, false, cond, not, ◌||◌}
use lib.ListN.{length, take, length-append, length-take}
use lib.Dec.{leb, ltb, eqb}
use borrow.Author.Tests.{leb-true, lt-ltb, le-ltb, lt-leb, eqb-true, not-true}
use Rattle.wire.proofs.Laws.{by_cases, both_true, and_false, or_true}
use Rattle.text.specs.Text.{all_of}
use Rattle.text.specs.Lines.{length_to, head_to, ended, before, lines_of}
use Rattle.text.proofs.LineLaws.{other}
use Rattle.sheet.specs.Sheet.{pause_row, sheet_lines, good_line, is_pause_line, line_after}
use Rattle.sheet.proofs.Laws.{sheet_over}
use Rattle.sheets_back.specs.Feeds.{snoc}
use Rattle.sheets_back.proofs.Short.{pause_short, good_short}
use Rattle.tapline.specs.Line.{longest, is_tap_line}
use Rattle.printing.specs.Printing.{bad_text}
use Rattle.recording.specs.declared.Play.{Play}
use Rattle.recording.specs.Recording.{most_taps}
use Rattle.recording.specs.Step.{Stepped, ended_at, stepped, finished, run_text}
use Rattle.recorded.proofs.Steps.{ended_is_silent}
use Rattle.player.specs.Feed.{played_held, lines_with, text_room, is_whole, is_cut}
use Rattle.fedtext.proofs.Held.{end_as, held_text}

-- A LINE THAT IS NO TAP and no pause ends the play, with the same words whatever stands in it
record Neither (l : List ℕ) : Type 0 where
  tap : is_tap_line l ≡ false
  pause : is_pause_line l ≡ false

abbrev pub stop_text : Play → List ℕ
stop_text y = cond y.ended [] (bad_text (line_after y.paused y.taps))

abbrev pub stop : Play → List ℕ → Stepped
stop y m = record { play = ended_at y; image = m; text = stop_text y }

neither : (y : Play) (m l : List ℕ) → Neither l → stepped y m l ≡ stop y m
unfolding stepped
neither y m l e = go y.ended refl
  where
    go : (c : Bool) → y.ended ≡ c → stepped y m l ≡ stop y m
    go true f = rw f
    go false f =
        rw (f, e.pause, and_false (not y.paused), and_false (eqb y.taps 0), e.tap, and_false (ltb y.taps most_taps))

run_stops : (y : Play) (m l : List ℕ) (ls : List (List ℕ)) → Neither l → run_text y m (l ∷ ls) ≡ stop_text y
unfolding run_text
run_stops y m l ls e =
    ap (λ z. z.text ++ run_text z.play z.image ls) (neither y m l e)
    ∙ ap (λ (t : List ℕ). stop_text y ++ t) (ended_is_silent y m ls)
    ∙ append-nil (stop_text y)

-- after the sheet no more line feeds are counted, and what is held is a line
lines_stay : (b : ℕ) → lines_with b sheet_lines ≡ sheet_lines
unfolding lines_with
lines_stay b = rw (sheet_over, and_false (eqb b 10))

line_held : (y : Play) (v m : List ℕ) → played_held y sheet_lines v m ≡ stepped y m v
unfolding played_held
line_held y v m = rw sheet_over

line_end : (y : Play) (v m : List ℕ) → end_as y sheet_lines v m ≡ cond (ltb 0 (length v)) (stepped y m v) (finished y m)
unfolding is_cut played_held
line_end y v m = rw sheet_over

-- bytes after the end of a play print nothing
pub held_silent : (y : Play) (v m s : List ℕ) → held_text (ended_at y) sheet_lines v m s ≡ []
unfolding held_text stepped finished
held_silent y v m [] = ap (λ z. z.text) (line_end (ended_at y) v m) ∙ go (ltb 0 (length v))
  where
    go : (c : Bool) → (cond c (stepped (ended_at y) m v) (finished (ended_at y) m)).text ≡ []
    go true = refl
    go false = refl
held_silent y v m (b ∷ s) =
    rw (line_held (ended_at y) (snoc v b) m)
    (by_cases (λ (t : List ℕ). t ≡ []) (is_whole sheet_lines (length (snoc v b)) b) {x = held_text (ended_at y) sheet_lines [] m s}
    {y = held_text (ended_at y) (lines_with b sheet_lines) (snoc v b) m s}
    (λ _. held_silent y [] m s)
    (λ _. ap (λ (n : ℕ). held_text (ended_at y) n (snoc v b) m s) (lines_stay b) ∙ held_silent y (snoc v b) m s))

-- BYTES WITHOUT A LINE FEED
abbrev pub NoFeed : List ℕ → Type 0
NoFeed v = all_of (other 10) v ≡ true

pub no_feed : NoFeed []
unfolding all_of
no_feed = refl

pub snoc_no_feed : (v : List ℕ) (b : ℕ) → NoFeed v → eqb b 10 ≡ false → NoFeed (snoc v b)
unfolding all_of
snoc_no_feed [] b h e = rw e
snoc_no_feed (x ∷ v) b h e = let z = both_true (other 10 x) (all_of (other 10) v) h in rw z.0 (snoc_no_feed v b z.1 e)

-- the lines of a text that begins with them
lines_past : (v s : List ℕ) → NoFeed v → lines_of (v ++ (10 ∷ s)) ≡ snoc v 10 ∷ lines_of s
unfolding lines_of all_of before
lines_past [] s h = refl
lines_past (x ∷ v) s h =
    let z = both_true (other 10 x) (all_of (other 10) v) h in
    rw (not-true (eqb x 10) z.0) (ap (before x) (lines_past v s z.1))

lines_alone : (x : ℕ) (v : List ℕ) → NoFeed (x ∷ v) → lines_of (x ∷ v) ≡ (x ∷ v) ∷ []
unfolding lines_of all_of before
lines_alone x [] h = let z = both_true (other 10 x) true h in rw (not-true (eqb x 10) z.0)
lines_alone x (w ∷ v) h =
    let z = both_true (other 10 x) (all_of (other 10) (w ∷ v)) h in
    rw (not-true (eqb x 10) z.0) (ap (before x) (lines_alone w v z.1))

-- the first line begins with v
abbrev Starts : List ℕ → List (List ℕ) → Type 0
Starts v ls = (l : List ℕ) × (ks : List (List ℕ)) × (ls ≡ (v ++ l) ∷ ks)

before_starts : (x : ℕ) (v : List ℕ) (ls : List (List ℕ)) → Starts v ls → Starts (x ∷ v) (before x ls)
unfolding before
before_starts x v ls z = (z.0, z.1, ap (before x) z.2)

before_some : (x : ℕ) (ls : List (List ℕ)) → Starts (x ∷ []) (before x ls)
unfolding before
before_some x [] = ([], [], refl)
before_some x (l ∷ ls) = (l, ls, refl)

lines_start : (x : ℕ) (v s : List ℕ) → NoFeed (x ∷ v) → Starts (x ∷ v) (lines_of ((x ∷ v) ++ s))
unfolding lines_of all_of
lines_start x [] s h = let z = both_true (other 10 x) true h in rw (not-true (eqb x 10) z.0) (before_some x (lines_of s))
lines_start x (w ∷ v) s h =
    let z = both_true (other 10 x) (all_of (other 10) (w ∷ v)) h in
    rw (not-true (eqb x 10) z.0) (before_starts x (w ∷ v) (lines_of ((w ∷ v) ++ s)) (lines_start w v s z.1))

-- they are no line of a tap, and no pause
scan_over : (v r : List ℕ) → NoFeed v → length_to 10 (v ++ r) ≡ length v + length_to 10 r
unfolding length_to all_of
scan_over [] r h = omega arith
scan_over (x ∷ v) r h =
    let z = both_true (other 10 x) (all_of (other 10) v) h in
    rw (not-true (eqb x 10) z.0) (omega (arith, scan_over v r z.1))

nothing_to_scan : length_to 10 [] ≡ 0
unfolding length_to
nothing_to_scan = refl

unended : (v : List ℕ) → NoFeed v → Neither v
unfolding is_tap_line is_pause_line good_line ended head_to
unended v h =
    let n : length_to 10 v ≡ length v = ap (length_to 10) (sym (append-nil v)) ∙ omega (arith, scan_over v [] h, nothing_to_scan) in
    let k : length v ≤ length (take (length_to 10 v) v) = omega (arith, n, length-take (length_to 10 v) v) in
    record { tap = rw (le-ltb _ _ k); pause = rw (le-ltb _ _ k) }

too_long : (v r : List ℕ) → NoFeed v → text_room ≤ length v → Neither (v ++ r)
unfolding is_tap_line is_pause_line head_to
too_long v r h k = record { tap = rw (lt-leb _ _ long) (and_false (ended l)); pause = go (is_pause_line l) refl }
  where
    l : List ℕ
    l = v ++ r

    long : longest < length (take (length_to 10 l) l)
    long = omega (arith, scan_over v r h, length-take (length_to 10 l) l, length-append v r)

    go : (b : Bool) → is_pause_line l ≡ b → is_pause_line l ≡ false
    go true e = absurd (omega (arith, good_short pause_row pause_short l e, long))
    go false e = e

-- WHEN A LINE IS WHOLE: at its line feed, and at one byte too many
module _ (n b : ℕ) where
  at_feed : eqb b 10 ≡ true → is_whole sheet_lines n b ≡ true
  unfolding is_whole
  at_feed e = rw (e, lines_stay b, sheet_over) (or_true (leb text_room n))

  at_full : eqb b 10 ≡ false → is_whole sheet_lines n b ≡ leb text_room n
  unfolding is_whole
  at_full e = rw e (go (leb text_room n))
    where
      go : (c : Bool) → (c || false) ≡ c
      go true = refl
      go false = refl

-- the end of the bytes
at_last : (y : Play) (v m : List ℕ) → NoFeed v → held_text y sheet_lines v m [] ≡ run_text y m (lines_of v)
unfolding held_text lines_of run_text
at_last y [] m h = ap (λ z. z.text) (line_end y [] m)
at_last y (x ∷ v) m h =
    ap (λ z. z.text) (line_end y (x ∷ v) m)
    ∙ ap (λ (c : Bool). (cond c (stepped y m (x ∷ v)) (finished y m)).text) (lt-ltb 0 (length (x ∷ v)) (omega arith))
    ∙ ap (λ z. z.text) (neither y m (x ∷ v) (unended (x ∷ v) h))
    ∙ sym (ap (run_text y m) (lines_alone x v h) ∙ run_stops y m (x ∷ v) [] (unended (x ∷ v) h))

-- ONE MORE BYTE, where the bytes after it print what their lines print
module _ (y : Play) (v m : List ℕ) (b : ℕ) (s : List ℕ) (h : NoFeed v) where
  -- it is a line feed
  by_feed :
      eqb b 10 ≡ true → ((z : Stepped) → held_text z.play sheet_lines [] z.image s ≡ run_text z.play z.image (lines_of s))
      → held_text y sheet_lines v m (b ∷ s) ≡ run_text y m (lines_of (v ++ (b ∷ s)))
  unfolding held_text run_text
  by_feed e ih =
      let z : Stepped = stepped y m (snoc v b) in
      let k : lines_of (v ++ (b ∷ s)) ≡ snoc v b ∷ lines_of s = rw (eqb-true b 10 e) (lines_past v s h) in
      rw (at_feed (length (snoc v b)) b e, line_held y (snoc v b) m) (ap (λ (t : List ℕ). z.text ++ t) (ih z) ∙ ap (run_text y m) (sym k))

  -- it is one byte too many
  by_full : eqb b 10 ≡ false → leb text_room (length (snoc v b)) ≡ true → held_text y sheet_lines v m (b ∷ s) ≡ stop_text y
  unfolding held_text
  by_full e f =
      rw (at_full (length (snoc v b)) b e, f, line_held y (snoc v b) m)
      (ap (λ z. z.text ++ held_text z.play sheet_lines [] z.image s) (neither y m (snoc v b) (unended (snoc v b) (snoc_no_feed v b h e)))
      ∙ ap (λ (t : List ℕ). stop_text y ++ t) (held_silent y [] m s)
      ∙ append-nil (stop_text y))

  -- it is held
  by_hold : eqb b 10 ≡ false → leb text_room (length (snoc v b)) ≡ false → held_text y sheet_lines v m (b ∷ s) ≡ held_text y sheet_lines (snoc v b) m s
  unfolding held_text
  by_hold e f = rw (at_full (length (snoc v b)) b e, f) (ap (λ (n : ℕ). held_text y n (snoc v b) m s) (lines_stay b))

run_long : (y : Play) (v m s : List ℕ) → NoFeed v → text_room ≤ length v → run_text y m (lines_of (v ++ s)) ≡ stop_text y
run_long y [] m s h k = absurd (omega arith)
run_long y (x ∷ v) m s h k =
    let z = lines_start x v s h in
    ap (run_text y m) z.2 ∙ run_stops y m ((x ∷ v) ++ z.0) z.1 (too_long (x ∷ v) z.0 h k)

-- THE BYTES AFTER THE SHEET print what their lines print, whatever they are and whatever has been played
pub after_sheet_lem : (y : Play) (v m s : List ℕ) → NoFeed v → held_text y sheet_lines v m s ≡ run_text y m (lines_of (v ++ s))
after_sheet_lem y v m [] h = at_last y v m h ∙ ap (λ (t : List ℕ). run_text y m (lines_of t)) (sym (append-nil v))
after_sheet_lem y v m (b ∷ s) h =
    go (eqb b 10) (leb text_room (length (snoc v b))) refl refl (λ z. after_sheet_lem z.play [] z.image s no_feed) (after_sheet_lem y (snoc v b) m s)
  where
    same : snoc v b ++ s ≡ v ++ (b ∷ s)
    same = append_assoc v (b ∷ []) s

    go :
        (c d : Bool) → eqb b 10 ≡ c → leb text_room (length (snoc v b)) ≡ d
        → ((z : Stepped) → held_text z.play sheet_lines [] z.image s ≡ run_text z.play z.image (lines_of s))
        → (NoFeed (snoc v b) → held_text y sheet_lines (snoc v b) m s ≡ run_text y m (lines_of (snoc v b ++ s)))
        → held_text y sheet_lines v m (b ∷ s) ≡ run_text y m (lines_of (v ++ (b ∷ s)))
    go true d e f ih₁ ih₂ = by_feed y v m b s h e ih₁
    go false true e f ih₁ ih₂ =
        by_full y v m b s h e f
        ∙ sym (run_long y (snoc v b) m s (snoc_no_feed v b h e) (leb-true text_room (length (snoc v b)) f))
        ∙ ap (λ (t : List ℕ). run_text y m (lines_of t)) same
    go false false e f ih₁ ih₂ = by_hold y v m b s h e f ∙ ih₂ (snoc_no_feed v b h e) ∙ ap (λ (t : List ℕ). run_text y m (lines_of t)) same
