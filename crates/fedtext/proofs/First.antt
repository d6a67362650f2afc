-- THE SHEET FIRST: bytes that come one by one up to the last line feed of the lines that must be there are they, and those that are cut before it hold
-- its first bad line. Assumes nothing.
use Prim.Native.Nat.{ℕ, suc}
use native.Mathlib.Omega.{arith}
use mathlib.Core.Path.{◌≡◌, refl, sym, ap, ap₂, ◌∙◌}
use mathlib.Core.Bool.{Bool, true, false, cond, not, ◌&&◌}
use mathlib.Core.List.{List, [], ◌∷◌, ◌++◌, append_assoc, append-nil}
use lib.ListN.{length}
use lib.Dec.{leb, eqb}
use borrow.Author.Tests.{leb-true, ne_eqb, eqb-true, not-true, not-false}
use Rattle.wire.proofs.Laws.{both_true, or_true}
use Rattle.text.specs.Lines.{lines_of}
use Rattle.sheet.specs.Sheet.{sheet_lines, first_bad, belongs, required_in, after_required}
use Rattle.sheets_back.specs.Feeds.{feeds, snoc}
use Rattle.sheets_back.proofs.Early.{bad_unended, bad_early}
use Rattle.sheets_back.proofs.Parted.{snoc_feeds, required_is, lines_after, required_begins, required_all}
use Rattle.printing.specs.Printing.{bad_text}
use Rattle.recording.specs.Step.{Stepped, stopped, start, started, run_text, steps_text}
use Rattle.recorded.proofs.Steps.{ended_is_silent}
use Rattle.player.specs.Feed.{played_held, lines_with, text_room, is_whole, is_cut}
use Rattle.fedtext.proofs.Held.{end_as, held_text}
use Rattle.fedtext.proofs.Later.{held_silent, no_feed, after_sheet_lem}

-- ONE BYTE MORE of the sheet is counted as its lines are
counted : (v : List ℕ) (b : ℕ) → belongs (feeds v) ≡ true → lines_with b (feeds v) ≡ feeds (snoc v b)
unfolding lines_with
counted v b h = rw h (go (eqb b 10) (snoc_feeds v b))
  where
    go : (c : Bool) → feeds (snoc v b) ≡ cond c (suc (feeds v)) (feeds v) → cond (c && true) (suc (feeds v)) (feeds v) ≡ feeds (snoc v b)
    go true e = sym e
    go false e = sym e

-- a line feed after which no more line belongs to the sheet
abbrev is_last : List ℕ → ℕ → Bool
is_last v b = eqb b 10 && not (belongs (lines_with b (feeds v)))

-- after any other byte the next line still does
still_first : (v : List ℕ) (b : ℕ) → belongs (feeds v) ≡ true → is_last v b ≡ false → belongs (feeds (snoc v b)) ≡ true
still_first v b h e = go (eqb b 10) (snoc_feeds v b) e
  where
    go :
        (c : Bool) → feeds (snoc v b) ≡ cond c (suc (feeds v)) (feeds v) → (c && not (belongs (lines_with b (feeds v)))) ≡ false
        → belongs (feeds (snoc v b)) ≡ true
    go true f e = ap belongs (sym (counted v b h)) ∙ not-false (belongs (lines_with b (feeds v))) e
    go false f e = ap belongs f ∙ h

-- A BAD SHEET prints its number, and nothing after it
started_bad : (v m : List ℕ) → (first_bad v ≡ 0 → ⊥) → started v m ≡ stopped start m (first_bad v)
unfolding started
started_bad v m f = rw (ne_eqb _ _ f)

steps_bad : (m t : List ℕ) → (first_bad (required_in t) ≡ 0 → ⊥) → steps_text m t ≡ bad_text (first_bad (required_in t))
unfolding steps_text
steps_bad m t f =
    ap (λ z. z.text ++ run_text z.play z.image (after_required t)) (started_bad (required_in t) m f)
    ∙ ap (λ (l : List ℕ). bad_text (first_bad (required_in t)) ++ l) (ended_is_silent start m (after_required t))
    ∙ append-nil (bad_text (first_bad (required_in t)))

-- what is held is played as the sheet
as_sheet : (n : ℕ) (w m : List ℕ) → belongs n ≡ true → played_held start n w m ≡ started w m
unfolding played_held
as_sheet n w m h = rw h

sheet_end : (n : ℕ) (w m : List ℕ) → belongs n ≡ true → end_as start n w m ≡ started w m
unfolding is_cut played_held
sheet_end n w m h = rw h

-- the end of the bytes
cut_end : (v m : List ℕ) → belongs (feeds v) ≡ true → held_text start (feeds v) v m [] ≡ steps_text m v
unfolding held_text
cut_end v m h =
    let e = required_all v h in
    let f = bad_unended v h in
    let g : first_bad (required_in v) ≡ 0 → ⊥ = λ z. f (ap first_bad (sym e) ∙ z) in
    ap (λ z. z.text) (sheet_end (feeds v) v m h ∙ started_bad v m f) ∙ ap (λ (l : List ℕ). bad_text (first_bad l)) (sym e) ∙ sym (steps_bad m v g)

-- ONE MORE BYTE of the sheet
module _ (v m : List ℕ) (b : ℕ) (s : List ℕ) (h : belongs (feeds v) ≡ true) where
  abbrev w : List ℕ
  w = snoc v b

  same : w ++ s ≡ v ++ (b ∷ s)
  same = append_assoc v (b ∷ []) s

  -- what is whole is played as the sheet, and the bytes after it are lines
  turns :
      is_whole (feeds v) (length w) b ≡ true
      → held_text start (feeds v) v m (b ∷ s) ≡ (started w m).text ++ held_text (started w m).play sheet_lines [] (started w m).image s
  unfolding held_text
  turns e = rw e (ap (λ z. z.text ++ held_text z.play sheet_lines [] z.image s) (as_sheet (feeds v) w m h))

  -- it is the last line feed
  by_last : is_last v b ≡ true → held_text start (feeds v) v m (b ∷ s) ≡ steps_text m (v ++ (b ∷ s))
  unfolding is_whole steps_text feeds
  by_last e =
      let f = both_true (eqb b 10) (not (belongs (lines_with b (feeds v)))) e in
      let c : b ≡ 10 = eqb-true b 10 f.0 in
      let n : lines_with b (feeds v) ≡ suc (feeds v) = counted v b h ∙ snoc_feeds v b ∙ ap (λ (d : Bool). cond d (suc (feeds v)) (feeds v)) f.0 in
      let k : belongs (suc (feeds v)) ≡ false = ap belongs (sym n) ∙ not-true (belongs (lines_with b (feeds v))) f.1 in
      let z : Stepped = started w m in
      let x : required_in (v ++ (b ∷ s)) ≡ w = rw c (required_is v s h k) in
      let y : after_required (v ++ (b ∷ s)) ≡ lines_of s = rw c (lines_after v s h k) in
      turns (rw e (or_true (leb text_room (length w))))
      ∙ ap (λ (t : List ℕ). z.text ++ t) (after_sheet_lem z.play [] z.image s no_feed)
      ∙ sym (ap₂ (λ (l : List ℕ) (ls : List (List ℕ)). (started l m).text ++ run_text (started l m).play (started l m).image ls) x y)

  module _ (e : is_last v b ≡ false) where
    -- it is one byte too many
    by_full : leb text_room (length w) ≡ true → held_text start (feeds v) v m (b ∷ s) ≡ steps_text m (v ++ (b ∷ s))
    unfolding is_whole
    by_full f =
        let k = still_first v b h e in
        let z = required_begins w s k in
        let x = bad_unended w k in
        let l = leb-true text_room (length w) f in
        let n : first_bad (required_in (w ++ s)) ≡ first_bad w = ap first_bad z.1 ∙ sym (bad_early w z.0 (omega arith)) in
        turns (rw f)
        ∙ ap (λ z. z.text ++ held_text z.play sheet_lines [] z.image s) (started_bad w m x)
        ∙ ap (λ (t : List ℕ). bad_text (first_bad w) ++ t) (held_silent start [] m s)
        ∙ append-nil (bad_text (first_bad w))
        ∙ ap bad_text (sym n)
        ∙ sym (steps_bad m (w ++ s) (λ q. x (sym n ∙ q)))
        ∙ ap (steps_text m) same

    -- it is held
    by_hold :
        leb text_room (length w) ≡ false → held_text start (feeds w) w m s ≡ steps_text m (w ++ s)
        → held_text start (feeds v) v m (b ∷ s) ≡ steps_text m (v ++ (b ∷ s))
    unfolding is_whole held_text
    by_hold f ih = rw (f, e) (ap (λ (n : ℕ). held_text start n w m s) (counted v b h) ∙ ih ∙ ap (steps_text m) same)

-- ALL BYTES from within the sheet on print what the steps print, whatever they are
pub sheet_first : (v m s : List ℕ) → belongs (feeds v) ≡ true → held_text start (feeds v) v m s ≡ steps_text m (v ++ s)
sheet_first v m [] h = cut_end v m h ∙ ap (steps_text m) (sym (append-nil v))
sheet_first v m (b ∷ s) h = go (is_last v b) (leb text_room (length (snoc v b))) refl refl (sheet_first (snoc v b) m s)
  where
    go :
        (c d : Bool) → is_last v b ≡ c → leb text_room (length (snoc v b)) ≡ d
        → (belongs (feeds (snoc v b)) ≡ true → held_text start (feeds (snoc v b)) (snoc v b) m s ≡ steps_text m (snoc v b ++ s))
        → held_text start (feeds v) v m (b ∷ s) ≡ steps_text m (v ++ (b ∷ s))
    go true d e f ih = by_last v m b s h e
    go false true e f ih = by_full v m b s h e f
    go false false e f ih = by_hold v m b s h e f (ih (still_first v b h e))
