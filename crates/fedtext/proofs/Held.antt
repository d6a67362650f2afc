-- BYTES ARE HELD in a buffer as a list is: feeding byte by byte, by the list of the bytes that are held alone. Assumes nothing.
use Prim.Native.Nat.{ℕ, suc, ◌+◌, ◌≤◌, ◌<◌}
use native.Mathlib.Omega.{arith}
use native.Mathlib.Numerals.{add-one}
use mathlib.Core.Path.{◌≡◌, refl, sym, ap, ap₂, ◌∙◌}
use mathlib.Core.List.{List, [], ◌∷◌, ◌++◌}
use mathlib.Core.Bool.{Bool, true, false, cond, not, ◌&&◌, ◌||◌}
use lib.ListN.{length, take, drop, length-append}
use lib.Seq.{take_at, length-take-le}
use lib.Dec.{leb, eqb}
use borrow.Author.Tests.{leb-false}
use Rattle.wire.specs.Wire.{part, put, fit, placed}
use Rattle.wire.proofs.Laws.{either, has_room, length_put, part_plain, part_none}
use Rattle.sheet.specs.Sheet.{sheet_lines, belongs}
use Rattle.sheets_back.specs.Feeds.{snoc}
use Rattle.recording.specs.declared.Play.{Play}
use Rattle.recording.specs.Step.{Stepped, finished}
use Rattle.player.specs.declared.Player.{Player}
use Rattle.player.specs.Feed.{after, played_held, lines_with, text_room, is_whole, held_with, is_cut}
use Rattle.fedtext.specs.Whole.{more, fed_text}

-- the end, with the bytes that are held as a list
abbrev pub end_as : Play → ℕ → List ℕ → List ℕ → Stepped
end_as y lines v m = cond (is_cut lines (length v)) (played_held y lines v m) (finished y m)

unfoldable pub held_text : Play → ℕ → List ℕ → List ℕ → List ℕ → List ℕ
held_text y lines v m [] = (end_as y lines v m).text
held_text y lines v m (b ∷ s) =
    cond (is_whole lines (length (snoc v b)) b)
    ((played_held y lines (snoc v b) m).text ++ held_text (played_held y lines (snoc v b) m).play sheet_lines [] (played_held y lines (snoc v b) m).image s)
    (held_text y (lines_with b lines) (snoc v b) m s)

-- ONE MORE BYTE in the buffer: there is room for it
module _ (text : List ℕ) (n b : ℕ) (h : n < length text) where
  one_fits : fit text n (b ∷ []) ≡ put text n (b ∷ [])
  unfolding fit
  one_fits = rw (has_room (length text) n 1 (omega arith))

  pub one_placed : placed text n (b ∷ []) ≡ suc n
  unfolding placed
  one_placed = rw (has_room (length text) n 1 (omega arith)) (add-one n)

  pub one_length : length (fit text n (b ∷ [])) ≡ length text
  one_length = ap length one_fits ∙ length_put text n (b ∷ []) (omega arith)

  pub one_held : part (fit text n (b ∷ [])) 0 (suc n) ≡ snoc (part text 0 n) b
  unfolding put
  one_held =
      let t : List ℕ = fit text n (b ∷ []) in
      let e : length (take n text ++ (b ∷ [])) ≡ suc n = length-append (take n text) (b ∷ []) ∙ omega (arith, length-take-le n text (omega arith)) in
      part_plain t 0 (suc n) (omega (arith, one_length))
      ∙ ap (take (suc n)) one_fits
      ∙ take_at (take n text ++ (b ∷ [])) (drop (n + 1) text) (suc n) e
      ∙ ap (λ (v : List ℕ). snoc v b) (sym (part_plain text 0 n (omega arith)))

not_full : (lines n b : ℕ) → is_whole lines n b ≡ false → n < text_room
unfolding is_whole
not_full lines n b e = go (leb text_room n) refl e
  where
    go : (c : Bool) → leb text_room n ≡ c → (c || (eqb b 10 && not (belongs (lines_with b lines)))) ≡ false → n < text_room
    go true f e = let z : leb text_room n ≡ false = f ∙ e in leb-false text_room n z
    go false f e = leb-false text_room n f

fed_step :
    (p : Player) (text v m : List ℕ) (b : ℕ) (s : List ℕ) → part text 0 p.held ≡ v → p.held < length text
    → (let z : Stepped = played_held p.play p.lines (snoc v b) m in
    fed_text p text m (b ∷ s)
    ≡ cond (is_whole p.lines (suc p.held) b) (z.text ++ fed_text (after z.play) (more p b text) z.image s)
    (fed_text (held_with p b (suc p.held)) (more p b text) m s))
unfolding fed_text
fed_step p text v m b s e h =
    let t : List ℕ = more p b text in
    let k = one_placed text p.held b h in
    let z : List ℕ → Stepped = λ w. played_held p.play p.lines w m in
    ap₂
    (λ (n : ℕ) (w : List ℕ). cond (is_whole p.lines n b) ((z w).text ++ fed_text (after (z w).play) t (z w).image s) (fed_text (held_with p b n) t m s))
    k
    (ap (part t 0) k ∙ one_held text p.held b h ∙ ap (λ (w : List ℕ). snoc w b) e)

-- THE BUFFER HOLDS THE LIST, whatever the bytes to come
pub buffer_holds :
    (p : Player) (text v m s : List ℕ) → part text 0 p.held ≡ v → length v ≡ p.held → p.held < text_room → text_room ≤ length text
    → fed_text p text m s ≡ held_text p.play p.lines v m s
unfolding fed_text held_text
buffer_holds p text v m [] e l h r =
    ap₂ (λ (n : ℕ) (w : List ℕ). (cond (is_cut p.lines n) (played_held p.play p.lines w m) (finished p.play m)).text) (sym l) e
buffer_holds p text v m (b ∷ s) e l h r =
    let z : Stepped = played_held p.play p.lines (snoc v b) m in
    let t : List ℕ = more p b text in
    let x : p.held < length text = omega arith in
    let k : text_room ≤ length t = omega (arith, one_length text p.held b x) in
    let n : suc p.held ≡ length (snoc v b) = omega (arith, length-append v (b ∷ []), l) in
    let g = one_held text p.held b x ∙ ap (λ (w : List ℕ). snoc w b) e in
    fed_step p text v m b s e x
    ∙ either (is_whole p.lines (suc p.held) b)
    (λ _. ap (λ (w : List ℕ). z.text ++ w) (buffer_holds (after z.play) t [] z.image s (part_none t 0) refl (omega arith) k))
    (λ f. buffer_holds (held_with p b (suc p.held)) t (snoc v b) m s g (sym n) (not_full p.lines (suc p.held) b f) k)
    ∙ ap
    (λ (j : ℕ).
    cond (is_whole p.lines j b) (z.text ++ held_text z.play sheet_lines [] z.image s)
    (held_text p.play (lines_with b p.lines) (snoc v b) m s))
    n
