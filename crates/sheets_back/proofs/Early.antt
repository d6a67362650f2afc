-- THE FIRST BAD LINE IS FOUND EARLY: a long text has its first bad line within it, however it goes on. Assumes nothing.
use Prim.Native.Nat.{ℕ, zero, suc, ◌+◌, ◌-◌, ◌*◌, ◌≤◌, ◌<◌}
use native.Mathlib.Omega.{arith}
use native.Mathlib.Decide.{dec_lt}
use mathlib.Core.Path.{◌≡◌, refl, sym, ap, ap₂, ◌∙◌}
use mathlib.Core.Bool.{Bool, true, false, cond, ◌&&◌}
use mathlib.Core.List.{List, [], ◌∷◌, ◌++◌}
use lib.ListN.{length, take, drop, length-append, length-take, length-drop}
use lib.Seq.{take-append-le, drop-append-le}
use lib.Dec.{ltb, eqb}
use borrow.Author.Tests.{lt-ltb, le-ltb}
use Rattle.wire.proofs.Laws.{either}
use Rattle.text.specs.Lines.{length_to, head_to, tail_after, start_of, from_line, ended}
use Rattle.text.proofs.LineLaws.{ended_within, next_is_tail, tail_on, tail_here}
use Rattle.sheet.specs.Sheet.{Row, pause_row, sheet_lines, optional, row_of, good_row, good_line, bad_after, bad_from, first_bad, belongs, is_pause_line}
use Rattle.sheet.proofs.Laws.{is_ended, belongs_few}
use Rattle.sheets_back.specs.Feeds.{feeds}
use Rattle.sheets_back.proofs.Short.{Short, row_short, pause_short, good_short}

-- THE WALK over the text that is left, line by line, and what follows the lines
abbrev pub end_in : ℕ → List ℕ → ℕ
end_in k t = cond (ltb 0 (length t)) k 0

unfoldable pub bad_in : ℕ → ℕ → List ℕ → ℕ
bad_in zero k t = cond (is_pause_line t) (end_in (suc k) (tail_after 10 t)) (end_in k t)
bad_in (suc n) k t = cond (good_line (row_of k) t) (bad_in n (suc k) (tail_after 10 t)) k

some_left : (a b : ℕ) → ltb a b ≡ ltb 0 (b - a)
some_left a b = go (dec_lt a b)
  where
    go : Dec (a < b) → ltb a b ≡ ltb 0 (b - a)
    go (yes h) = let x : 0 < b - a = omega arith in lt-ltb a b h ∙ sym (lt-ltb 0 (b - a) x)
    go (no h) = let x : b ≤ a = omega (arith, h) in let z : b - a ≤ 0 = omega arith in le-ltb a b x ∙ sym (le-ltb 0 (b - a) z)

ends : (k j : ℕ) (s : List ℕ) → cond (ltb (start_of j s) (length s)) k 0 ≡ end_in k (from_line j s)
unfolding from_line
ends k j s = ap (λ (c : Bool). cond c k 0) (some_left (start_of j s) (length s) ∙ ap (ltb 0) (sym (length-drop (start_of j s) s)))

pub walks : (n k : ℕ) (s : List ℕ) → 1 ≤ k → bad_from n k s ≡ bad_in n k (from_line k s)
unfolding bad_from bad_after optional bad_in is_pause_line
walks zero k s h =
    either (good_line pause_row (from_line k s))
    (λ _. ends (suc k) (suc k) s ∙ ap (end_in (suc k)) (sym (next_is_tail k s h)))
    (λ _. ends k k s)
walks (suc n) k s h =
    either (good_line (row_of k) (from_line k s))
    (λ _. walks n (suc k) s (omega arith) ∙ ap (bad_in n (suc k)) (sym (next_is_tail k s h)))
    (λ _. refl)

-- A TEXT WITH A LINE FEED: its first line stays the same, however the text goes on
feed_tail : (t : List ℕ) → length_to 10 t < length t → feeds t ≡ suc (feeds (tail_after 10 t))
unfolding feeds length_to
feed_tail [] h = absurd (omega arith)
feed_tail (b ∷ t) h = go (eqb b 10) refl h (feed_tail t)
  where
    go :
        (c : Bool) → eqb b 10 ≡ c → cond c 0 (suc (length_to 10 t)) < suc (length t)
        → (length_to 10 t < length t → feeds t ≡ suc (feeds (tail_after 10 t)))
        → cond c (suc (feeds t)) (feeds t) ≡ suc (feeds (tail_after 10 (b ∷ t)))
    go true e h ih = ap (λ (l : List ℕ). suc (feeds l)) (sym (tail_here 10 b t e))
    go false e h ih = ih (omega arith) ∙ ap (λ (l : List ℕ). suc (feeds l)) (sym (tail_on 10 b t e))

scan_within : (t r : List ℕ) → length_to 10 t < length t → length_to 10 (t ++ r) ≡ length_to 10 t
unfolding length_to
scan_within [] r h = absurd (omega arith)
scan_within (b ∷ t) r h = go (eqb b 10) h (scan_within t r)
  where
    go :
        (c : Bool) → cond c 0 (suc (length_to 10 t)) < suc (length t) → (length_to 10 t < length t → length_to 10 (t ++ r) ≡ length_to 10 t)
        → cond c 0 (suc (length_to 10 (t ++ r))) ≡ cond c 0 (suc (length_to 10 t))
    go true h ih = refl
    go false h ih = ap suc (ih (omega arith))

within_ended : (t : List ℕ) → length_to 10 t < length t → ended t ≡ true
unfolding ended head_to
within_ended t h =
    let x : length (take (length_to 10 t) t) < length t = omega (arith, length-take (length_to 10 t) t) in
    lt-ltb (length (take (length_to 10 t) t)) (length t) x

module _ (t r : List ℕ) (h : length_to 10 t < length t) where
  head_same : head_to 10 (t ++ r) ≡ head_to 10 t
  unfolding head_to
  head_same = ap (λ (n : ℕ). take n (t ++ r)) (scan_within t r h) ∙ take-append-le (length_to 10 t) t r (omega arith)

  tail_same : tail_after 10 (t ++ r) ≡ tail_after 10 t ++ r
  unfolding tail_after
  tail_same = ap (λ (n : ℕ). drop (n + 1) (t ++ r)) (scan_within t r h) ∙ drop-append-le (length_to 10 t + 1) t r (omega arith)

  ended_same : ended (t ++ r) ≡ ended t
  ended_same = within_ended (t ++ r) (omega (arith, scan_within t r h, length-append t r)) ∙ sym (within_ended t h)

  line_same : (w : Row) → good_line w (t ++ r) ≡ good_line w t
  unfolding good_line
  line_same w = ap₂ (λ (c : Bool) (l : List ℕ). c && good_row w (head_to 9 l) (tail_after 9 l)) ended_same head_same

-- A TEXT WITHOUT ONE: its line is bad as it is, and bad too where it goes on, as it is too long
scan_more : (t r : List ℕ) → length_to 10 t ≤ length_to 10 (t ++ r)
unfolding length_to
scan_more [] r = omega arith
scan_more (b ∷ t) r = go (eqb b 10) (scan_more t r)
  where
    go : (c : Bool) → length_to 10 t ≤ length_to 10 (t ++ r) → cond c 0 (suc (length_to 10 t)) ≤ cond c 0 (suc (length_to 10 (t ++ r)))
    go true h = omega arith
    go false h = omega arith

module _ (w : Row) (x : Short w) (t r : List ℕ) (h : length t ≤ length_to 10 t) where
  bad_open : good_line w t ≡ false
  bad_open = go (good_line w t) refl
    where
      go : (c : Bool) → good_line w t ≡ c → good_line w t ≡ false
      go true e = absurd (omega (arith, ended_within t (is_ended w t e), h))
      go false e = e

  bad_long : 80 ≤ length t → good_line w (t ++ r) ≡ false
  unfolding head_to
  bad_long l = go (good_line w (t ++ r)) refl
    where
      go : (c : Bool) → good_line w (t ++ r) ≡ c → good_line w (t ++ r) ≡ false
      go true e =
          absurd (omega (arith, good_short w x (t ++ r) e, scan_more t r, length-take (length_to 10 (t ++ r)) (t ++ r), length-append t r, h, l))
      go false e = e

-- what is left after a good line
tail_long : (w : Row) → Short w → (t : List ℕ) → good_line w t ≡ true → length t ≤ length (tail_after 10 t) + 74
unfolding head_to tail_after
tail_long w x t e = omega (arith, good_short w x t e, length-take (length_to 10 t) t, length-drop (length_to 10 t + 1) t)

-- ONE LINE of a long text, and of the same with more after it
line_alike :
    (w : Row) → Short w → (t r : List ℕ) (f g : List ℕ → ℕ) → 80 ≤ length t
    → (good_line w t ≡ true → f (tail_after 10 t) ≡ f (tail_after 10 t ++ r)) → g t ≡ g (t ++ r)
    → cond (good_line w t) (f (tail_after 10 t)) (g t) ≡ cond (good_line w (t ++ r)) (f (tail_after 10 (t ++ r))) (g (t ++ r))
line_alike w x t r f g l a b = go (dec_lt (length_to 10 t) (length t))
  where
    go :
        Dec (length_to 10 t < length t)
        → cond (good_line w t) (f (tail_after 10 t)) (g t) ≡ cond (good_line w (t ++ r)) (f (tail_after 10 (t ++ r))) (g (t ++ r))
    go (yes y) =
        either (good_line w t) (λ e. a e ∙ ap f (sym (tail_same t r y))) (λ _. b)
        ∙ ap (λ (c : Bool). cond c (f (tail_after 10 (t ++ r))) (g (t ++ r))) (sym (line_same t r y w))
    go (no y) =
        let o : length t ≤ length_to 10 t = omega (arith, y) in
        ap (λ (c : Bool). cond c (f (tail_after 10 t)) (g t)) (bad_open w x t r o)
        ∙ b
        ∙ sym (ap (λ (c : Bool). cond c (f (tail_after 10 (t ++ r))) (g (t ++ r))) (bad_long w x t r o l))

-- where bytes stand, more of them change nothing
end_some : (k : ℕ) (t : List ℕ) → 0 < length t → end_in k t ≡ k
end_some k t h = ap (λ (c : Bool). cond c k 0) (lt-ltb 0 (length t) h)

end_alike : (k : ℕ) (t r : List ℕ) → 0 < length t → end_in k t ≡ end_in k (t ++ r)
end_alike k t r h = end_some k t h ∙ sym (end_some k (t ++ r) (omega (arith, h, length-append t r)))

-- THE WALK over a long text, with 74 bytes for each line and room for one that may follow, and over the same with more after it
walks_alike : (n k : ℕ) (t r : List ℕ) → 74 * n + 80 < length t → bad_in n k t ≡ bad_in n k (t ++ r)
unfolding bad_in is_pause_line
walks_alike zero k t r l =
    line_alike pause_row pause_short t r (end_in (suc k)) (end_in k) (omega (arith, l))
    (λ e. end_alike (suc k) (tail_after 10 t) r (omega (arith, tail_long pause_row pause_short t e, l)))
    (end_alike k t r (omega (arith, l)))
walks_alike (suc n) k t r l =
    line_alike (row_of k) (row_short k) t r (bad_in n (suc k)) (λ _. k) (omega (arith, l))
    (λ e. walks_alike n (suc k) (tail_after 10 t) r (omega (arith, tail_long (row_of k) (row_short k) t e, l)))
    refl

-- it has a bad line
walks_far : (n k : ℕ) (t : List ℕ) → 1 ≤ k → 74 * n + 80 < length t → bad_in n k t ≡ 0 → ⊥
unfolding bad_in is_pause_line
walks_far zero k t h l e = go (good_line pause_row t) refl e
  where
    go : (c : Bool) → good_line pause_row t ≡ c → cond c (end_in (suc k) (tail_after 10 t)) (end_in k t) ≡ 0 → ⊥
    go true g e = let x : 0 < length (tail_after 10 t) = omega (arith, tail_long pause_row pause_short t g, l) in omega (arith, end_some (suc k) (tail_after 10 t) x, e)
    go false g e = let x : 0 < length t = omega (arith, l) in omega (arith, end_some k t x, e, h)
walks_far (suc n) k t h l e = go (good_line (row_of k) t) refl e (walks_far n (suc k) (tail_after 10 t) (omega arith))
  where
    go :
        (c : Bool) → good_line (row_of k) t ≡ c → cond c (bad_in n (suc k) (tail_after 10 t)) k ≡ 0
        → (74 * n + 80 < length (tail_after 10 t) → bad_in n (suc k) (tail_after 10 t) ≡ 0 → ⊥) → ⊥
    go true g e ih = ih (omega (arith, tail_long (row_of k) (row_short k) t g, l)) e
    go false g e ih = omega (arith, e, h)

-- too few line feeds: a line is bad
walks_bad : (n k : ℕ) (t : List ℕ) → 1 ≤ k → feeds t < n → bad_in n k t ≡ 0 → ⊥
unfolding bad_in
walks_bad zero k t h l e = absurd (omega arith)
walks_bad (suc n) k t h l e = go (good_line (row_of k) t) refl e (walks_bad n (suc k) (tail_after 10 t) (omega arith))
  where
    go :
        (c : Bool) → good_line (row_of k) t ≡ c → cond c (bad_in n (suc k) (tail_after 10 t)) k ≡ 0
        → (feeds (tail_after 10 t) < n → bad_in n (suc k) (tail_after 10 t) ≡ 0 → ⊥) → ⊥
    go true g e ih = ih (omega (arith, feed_tail t (ended_within t (is_ended (row_of k) t g)), l)) e
    go false g e ih = omega (arith, e, h)

-- THE FIRST BAD LINE of a sheet to which a line still belongs: there is one
pub bad_unended : (t : List ℕ) → belongs (feeds t) ≡ true → first_bad t ≡ 0 → ⊥
unfolding first_bad from_line start_of
bad_unended t h e = walks_bad sheet_lines 1 t (omega arith) (belongs_few (feeds t) h) (sym (walks sheet_lines 1 t (omega arith)) ∙ e)

-- THE FIRST BAD LINE of a sheet with more than 80 bytes for each line: it is the same one, however the sheet goes on
pub bad_early : (t r : List ℕ) → 80 * sheet_lines < length t → first_bad t ≡ first_bad (t ++ r)
unfolding first_bad from_line start_of
bad_early t r l = walks sheet_lines 1 t (omega arith) ∙ walks_alike sheet_lines 1 t r (omega (arith, l)) ∙ sym (walks sheet_lines 1 (t ++ r) (omega arith))

-- and there is one
pub bad_far : (t : List ℕ) → 80 * sheet_lines < length t → first_bad t ≡ 0 → ⊥
unfolding first_bad from_line start_of
bad_far t l e = walks_far sheet_lines 1 t (omega arith) (omega (arith, l)) (sym (walks sheet_lines 1 t (omega arith)) ∙ e)
