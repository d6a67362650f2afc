-- The walk over the lines of a sheet, and a file that begins with a sheet. Assumes nothing.
use Prim.Native.Nat.{ℕ, suc, ◌+◌, ◌-◌, ◌≤◌, ◌<◌}
use native.Mathlib.Omega.{arith}
use native.Mathlib.Numerals.{add-one}
use mathlib.Core.Path.{◌≡◌, refl}
use mathlib.Core.List.{List}
use mathlib.Core.Bool.{Bool, true, false, cond}
use lib.ListN.{length}
use lib.Dec.{ltb}
use borrow.Author.Tests.{ltb-true}
use Rattle.wire.proofs.Laws.{both_true}
use Rattle.text.specs.Lines.{start_of, from_line, ended}
use Rattle.sheet.specs.Sheet.{Row, sheet_lines, optional, row_of, good_row}
use Rattle.sheet.specs.Sheet.{name_in, value_in, good_line, bad_after, bad_from, belongs, is_pause_line, size_with, line_after}

-- THE WALK over the lines that must be there
module _ (k : ℕ) (s : List ℕ) (h : 1 ≤ k) (h' : k ≤ sheet_lines) where
  pub bad_here : good_line (row_of k) (from_line k s) ≡ false → bad_from (suc sheet_lines - k) k s ≡ k
  unfolding bad_from
  bad_here e = let n : suc sheet_lines - k ≡ suc (sheet_lines - k) = omega arith in rw (n, e)

  pub bad_on : good_line (row_of k) (from_line k s) ≡ true → bad_from (suc sheet_lines - k) k s ≡ bad_from (suc sheet_lines - (k + 1)) (k + 1) s
  unfolding bad_from
  bad_on e = let n : suc sheet_lines - k ≡ suc (suc sheet_lines - suc k) = omega arith in rw (n, e, add-one)

-- after the last line that must be there: a good pause is one line more, and what follows is bad where bytes stand there
module _ (k : ℕ) (s : List ℕ) where
  pub bad_paused : is_pause_line (from_line k s) ≡ true → bad_from 0 k s ≡ cond (ltb (start_of (suc k) s) (length s)) (suc k) 0
  unfolding bad_from bad_after optional is_pause_line
  bad_paused e = rw e

  pub bad_end : is_pause_line (from_line k s) ≡ false → bad_from 0 k s ≡ cond (ltb (start_of k s) (length s)) k 0
  unfolding bad_from bad_after optional is_pause_line
  bad_end e = rw e

-- a good line has its line feed
pub is_ended : (r : Row) (s : List ℕ) → good_line r s ≡ true → ended s ≡ true
unfolding good_line
is_ended r s e = (both_true (ended s) (good_row r (name_in s) (value_in s)) e).0

-- A FILE THAT BEGINS WITH A SHEET: how many lines still belong to it, and which numbers the lines after it have
pub belongs_few : (n : ℕ) → belongs n ≡ true → n < sheet_lines
unfolding belongs
belongs_few n e = ltb-true n sheet_lines e

pub sheet_begun : belongs 0 ≡ true
unfolding belongs
sheet_begun = refl

pub sheet_over : belongs sheet_lines ≡ false
unfolding belongs
sheet_over = refl

pub after_more : (p : Bool) (n : ℕ) → line_after p (suc n) ≡ suc (line_after p n)
unfolding line_after
after_more p n = omega arith

pub after_pause : (n : ℕ) → line_after true n ≡ suc (line_after false n)
unfolding line_after size_with
after_pause n = omega arith

pub after_some : (p : Bool) (n : ℕ) → line_after p n ≡ 0 → ⊥
unfolding line_after
after_some p n e = omega arith
