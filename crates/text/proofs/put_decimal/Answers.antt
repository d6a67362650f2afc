use Rattle.std.proofs.Common.{◌≡◌, ℕ, ◌+◌, ◌-◌, ◌/◌, ◌%◌, ◌≤◌, ◌<◌, List, ◌∷◌, ◌++◌, length, append_assoc, arith, ap, Fits, w32}
use lib.ListN.{take, drop, set, length-append, length-drop, length-set}
use lib.Seq.{take_all}
use Rattle.std.proofs.lemmas.List.{drop-set}
use Rattle.text.specs.Text.{decimal_of}
use Rattle.text.proofs.Laws.{decimal_small, decimal_more, decimal_some, ten_digits}
use Rattle.text.proofs.put_decimal.Goals as goal

-- m is what is left of n, whose other digits stand from i on: there is a place for one more digit, and it goes there
module _ (n m i : ℕ) (l : List ℕ) (e : decimal_of n ≡ decimal_of m ++ drop i l) (z : length l ≡ 10) (k : i ≤ 10) (h : Fits w32 n) where
  some_place : 1 ≤ i
  some_place = omega (arith, ten_digits n (omega (arith, h)), decimal_some m, simp (length-append, length-drop) at (ap length e))

  placed : (d : ℕ) → drop (i - 1) (set l (i - 1) d) ≡ d ∷ drop i l
  placed d =
      let p = some_place in
      let j : i - 1 + 1 ≡ i = omega arith in
      rw (drop-set l (i - 1) d (omega arith), j)

  turned : 10 ≤ m → decimal_of n ≡ decimal_of (m / 10) ++ drop (i - 1) (set l (i - 1) (48 + m % 10))
  turned q = let d : m % 10 + 48 ≡ 48 + m % 10 = omega arith in rw (placed (48 + m % 10), e, decimal_more m q, d, append_assoc)

  ended : m < 10 → take (10 - (i - 1)) (drop (i - 1) (set l (i - 1) (48 + m % 10))) ≡ decimal_of n
  ended q =
      let d : m + 48 ≡ 48 + m % 10 = omega arith in
      let s = drop (i - 1) (set l (i - 1) (48 + m % 10)) in
      rw (take_all (10 - (i - 1)) s (simp (length-drop, length-set) (omega arith)), placed (48 + m % 10), e, decimal_small m q, d)

pub overflow_sub-first : goal.overflow_sub-first
overflow_sub-first c = let v = c.loop-left.invariant in some_place _ _ _ _ v.2 v.1 v.0 c.ranges.n

pub loop-left-smaller : goal.loop-left-smaller
loop-left-smaller c = let v = c.loop-left.invariant in let p = some_place _ _ _ _ v.2 v.1 v.0 c.ranges.n in omega arith

pub loop-left-preserved : goal.loop-left-preserved
loop-left-preserved c = let v = c.loop-left.invariant in
    (omega arith, simp length-set v.1, turned _ _ _ _ v.2 v.1 v.0 c.ranges.n (omega (arith, c.if-left-eq0.false)))

pub returns : goal.returns
returns c = let v = c.loop-left.invariant in
    rw (ended c.args.n c.loop-left.left c.loop-left.first c.loop-left.digits v.2 v.1 v.0 c.ranges.n (omega (arith, c.if-left-eq0.true))) at c.put_bytes.ensures
