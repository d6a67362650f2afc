-- What the callers of `noteline` cite, and its own proofs: which values fit their places, and how long a line can be. Assumes nothing.
use Prim.Native.Nat.{ℕ, ◌+◌, ◌*◌, ◌/◌, ◌%◌, ◌≤◌, ◌<◌}
use native.Mathlib.Omega.{arith}
use native.Mathlib.Decide.{dec_lt}
use mathlib.Core.Path.{◌≡◌}
use mathlib.Core.List.{List, [], ◌∷◌}
use mathlib.Core.Bool.{Bool, true, ◌&&◌}
use lib.ListN.{length, length-append}
use lib.Dec.{ltb}
use borrow.Author.Tests.{ltb-true}
use Rattle.wire.specs.Wire.{joined}
use Rattle.wire.proofs.Laws.{both_true, part_most}
use Rattle.text.specs.Text.{decimal_of}
use Rattle.text.proofs.Laws.{decimal_small, decimal_more}
use Rattle.notes.specs.declared.Note.{Note}
use Rattle.notes.specs.Notes.{good_of, text_good}
use Rattle.noteline.specs.NoteLine.{line_of}

-- THE NOTE of these values, where they fit their places
abbrev pub fitting : ℕ → ℕ → List ℕ → Bool
fitting t n w = ltb t 256 && (ltb n 65536 && ltb (length w) 61)

module _ (t n h : ℕ) (w : List ℕ) where
  pub fits : fitting t n w ≡ true → (t < 256) × (n < 65536) × (length w < 61)
  fits e =
      let p = both_true (ltb t 256) (ltb n 65536 && ltb (length w) 61) e in
      let q = both_true (ltb n 65536) (ltb (length w) 61) p.1 in
      (ltb-true t 256 p.0, ltb-true n 65536 q.0, ltb-true (length w) 61 q.1)

-- HOW MANY DIGITS a number has
more_digits : (k m : ℕ) → ((n : ℕ) → n < m → length (decimal_of n) ≤ k) → (n : ℕ) → n < 10 * m → length (decimal_of n) ≤ k + 1
more_digits k m h n p = go (dec_lt n 10)
  where
    go : Dec (n < 10) → length (decimal_of n) ≤ k + 1
    go (yes x) = rw (decimal_small n x) (omega arith)
    go (no x) =
        let y : 10 ≤ n = omega (arith, x) in
        let z : n / 10 < m = omega arith in
        rw (decimal_more n y, length-append (decimal_of (n / 10)) ((n % 10 + 48) ∷ [])) (omega (arith, h (n / 10) z))

one_digit : (n : ℕ) → n < 10 → length (decimal_of n) ≤ 1
one_digit n h = rw (decimal_small n h) (omega arith)

pub three_digits : (n : ℕ) → n < 1000 → length (decimal_of n) ≤ 3
three_digits = more_digits 2 100 (more_digits 1 10 one_digit)

pub five_digits : (n : ℕ) → n < 100000 → length (decimal_of n) ≤ 5
five_digits = more_digits 4 10000 (more_digits 3 1000 three_digits)

six_digits : (n : ℕ) → n < 1000000 → length (decimal_of n) ≤ 6
six_digits = more_digits 5 100000 five_digits

-- THE LONGEST LINE: 3, 5 and 6 digits, 60 bytes of text, three tabs and a line feed
good_values : (x : Note) → good_of x ≡ true → (x.hours < 1000000) × (x.len < 61)
unfolding good_of
good_values x e =
    let p = both_true ((ltb 0 x.number && ltb x.hours 1000000) && (ltb 0 x.len && ltb x.len 61)) (text_good x.text x.len) e in
    let q = both_true (ltb 0 x.number && ltb x.hours 1000000) (ltb 0 x.len && ltb x.len 61) p.0 in
    let a = both_true (ltb 0 x.number) (ltb x.hours 1000000) q.0 in
    let b = both_true (ltb 0 x.len) (ltb x.len 61) q.1 in
    (ltb-true x.hours 1000000 a.1, ltb-true x.len 61 b.1)

pub line_short : (x : Note) → good_of x ≡ true → x.tablet < 256 → x.number < 65536 → length (line_of x) ≤ 78
unfolding line_of joined
line_short x e h k =
    let g = good_values x e in
    let a = three_digits x.tablet (omega arith) in
    let b = five_digits x.number (omega arith) in
    let c = six_digits x.hours g.0 in
    let d = part_most x.text 0 x.len in
    simp length-append (omega (arith, a, b, c, d, g.1))
