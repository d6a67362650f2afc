-- A list and its parts: what stands at a place is read off field by field (`peel`), and the parts side by side are the list (`beside`). Assumes nothing.
use mathlib.Core.Path.{◌≡◌, refl, sym, ap, ◌∙◌}
use mathlib.Core.List.{List, ◌∷◌, ◌++◌, append-nil}
use mathlib.Core.Bool.{true}
use Prim.Native.Nat.{ℕ, zero, suc, ◌+◌, ◌-◌, ◌/◌, ◌%◌, ◌≤◌, ◌<◌}
use native.Mathlib.Omega.{arith}
use lib.ListN.{length, take, drop, get_or, replicate, length-append, length-drop, length-replicate}
use lib.Seq.{take_at, drop_at, drop-drop, drop-cons, take-add, take_all, get_or-drop}
use lib.Dec.{lit<}
use Rattle.wire.specs.Wire.{part, put, fit, room, pad, num16, num32, be1, be2, be4, all_zero, Bytes}
use Rattle.wire.proofs.Laws.{by_cases, length_put, padded, part_plain, has_room, room_true}

-- LENGTHS: what is padded has its length, whatever it is padded from
pub length_pad : (n : ℕ) (x : List ℕ) → length (pad n x) ≡ n
unfolding fit
length_pad n x =
    let z : List ℕ = replicate n 0 in
    by_cases (λ (l : List ℕ). length l ≡ n) (room (length z) 0 (length x)) {x = put z 0 x} {y = z}
    (λ e. length_put z 0 x (room_true (length z) 0 (length x) e) ∙ length-replicate n 0)
    (λ e. length-replicate n 0)

pub pad_whole : (n : ℕ) (x : List ℕ) → length x ≡ n → pad n x ≡ x
pad_whole n x h =
    let k : length x ≤ n = omega arith in
    let z : n - length x ≡ 0 = omega arith in
    padded n x k ∙ rw z (append-nil x)

-- what was padded is found again, and after it room that is zero
pub part_pad : (n : ℕ) (x : List ℕ) → length x ≤ n → part (pad n x) 0 (length x) ≡ x
part_pad n x h =
    let z : List ℕ = replicate (n - length x) 0 in
    let k : 0 + length x ≤ length (x ++ z) = omega (arith, length-append x z) in
    rw (padded n x h) (part_plain (x ++ z) 0 (length x) k ∙ take_at x z (length x) refl)

pub there_and_back : (n : ℕ) (x : List ℕ) → length x ≤ n → part (put (replicate n 0) 0 x) 0 (length x) ≡ x
unfolding fit
there_and_back n x h =
    let l = length-replicate {A = ℕ} n 0 in
    let r = has_room (length {A = ℕ} (replicate n 0)) 0 (length x) (omega arith) in
    rw r at (part_pad n x h)

pub drop_pad : (n : ℕ) (x : List ℕ) → length x ≤ n → drop (length x) (pad n x) ≡ replicate (n - length x) 0
drop_pad n x h = rw (padded n x h) (drop_at x (replicate (n - length x) 0) (length x) refl)

pub zeros : (n : ℕ) → all_zero (replicate n 0) ≡ true
unfolding all_zero
zeros zero = refl
zeros (suc n) = zeros n

pub pad_room : (n : ℕ) (x : List ℕ) → length x ≤ n → all_zero (drop (length x) (pad n x)) ≡ true
pad_room n x h = rw (drop_pad n x h) (zeros (n - length x))

-- READING BACK: l from n on is f, of w elements, and then rest
within : (l : List ℕ) (n w : ℕ) (f rest : List ℕ) → drop n l ≡ f ++ rest → length f ≡ w → 0 < w → n + w ≤ length l
within l n w f rest e k h =
    let a : length l - n ≡ length f + length rest = sym (length-drop n l) ∙ ap length e ∙ length-append f rest in
    omega arith

-- f is the part there, and rest stands after it
pub peel : (l : List ℕ) (n w : ℕ) (f rest : List ℕ) → drop n l ≡ f ++ rest → length f ≡ w → 0 < w → (part l n w ≡ f) × (drop (n + w) l ≡ rest)
peel l n w f rest e k h = (
  part_plain l n w (within l n w f rest e k h) ∙ rw e (take_at f rest w k),
  sym (drop-drop w n l) ∙ rw e (drop_at f rest w k),
)

-- the element at n + i, where l from n on is known
at : (l : List ℕ) (n i : ℕ) (m : List ℕ) → drop n l ≡ m → get_or l (n + i) 0 ≡ get_or m i 0
at l n i m e = sym (get_or-drop n l i 0) ∙ ap (λ (k : List ℕ). get_or k i 0) e

pub peel8 : (l : List ℕ) (n x : ℕ) (rest : List ℕ) → drop n l ≡ be1 x ++ rest → (get_or l n 0 ≡ x) × (drop (n + 1) l ≡ rest)
peel8 l n x rest e = ((let z : n ≡ n + 0 = omega arith in ap (λ (k : ℕ). get_or l k 0) z) ∙ at l n 0 _ e, (peel l n 1 (be1 x) rest e refl (lit< tt)).1)

pub peel16 : (l : List ℕ) (n x : ℕ) (rest : List ℕ) → drop n l ≡ be2 x ++ rest → (num16 l n ≡ x) × (drop (n + 2) l ≡ rest)
peel16 l n x rest e = (
  (let a = (peel8 l n (x / 256) (x % 256 ∷ rest) e).0 in
      let b = at l n 1 _ e in
      rw (a, b) (omega arith)),
  (peel l n 2 (be2 x) rest e refl (lit< tt)).1,
)

pub peel32 : (l : List ℕ) (n x : ℕ) (rest : List ℕ) → drop n l ≡ be4 x ++ rest → (num32 l n ≡ x) × (drop (n + 4) l ≡ rest)
peel32 l n x rest e = (
  (let a = (peel8 l n (x / 16777216) (x / 65536 % 256 ∷ x / 256 % 256 ∷ x % 256 ∷ rest) e).0 in
      let b = at l n 1 _ e in
      let c = at l n 2 _ e in
      let d = at l n 3 _ e in
      rw (a, b, c, d) (omega arith)),
  (peel l n 4 (be4 x) rest e refl (lit< tt)).1,
)

-- A LIST FROM ITS PARTS: two parts side by side are one
pub beside : (l : List ℕ) (n w v : ℕ) {f g : List ℕ} → f ≡ take w (drop n l) → g ≡ take v (drop (n + w) l) → f ++ g ≡ take (w + v) (drop n l)
beside l n w v e k = (λ i. e i ++ k i) ∙ rw (← drop-drop w n l) (sym (take-add w v (drop n l)))

pub whole_part : (l : List ℕ) (n : ℕ) → length l ≡ n → take n (drop 0 l) ≡ l
whole_part l n h = take_all n l (omega arith)

module _ (l : List ℕ) (n : ℕ) (b : Bytes l) where
  pub part8 : n + 1 ≤ length l → be1 (get_or l n 0) ≡ take 1 (drop n l)
  part8 h = rw (drop-cons l n 0 (omega arith))

  pub part16 : n + 2 ≤ length l → be2 (num16 l n) ≡ take 2 (drop n l)
  part16 h =
      let e : n + 1 ≡ suc n = omega arith in
      let b0 = b n in
      let b1 = b (n + 1) in
      let x0 : num16 l n / 256 ≡ get_or l n 0 = omega arith in
      let x1 : num16 l n % 256 ≡ get_or l (n + 1) 0 = omega arith in
      rw (x0, x1, drop-cons l n 0 (omega arith), drop-cons l (suc n) 0 (omega arith), e)

  pub part32 : n + 4 ≤ length l → be4 (num32 l n) ≡ take 4 (drop n l)
  part32 h =
      let e1 : n + 1 ≡ suc n = omega arith in
      let e2 : n + 2 ≡ suc (suc n) = omega arith in
      let e3 : n + 3 ≡ suc (suc (suc n)) = omega arith in
      let b0 = b n in
      let b1 = b (n + 1) in
      let b2 = b (n + 2) in
      let b3 = b (n + 3) in
      let x0 : num32 l n / 16777216 ≡ get_or l n 0 = omega arith in
      let x1 : num32 l n / 65536 % 256 ≡ get_or l (n + 1) 0 = omega arith in
      let x2 : num32 l n / 256 % 256 ≡ get_or l (n + 2) 0 = omega arith in
      let x3 : num32 l n % 256 ≡ get_or l (n + 3) 0 = omega arith in
      rw (
        x0,
        x1,
        x2,
        x3,
        drop-cons l n 0 (omega arith),
        drop-cons l (suc n) 0 (omega arith),
        drop-cons l (suc (suc n)) 0 (omega arith),
        drop-cons l (suc (suc (suc n))) 0 (omega arith),
        e1,
        e2,
        e3,
      )
