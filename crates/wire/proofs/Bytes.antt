-- LISTS OF BYTES: put together and taken apart, their parts, zeros, numbers. Assumes nothing.
use Prim.Native.Nat.{ℕ, zero, suc, ◌+◌, ◌-◌, ◌/◌, ◌%◌, ◌<◌}
use native.Mathlib.Omega.{arith}
use mathlib.Core.Path.{sym, subst}
use mathlib.Core.List.{List, [], ◌∷◌, ◌++◌}
use lib.ListN.{length, take, drop, replicate, take-append-drop}
use lib.Dec.{leb}
use Rattle.wire.specs.Wire.{part, put, fit, room, pad, num32, be2, be4, Bytes}
use Rattle.wire.proofs.Laws.{by_cases}

pub bytes_none : Bytes []
bytes_none i = omega arith

bytes_cons : (x : ℕ) (l : List ℕ) → x < 256 → Bytes l → Bytes (x ∷ l)
bytes_cons x l e b zero = e
bytes_cons x l e b (suc i) = b i

-- side by side, and each side
pub bytes_append : (a b : List ℕ) → Bytes a → Bytes b → Bytes (a ++ b)
bytes_append [] b x y = y
bytes_append (n ∷ a) b x y = bytes_cons n (a ++ b) (x 0) (bytes_append a b (λ i. x (suc i)) y)

pub bytes_left : (a b : List ℕ) → Bytes (a ++ b) → Bytes a
bytes_left [] b x = bytes_none
bytes_left (n ∷ a) b x = bytes_cons n a (x 0) (bytes_left a b (λ i. x (suc i)))

pub bytes_right : (a b : List ℕ) → Bytes (a ++ b) → Bytes b
bytes_right [] b x = x
bytes_right (n ∷ a) b x = bytes_right a b (λ i. x (suc i))

-- parts
pub bytes_take : (n : ℕ) (l : List ℕ) → Bytes l → Bytes (take n l)
bytes_take n l b = bytes_left (take n l) (drop n l) (subst Bytes (sym (take-append-drop n l)) b)

pub bytes_drop : (n : ℕ) (l : List ℕ) → Bytes l → Bytes (drop n l)
bytes_drop n l b = bytes_right (take n l) (drop n l) (subst Bytes (sym (take-append-drop n l)) b)

pub bytes_part : (l : List ℕ) (at n : ℕ) → Bytes l → Bytes (part l at n)
unfolding part
bytes_part l at n b =
    by_cases Bytes (leb at (length l))
    (λ _. by_cases Bytes (leb n (length l - at)) (λ _. bytes_take n (drop at l) (bytes_drop at l b)) (λ _. bytes_none))
    (λ _. bytes_none)

-- zeros, and what is padded with them
pub bytes_zeros : (n : ℕ) → Bytes (replicate n 0)
bytes_zeros zero = bytes_none
bytes_zeros (suc n) = bytes_cons 0 (replicate n 0) (omega arith) (bytes_zeros n)

pub bytes_pad : (n : ℕ) (x : List ℕ) → Bytes x → Bytes (pad n x)
unfolding fit put
bytes_pad n x b =
    let z : List ℕ = replicate n 0 in
    by_cases Bytes (room (length z) 0 (length x)) {x = put z 0 x} {y = z}
    (λ _. bytes_append x (drop (0 + length x) z) b (bytes_drop (0 + length x) z (bytes_zeros n)))
    (λ _. bytes_zeros n)

-- numbers in two bytes and in four
two_bytes : (x y : ℕ) → x < 256 → y < 256 → Bytes (x ∷ y ∷ [])
two_bytes x y a b = bytes_cons x (y ∷ []) a (bytes_cons y [] b bytes_none)

pub bytes_be2 : (n : ℕ) → n < 65536 → Bytes (be2 n)
bytes_be2 n l = two_bytes (n / 256) (n % 256) (omega arith) (omega arith)

pub bytes_be4 : (n : ℕ) → n < 4294967296 → Bytes (be4 n)
bytes_be4 n l =
    bytes_append (n / 16777216 ∷ n / 65536 % 256 ∷ []) (n / 256 % 256 ∷ n % 256 ∷ [])
    (two_bytes (n / 16777216) (n / 65536 % 256) (omega arith) (omega arith))
    (two_bytes (n / 256 % 256) (n % 256) (omega arith) (omega arith))

pub num32_most : (l : List ℕ) → Bytes l → num32 l 0 < 4294967296
num32_most l b = omega (arith, b 0, b 1, b 2, b 3)
