-- Laws of the marks: a mark is one bit of a word behind the places, so it touches no place and no other mark. Assumes nothing.
use Prim.Native.Nat.{ℕ, zero, suc, ◌+◌, ◌-◌, ◌*◌, ◌/◌, ◌%◌, ◌^◌, ◌<◌}
use native.Mathlib.Nat.{div_self, div-eq_of_lt, mod-lt, mul-mod_left, one-mul, pow-suc}
use native.Mathlib.Omega.{arith}
use native.Mathlib.Decide.{ℕ_discrete}
use mathlib.Core.Path.{◌≡◌, refl, sym, ap, ◌∙◌}
use mathlib.Core.List.{List}
use mathlib.Core.Bool.{Bool, true, false, cond, ◌&&◌}
use lib.ListN.{length, get_or, set, length-set}
use lib.Seq.{get_or-set_same, get_or-set_other}
use lib.Bits.{bit_or, or_zero_l, or_zero_r, or_self, or_shr, or_mod}
use lib.Pow.{pow_pos, pow-lt, pow-add, shl-shr, shl_exact}
use lib.Dec.{ltb, eqb}
use borrow.Author.Tests.{ltb-true, ltb-false, eqb-true, eq-eqb}
use Rattle.wire.proofs.Laws.{by_cases, both_true}
use Rattle.sent.specs.Sent.{places, words, packed, mark_word, marked, with_mark, unmarked, noted}

-- ONE BIT of a word
abbrev bit : ℕ → ℕ → ℕ
bit w k = w / 2 ^ k % 2

or_one : (x : ℕ) → x < 2 → bit_or x 1 ≡ 1
or_one zero h = or_zero_l 1
or_one (suc zero) h = or_self 1
or_one (suc (suc x)) h = absurd (omega (arith, h))

bit_set : (w k : ℕ) → bit (bit_or w (2 ^ k)) k ≡ 1
bit_set w k =
    ap (λ x. x % 2) (or_shr w (2 ^ k) k ∙ ap (bit_or (w / 2 ^ k)) (div_self (pow_pos k)))
    ∙ or_mod (w / 2 ^ k) 1 1 ∙ or_one (w / 2 ^ k % 2) (mod-lt (w / 2 ^ k) (omega arith))

-- a power of two has one bit alone
above : (d k : ℕ) → bit (2 ^ (suc d + k)) k ≡ 0
above d k = ap (λ x. x / 2 ^ k % 2) (pow-add 2 (suc d) k) ∙ ap (λ x. x % 2) (shl-shr (2 ^ suc d) k) ∙ ap (λ x. x % 2) (pow-suc 2 d) ∙ mul-mod_left (2 ^ d) 2

below : (j k : ℕ) → j < k → bit (2 ^ j) k ≡ 0
below j k h = ap (λ x. x % 2) (div-eq_of_lt (pow-lt h))

other_bit : (j k : ℕ) → (j ≡ k → ⊥) → bit (2 ^ j) k ≡ 0
other_bit j k h = go (ltb j k) refl
  where
    go : (c : Bool) → ltb j k ≡ c → bit (2 ^ j) k ≡ 0
    go true e = below j k (ltb-true j k e)
    go false e =
        let m : k < j = omega (arith, ltb-false j k e, h) in
        let q : j ≡ suc (j - k - 1) + k = omega (arith, m) in
        ap (λ i. bit (2 ^ i) k) q ∙ above (j - k - 1) k

bit_stays : (w j k : ℕ) → (j ≡ k → ⊥) → bit (bit_or w (2 ^ j)) k ≡ bit w k
bit_stays w j k h =
    ap (λ x. x % 2) (or_shr w (2 ^ j) k) ∙ or_mod (w / 2 ^ k) (2 ^ j / 2 ^ k) 1
    ∙ ap (bit_or (w / 2 ^ k % 2)) (other_bit j k h) ∙ or_zero_r (w / 2 ^ k % 2)

-- as a machine's word has it
pub shifted : (k : ℕ) → k < 32 → 1 * 2 ^ k % 4294967296 ≡ 2 ^ k
shifted k h = shl_exact {a = 1} 1 k 32 (omega arith) (omega (arith, h)) ∙ one-mul (2 ^ k)

-- and none is set in 0
pub no_bit : (k : ℕ) → bit 0 k ≡ 0
no_bit k = ap (λ x. x % 2) (div-eq_of_lt (pow_pos k))

-- THE MARKS stand behind the places
pub mark_length : (l : List ℕ) (u : ℕ) → length (with_mark l u) ≡ length l
unfolding with_mark
mark_length l u = simp length-set

pub place_stays : (l : List ℕ) (u : ℕ) {t : ℕ} → t < places → get_or (with_mark l u) t 0 ≡ get_or l t 0
unfolding with_mark
place_stays l u {t} h = get_or-set_other l (mark_word u) t _ 0 (λ q. omega (arith, q, h))

pub mark_stays : (l : List ℕ) (t : ℕ) {u : ℕ} (x : ℕ) → u < places → marked (set l u x) t ≡ marked l t
unfolding marked
mark_stays l t {u} x h = ap (λ w. eqb (bit w (t % 32)) 1) (get_or-set_other l u (mark_word t) x 0 (λ q. omega (arith, q, h)))

module _ (l : List ℕ) (h : length l ≡ words) where
  pub is_marked : {t : ℕ} → t < places → marked (with_mark l t) t ≡ true
  unfolding marked with_mark
  is_marked {t} k =
      let e = get_or-set_same l (mark_word t) (bit_or (get_or l (mark_word t) 0) (2 ^ (t % 32))) 0 (omega (arith, h, k)) in
      ap (λ w. eqb (bit w (t % 32)) 1) e ∙ eq-eqb _ _ (bit_set (get_or l (mark_word t) 0) (t % 32))

  pub other_marked : {t u : ℕ} → t < places → u < places → (u ≡ t → ⊥) → marked (with_mark l u) t ≡ marked l t
  unfolding marked with_mark
  other_marked {t} {u} k m n = go (ℕ_discrete (u / 32) (t / 32))
    where
      w : ℕ
      w = bit_or (get_or l (mark_word u) 0) (2 ^ (u % 32))

      go : Dec (u / 32 ≡ t / 32) → eqb (bit (get_or (set l (mark_word u) w) (mark_word t) 0) (t % 32)) 1 ≡ eqb (bit (get_or l (mark_word t) 0) (t % 32)) 1
      go (yes e) =
          let s = get_or-set_same l (mark_word u) w 0 (omega (arith, h, m)) in
          let g = ap (λ x. get_or (set l (mark_word u) w) (places + x) 0) (sym e) in
          ap (λ x. eqb (bit x (t % 32)) 1) (g ∙ s) ∙ ap (λ x. eqb x 1) (bit_stays (get_or l (mark_word u) 0) (u % 32) (t % 32) (λ q. n (omega (arith, e, q))))
          ∙ ap (λ x. eqb (bit (get_or l (places + x) 0) (t % 32)) 1) e
      go (no e) = ap (λ x. eqb (bit x (t % 32)) 1) (get_or-set_other l (mark_word u) (mark_word t) w 0 (λ q. e (omega (arith, q))))

-- where every word of them is 0 no tag is marked
pub none_marked : (l : List ℕ) {t : ℕ} → t < places → unmarked l ≡ true → marked l t ≡ false
unfolding marked
none_marked l {t} h e = go (t / 32) refl
  where
    a : Bool
    a = eqb (get_or l places 0) 0

    b : Bool
    b = eqb (get_or l (places + 1) 0) 0

    c : Bool
    c = eqb (get_or l (places + 2) 0) 0

    empty : (x : ℕ) → eqb x 0 ≡ true → eqb (bit x (t % 32)) 1 ≡ false
    empty x z = rw (eqb-true x 0 z, no_bit (t % 32))

    go : (k : ℕ) → t / 32 ≡ k → eqb (bit (get_or l (places + k) 0) (t % 32)) 1 ≡ false
    go zero i = empty (get_or l places 0) (both_true a b (both_true (a && b) c e).0).0
    go (suc zero) i = empty (get_or l (places + 1) 0) (both_true a b (both_true (a && b) c e).0).1
    go (suc (suc zero)) i = empty (get_or l (places + 2) 0) (both_true (a && b) c e).1
    go (suc (suc (suc k))) i = absurd (omega (arith, i, h))

-- what is noted and marked leaves their number as it is
pub noted_length : (l : List ℕ) (u b n : ℕ) → length (noted l u b n) ≡ length l
unfolding noted
noted_length l u b n =
    by_cases (λ (m : List ℕ). length m ≡ length l) (ltb u places) {x = cond (eqb (get_or l u 0) 0) (set l u (packed b n)) (with_mark l u)} {y = l}
    (λ e. by_cases (λ (m : List ℕ). length m ≡ length l) (eqb (get_or l u 0) 0) {x = set l u (packed b n)} {y = with_mark l u}
    (λ e. simp length-set) (λ e. mark_length l u))
    (λ e. refl)
