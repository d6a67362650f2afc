-- What the callers of `text` cite: hex and decimal spell back what they were made of. Assumes nothing.
use Prim.Native.Nat.{ℕ, zero, suc, ◌+◌, ◌-◌, ◌*◌, ◌/◌, ◌%◌, ◌≤◌, ◌<◌}
use native.Mathlib.Omega.{arith}
use native.Mathlib.Numerals.{add-one}
use native.Mathlib.Decide.{dec_lt}
use mathlib.Core.Path.{◌≡◌, refl, sym, ap, ap₂, ◌∙◌}
use mathlib.Core.List.{List, [], ◌∷◌, ◌++◌}
use mathlib.Core.Bool.{Bool, true, false, cond, ◌&&◌}
use lib.ListN.{length, drop, get_or, set, length-append, drop_of_length-le, get_or-append}
use lib.Seq.{drop-cons, paste, paste-suc}
use lib.Dec.{ltb, eqb}
use borrow.Author.Tests.{lt-ltb, le-ltb, le-leb, lt-leb, ne_eqb}
use Rattle.wire.proofs.Laws.{or_true}
use Rattle.wire.specs.Wire.{Bytes}
use Rattle.text.specs.Text.{all_of, hex_value, is_hex_digit, is_hex, pair_value, unhex, hex_digit}
use Rattle.text.specs.Text.{hex_of, is_digit, is_digits, decimal_from, decimal, plain_decimal, digits_of, decimal_of}

-- EVERY BYTE
module _ (p : ℕ → Bool) where
  module _ (s : List ℕ) (i : ℕ) where
    pub all_stop : i < length s → p (get_or s i 0) ≡ false → all_of p (drop i s) ≡ false
    unfolding all_of
    all_stop h e = rw (drop-cons s i 0 h, e)

    pub all_go : i < length s → p (get_or s i 0) ≡ true → all_of p (drop i s) ≡ all_of p (drop (i + 1) s)
    unfolding all_of
    all_go h e = rw (add-one, drop-cons s i 0 h, e)

    pub all_end : length s ≤ i → all_of p (drop i s) ≡ true
    unfolding all_of
    all_end h = rw (drop_of_length-le s h)

  pub all_append : (s t : List ℕ) → all_of p s ≡ true → all_of p t ≡ true → all_of p (s ++ t) ≡ true
  unfolding all_of
  all_append [] t h k = k
  all_append (b ∷ s) t h k = both (p b) (all_of p s) (all_of p (s ++ t)) h (λ e. all_append s t e k)
    where
      both : (a b c : Bool) → (a && b) ≡ true → (b ≡ true → c ≡ true) → (a && c) ≡ true
      both true b c e f = f e
      both false b c e f = e

-- two stores of a loop that writes two elements a turn
pub paste_two : (d : List ℕ) (at : ℕ) (s : List ℕ) (j : ℕ) → at + j + 1 < length d → j + 1 < length s
    → set (set (paste d at s j) (at + j) (get_or s j 0)) (at + j + 1) (get_or s (j + 1) 0) ≡ paste d at s (j + 2)
paste_two d at s j h k =
    let h₁ : at + j < length d = omega arith in
    let k₁ : j < length s = omega arith in
    let e : at + j + 1 ≡ at + suc j = omega arith in
    let e₁ : j + 1 ≡ suc j = omega arith in
    let e₂ : j + 2 ≡ suc (suc j) = omega arith in
    rw (e, e₁, e₂, paste-suc d at s j 0 h₁ k₁) (paste-suc d at s (suc j) 0 (omega arith) (omega arith))

-- HEX
pub value_digit : (b : ℕ) → 48 ≤ b → b ≤ 57 → hex_value b ≡ b - 48
unfolding hex_value
value_digit b h k = rw (le-leb _ _ h, le-leb _ _ k)

pub value_letter : (b : ℕ) → 65 ≤ b → b ≤ 70 → hex_value b ≡ b - 55
unfolding hex_value
value_letter b h k = let h₁ : 48 ≤ b = omega arith in let h₂ : 57 < b = omega arith in rw (le-leb _ _ h₁, lt-leb _ _ h₂, le-leb _ _ h, le-leb _ _ k)

pub value_below : (b : ℕ) → b < 48 → hex_value b ≡ 16
unfolding hex_value
value_below b h = let h₁ : b < 65 = omega arith in rw (lt-leb _ _ h, lt-leb _ _ h₁)

pub value_between : (b : ℕ) → 57 < b → b < 65 → hex_value b ≡ 16
unfolding hex_value
value_between b h k = let h₁ : 48 ≤ b = omega arith in rw (le-leb _ _ h₁, lt-leb _ _ h, lt-leb _ _ k)

pub value_above : (b : ℕ) → 70 < b → hex_value b ≡ 16
unfolding hex_value
value_above b h =
    let h₁ : 48 ≤ b = omega arith in
    let h₂ : 57 < b = omega arith in
    let h₃ : 65 ≤ b = omega arith in
    rw (le-leb _ _ h₁, lt-leb _ _ h₂, le-leb _ _ h₃, lt-leb _ _ h)

pub length_unhex : (s : List ℕ) → length (unhex s) ≡ length s / 2
unfolding unhex
length_unhex [] = refl
length_unhex (a ∷ []) = refl
length_unhex (a ∷ b ∷ s) = let ih = length_unhex s in omega arith

pub get_d_unhex : (s : List ℕ) (i : ℕ) → 2 * i + 1 < length s → get_or (unhex s) i 0 ≡ pair_value (get_or s (2 * i) 0) (get_or s (2 * i + 1) 0)
unfolding unhex
get_d_unhex [] i h = absurd (omega arith)
get_d_unhex (a ∷ []) i h = absurd (omega arith)
get_d_unhex (a ∷ b ∷ s) zero h = refl
get_d_unhex (a ∷ b ∷ s) (suc i) h =
    let e : 2 * suc i ≡ suc (suc (2 * i)) = omega arith in
    let e₁ : 2 * suc i + 1 ≡ suc (suc (2 * i + 1)) = omega arith in
    rw (e₁, e) (get_d_unhex s i (omega arith))

pub length_hex_of : (v : List ℕ) → length (hex_of v) ≡ 2 * length v
unfolding hex_of
length_hex_of [] = refl
length_hex_of (b ∷ v) = let ih = length_hex_of v in omega arith

pub get_d_high : (v : List ℕ) (i : ℕ) → i < length v → get_or (hex_of v) (2 * i) 0 ≡ hex_digit (get_or v i 0 / 16)
unfolding hex_of
get_d_high [] i h = absurd (omega arith)
get_d_high (b ∷ v) zero h = refl
get_d_high (b ∷ v) (suc i) h = let e : 2 * suc i ≡ suc (suc (2 * i)) = omega arith in rw e (get_d_high v i (omega arith))

pub get_d_low : (v : List ℕ) (i : ℕ) → i < length v → get_or (hex_of v) (2 * i + 1) 0 ≡ hex_digit (get_or v i 0 % 16)
unfolding hex_of
get_d_low [] i h = absurd (omega arith)
get_d_low (b ∷ v) zero h = refl
get_d_low (b ∷ v) (suc i) h = let e : 2 * suc i + 1 ≡ suc (suc (2 * i + 1)) = omega arith in rw e (get_d_low v i (omega arith))

pub value_of_digit : (n : ℕ) → n < 16 → hex_value (hex_digit n) ≡ n
unfolding hex_digit
value_of_digit n h = go (dec_lt n 10)
  where
    go : Dec (n < 10) → hex_value (cond (ltb n 10) (n + 48) (n + 55)) ≡ n
    go (yes k) = rw (lt-ltb _ _ k) (value_digit (n + 48) (omega arith) (omega arith) ∙ omega arith)
    go (no k) = let k₁ : 10 ≤ n = omega (arith, k) in rw (le-ltb _ _ k₁) (value_letter (n + 55) (omega arith) (omega arith) ∙ omega arith)

digit_is_hex : (n : ℕ) → n < 16 → is_hex_digit (hex_digit n) ≡ true
unfolding is_hex_digit
digit_is_hex n h = rw (value_of_digit n h) (lt-ltb _ _ h)

tail_bytes : (b : ℕ) (s : List ℕ) → Bytes (b ∷ s) → Bytes s
tail_bytes b s h i = h (suc i)

-- HEX SPELLS BACK: what was written in hex is read as the same bytes
pub unhex_hex_of : (v : List ℕ) → Bytes v → unhex (hex_of v) ≡ v
unfolding hex_of unhex pair_value
unhex_hex_of [] h = refl
unhex_hex_of (b ∷ v) h =
    let k : b < 256 = h 0 in
    ap₂ ◌∷◌ (rw (value_of_digit (b / 16) (omega arith), value_of_digit (b % 16) (omega arith)) (omega arith)) (unhex_hex_of v (tail_bytes b v h))

pub is_hex_hex_of : (v : List ℕ) → Bytes v → is_hex (hex_of v) ≡ true
unfolding hex_of all_of
is_hex_hex_of [] h = refl
is_hex_hex_of (b ∷ v) h =
    let k : b < 256 = h 0 in
    rw (digit_is_hex (b / 16) (omega arith), digit_is_hex (b % 16) (omega arith)) (is_hex_hex_of v (tail_bytes b v h))

-- DECIMAL
pub digit_true : (b : ℕ) → 48 ≤ b → b ≤ 57 → is_digit b ≡ true
unfolding is_digit
digit_true b h k = rw (le-leb _ _ h, le-leb _ _ k)

pub decimal_step : (n : ℕ) (s : List ℕ) (i : ℕ) → i < length s → decimal_from n (drop i s) ≡ decimal_from (n * 10 + (get_or s i 0 - 48)) (drop (i + 1) s)
unfolding decimal_from
decimal_step n s i h = rw (add-one, drop-cons s i 0 h)

pub decimal_end : (n : ℕ) (s : List ℕ) (i : ℕ) → length s ≤ i → decimal_from n (drop i s) ≡ n
unfolding decimal_from
decimal_end n s i h = rw (drop_of_length-le s h)

-- more digits make no smaller number
pub decimal_grows : (n : ℕ) (s : List ℕ) → n ≤ decimal_from n s
unfolding decimal_from
decimal_grows n [] = omega arith
decimal_grows n (d ∷ s) = let ih = decimal_grows (n * 10 + (d - 48)) s in omega arith

decimal_append : (n : ℕ) (s t : List ℕ) → decimal_from n (s ++ t) ≡ decimal_from (decimal_from n s) t
unfolding decimal_from
decimal_append n [] t = refl
decimal_append n (d ∷ s) t = decimal_append (n * 10 + (d - 48)) s t

-- how many digits are asked for is of no matter once they are enough
enough : (k j n : ℕ) → n < k → n < j → digits_of k n ≡ digits_of j n
unfolding digits_of
enough zero j n h h' = absurd (omega arith)
enough (suc k) zero n h h' = absurd (omega arith)
enough (suc k) (suc j) n h h' = go (dec_lt n 10) (enough k j (n / 10))
  where
    go : Dec (n < 10) → (n / 10 < k → n / 10 < j → digits_of k (n / 10) ≡ digits_of j (n / 10))
        → cond (ltb n 10) ((n + 48) ∷ []) (digits_of k (n / 10) ++ ((n % 10 + 48) ∷ []))
        ≡ cond (ltb n 10) ((n + 48) ∷ []) (digits_of j (n / 10) ++ ((n % 10 + 48) ∷ []))
    go (yes x) f = rw (lt-ltb _ _ x)
    go (no x) f = let y : 10 ≤ n = omega (arith, x) in ap (λ l. cond (ltb n 10) ((n + 48) ∷ []) (l ++ ((n % 10 + 48) ∷ []))) (f (omega arith) (omega arith))

pub decimal_small : (n : ℕ) → n < 10 → decimal_of n ≡ (n + 48) ∷ []
unfolding decimal_of digits_of
decimal_small n h = rw (lt-ltb _ _ h)

pub decimal_more : (n : ℕ) → 10 ≤ n → decimal_of n ≡ decimal_of (n / 10) ++ ((n % 10 + 48) ∷ [])
unfolding decimal_of digits_of
decimal_more n h = rw (le-ltb _ _ h) (ap (λ l. l ++ ((n % 10 + 48) ∷ [])) (enough n (suc (n / 10)) (n / 10) (omega arith) (omega arith)))

pub decimal_some : (n : ℕ) → 1 ≤ length (decimal_of n)
decimal_some n = go (dec_lt n 10)
  where
    go : Dec (n < 10) → 1 ≤ length (decimal_of n)
    go (yes x) = rw (decimal_small n x) (omega arith)
    go (no x) = let y : 10 ≤ n = omega (arith, x) in rw (decimal_more n y) (simp length-append (omega arith))

-- TEN DIGITS are enough for 32 bits
more_digits : (k m : ℕ) → ((n : ℕ) → n < m → length (decimal_of n) ≤ k) → (n : ℕ) → n < 10 * m → length (decimal_of n) ≤ k + 1
more_digits k m h n p = go (dec_lt n 10)
  where
    go : Dec (n < 10) → length (decimal_of n) ≤ k + 1
    go (yes x) = rw (decimal_small n x) (omega arith)
    go (no x) =
        let y : 10 ≤ n = omega (arith, x) in
        let z : n / 10 < m = omega arith in
        rw (decimal_more n y, length-append (decimal_of (n / 10)) ((n % 10 + 48) ∷ [])) (omega (arith, h (n / 10) z))

one_digit : (n : ℕ) → n < 10 → length (decimal_of n) ≤ 1
one_digit n h = rw (decimal_small n h) (omega arith)

five_digits : (n : ℕ) → n < 100000 → length (decimal_of n) ≤ 5
five_digits = more_digits 4 10000 (more_digits 3 1000 (more_digits 2 100 (more_digits 1 10 one_digit)))

pub ten_digits : (n : ℕ) → n < 4294967296 → length (decimal_of n) ≤ 10
ten_digits n h =
    more_digits 9 1000000000 (more_digits 8 100000000 (more_digits 7 10000000 (more_digits 6 1000000 (more_digits 5 100000 five_digits)))) n (omega arith)

-- by the digits of a number, one after the other
by_digits : (P : ℕ → Type 0) → ((n : ℕ) → n < 10 → P n) → ((n : ℕ) → 10 ≤ n → P (n / 10) → P n) → (n : ℕ) → P n
by_digits P small more n = go (suc n) n (omega arith)
  where
    step : (m : ℕ) → Dec (m < 10) → (10 ≤ m → P (m / 10)) → P m
    step m (yes x) f = small m x
    step m (no x) f = let y : 10 ≤ m = omega (arith, x) in more m y (f y)

    go : (k m : ℕ) → m < k → P m
    go zero m h = absurd (omega arith)
    go (suc k) m h = step m (dec_lt m 10) (λ y. go k (m / 10) (omega arith))

-- DECIMAL SPELLS BACK
pub decimal_decimal_of : (n : ℕ) → decimal (decimal_of n) ≡ n
unfolding decimal_from
decimal_decimal_of = by_digits (λ n. decimal (decimal_of n) ≡ n) small more
  where
    small : (n : ℕ) → n < 10 → decimal (decimal_of n) ≡ n
    small n h = rw (decimal_small n h) (omega arith)

    more : (n : ℕ) → 10 ≤ n → decimal (decimal_of (n / 10)) ≡ n / 10 → decimal (decimal_of n) ≡ n
    more n h e = rw (decimal_more n h, decimal_append 0 (decimal_of (n / 10)) ((n % 10 + 48) ∷ []), e) (omega arith)

-- digits, one or more, the first of which is not 0
record Led (s : List ℕ) : Type 0 where
  digits : is_digits s ≡ true
  some : 1 ≤ length s
  first : get_or s 0 0 ≡ 48 → ⊥

led : (n : ℕ) → 1 ≤ n → Led (decimal_of n)
unfolding all_of
led = by_digits (λ n. 1 ≤ n → Led (decimal_of n)) small more
  where
    small : (n : ℕ) → n < 10 → 1 ≤ n → Led (decimal_of n)
    small n h k =
        rw (decimal_small n h) (record {
          digits = rw (digit_true (n + 48) (omega arith) (omega arith));
          some = omega arith;
          first = λ e. omega arith;
        })

    more : (n : ℕ) → 10 ≤ n → (1 ≤ n / 10 → Led (decimal_of (n / 10))) → 1 ≤ n → Led (decimal_of n)
    more n h f k =
        let s = decimal_of (n / 10) in
        let t = (n % 10 + 48) ∷ [] in
        let x = f (omega arith) in
        let l = x.some in
        rw (decimal_more n h)
        (record {
          digits = all_append is_digit s t x.digits (rw (digit_true (n % 10 + 48) (omega arith) (omega arith)));
          some = omega (arith, length-append s t);
          first = λ e. x.first (sym (get_or-append s t 0 0 (omega arith)) ∙ e);
        })

led_plain : (s : List ℕ) → Led s → plain_decimal s ≡ true
unfolding plain_decimal
led_plain s x = rw (x.digits, le-leb _ _ x.some, ne_eqb _ _ x.first) (or_true (eqb (length s) 1))

pub plain_decimal_decimal_of : (n : ℕ) → plain_decimal (decimal_of n) ≡ true
unfolding plain_decimal all_of is_digit
plain_decimal_decimal_of zero = rw (decimal_small 0 (omega arith))
plain_decimal_decimal_of (suc n) = led_plain (decimal_of (suc n)) (led (suc n) (omega arith))

pub is_digits_decimal_of : (n : ℕ) → is_digits (decimal_of n) ≡ true
unfolding all_of is_digit
is_digits_decimal_of zero = rw (decimal_small 0 (omega arith))
is_digits_decimal_of (suc n) = (led (suc n) (omega arith)).digits

-- WHAT THE AUTOMATIC PROOFS CITE besides std's lemmas
pub ruleset steps = (all_stop, all_go, all_end, decimal_step, decimal_end, decimal_grows, length_unhex, length_hex_of)
