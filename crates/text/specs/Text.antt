-- Numbers as text: capital hex digits and decimal digits, 01 "The personalisation sheet". Every definition is total. Assumes nothing.
use Rattle.std.specs.Prelude.{ℕ, zero, suc, ◌+◌, ◌-◌, ◌*◌, ◌/◌, ◌%◌, Bool, true, cond, not, ◌&&◌, ◌||◌, List, [], ◌∷◌, ◌++◌, length, get_or, leb, ltb, eqb, Option, Some, None}
use Prim.Native.Char.{code}
use Prim.Native.String.{String, [] as []ˢ, ◌∷◌ as ◌∷ˢ◌}

-- the bytes of a text in ASCII, as `b".."` is in code
abbrev pub ascii : String → List ℕ
ascii []ˢ = []
ascii (c ∷ˢ s) = code c ∷ ascii s

-- every byte passes the test
unfoldable pub all_of : (ℕ → Bool) → List ℕ → Bool
all_of p [] = true
all_of p (b ∷ s) = p b && all_of p s

-- HEX. The value of a capital hex digit, 0 to 9 and A to F; 16 where it is none
unfoldable pub hex_value : ℕ → ℕ
hex_value b = cond (leb 48 b && leb b 57) (b - 48) (cond (leb 65 b && leb b 70) (b - 55) 16)

unfoldable pub is_hex_digit : ℕ → Bool
is_hex_digit b = ltb (hex_value b) 16

abbrev pub is_hex : List ℕ → Bool
is_hex = all_of is_hex_digit

-- the byte that two digits spell
unfoldable pub pair_value : ℕ → ℕ → ℕ
pair_value a b = (hex_value a * 16 + hex_value b) % 256

-- the bytes that digits spell, two for a byte; an odd last digit spells nothing
unfoldable pub unhex : List ℕ → List ℕ
unhex [] = []
unhex (a ∷ []) = []
unhex (a ∷ b ∷ s) = pair_value a b ∷ unhex s

-- the digit of a value below 16
unfoldable pub hex_digit : ℕ → ℕ
hex_digit n = cond (ltb n 10) (n + 48) (n + 55)

-- bytes as capital hex digits
unfoldable pub hex_of : List ℕ → List ℕ
hex_of [] = []
hex_of (b ∷ s) = hex_digit (b / 16) ∷ hex_digit (b % 16) ∷ hex_of s

-- DECIMAL
unfoldable pub is_digit : ℕ → Bool
is_digit b = leb 48 b && leb b 57

abbrev pub is_digits : List ℕ → Bool
is_digits = all_of is_digit

-- the number that n and then the digits spell
unfoldable pub decimal_from : ℕ → List ℕ → ℕ
decimal_from n [] = n
decimal_from n (d ∷ s) = decimal_from (n * 10 + (d - 48)) s

abbrev pub decimal : List ℕ → ℕ
decimal s = decimal_from 0 s

-- "decimal, no leading zero": digits, one or more, and the first is 0 only where it is the only one
unfoldable pub plain_decimal : List ℕ → Bool
plain_decimal s = is_digits s && (leb 1 (length s) && (eqb (length s) 1 || not (eqb (get_or s 0 0) 48)))

-- a number where 32 bits hold it
unfoldable pub fitting : ℕ → Option ℕ
fitting n = cond (leb n 4294967295) (Some n) None

-- the number of at most 32 bits that a text is in decimal, no leading zero
unfoldable pub number_of : List ℕ → Option ℕ
number_of s = cond (plain_decimal s) (fitting (decimal s)) None

-- the digits of n, at most k of them
unfoldable pub digits_of : ℕ → ℕ → List ℕ
digits_of zero n = []
digits_of (suc k) n = let more = digits_of k (n / 10) ++ ((n % 10 + 48) ∷ []) in cond (ltb n 10) ((n + 48) ∷ []) more

-- a number in decimal, no leading zero: it has no more digits than n + 1
unfoldable pub decimal_of : ℕ → List ℕ
decimal_of n = digits_of (suc n) n
