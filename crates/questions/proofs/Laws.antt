-- What the loops over a message's parts are shown by: what is left of them. Assumes nothing.
use Rattle.std.proofs.Common.{◌≡◌, ℕ, suc, ◌+◌, ◌-◌, ◌*◌, ◌/◌, ◌%◌, ◌<◌, ◌≤◌, List, [], ◌∷◌, length, take, drop, get_or, add-one, arith, append-nil, length-append, drop-cons, drop-drop}
use lib.ListN.{drop_of_length-le}
use Rattle.std.specs.Borrow.{Bor}
use Rattle.wire.specs.Wire.{Wrote, Wrotes, joined}
use Rattle.wire.proofs.Laws.{wrote_none, wrote_more, wrote_append}
use Rattle.card.specs.Values.{u16}
use Rattle.card.specs.declared.Face.{Face}
use Rattle.manual.specs.Words.{hash_size}
use Rattle.manual.specs.Row.{Question, each_asked}
use Rattle.manual.specs.Wallet.{hash_questions}
use Rattle.questions.specs.declared.Kind.TheVariants.{SignHash}
use Rattle.questions.specs.Posed.{of_wallet, parts_of}

-- one part, and those behind it; in the end none
next_part : (l : List (Bor (List ℕ))) (i : ℕ) (x : Bor (List ℕ)) → i < length l → parts_of (drop i l) ≡ (get_or l i x).now ∷ parts_of (drop (i + 1) l)
next_part l i x h = rw (add-one, drop-cons l i x)

no_part : (l : List (Bor (List ℕ))) (i : ℕ) → length l ≤ i → parts_of (drop i l) ≡ []
no_part l i h = rw (drop_of_length-le l h)

-- THEIR LENGTH, in two bytes: so many counted, and those that are left
abbrev pub Counted : (parts : List (Bor (List ℕ))) (i size : ℕ) → Type 0
Counted parts i size = u16 (size + length (joined (parts_of (drop i parts)))) ≡ u16 (length (joined (parts_of parts)))

pub count_more : (l : List (Bor (List ℕ))) (i size : ℕ) (x : Bor (List ℕ)) → i < length l → Counted l i size
    → Counted l (i + 1) ((size + length (get_or l i x).now % 65536) % 65536)
unfolding joined
count_more l i size x h f =
    let e = rw (next_part l i x h) at f in
    omega (arith, length-append (get_or l i x).now (joined (parts_of (drop (i + 1) l))), e)

pub counted_all : (l : List (Bor (List ℕ))) (i size : ℕ) → length l ≤ i → size < 65536 → Counted l i size → size ≡ u16 (length (joined (parts_of l)))
unfolding joined
counted_all l i size h s f = let e = rw (no_part l i h) at f in omega arith

-- WHAT IS LEFT TO WRITE of them
abbrev pub Left : (parts : List (Bor (List ℕ))) (i : ℕ) (out₀ : List ℕ) (at₀ : ℕ) (out : List ℕ) (at : ℕ) → Type 0
Left parts i out₀ at₀ out at = (d : List ℕ) (r : ℕ) → Wrotes out at (parts_of (drop i parts)) d r → Wrotes out₀ at₀ (parts_of parts) d r

pub write_more : (l : List (Bor (List ℕ))) (i : ℕ) (x : Bor (List ℕ)) {o : List ℕ} {a : ℕ} {out : List ℕ} {at : ℕ} {out' : List ℕ} {at' : ℕ} → i < length l
    → Left l i o a out at → Wrote out at (get_or l i x).now out' at' → Left l (i + 1) o a out' at'
write_more l i x h f w d r g = f d r (rw (next_part l i x h) (wrote_more w g))

pub written_all : (l : List (Bor (List ℕ))) (i : ℕ) {o : List ℕ} {a : ℕ} {out : List ℕ} {at : ℕ} → length l ≤ i → Left l i o a out at
    → Wrotes o a (parts_of l) out at
written_all l i {out = out} {at = at} h f = f out at (rw (no_part l i h) wrote_none)

-- questions that follow one
pub ask_more : (x : Question) (xs : List Question) {d : List ℕ} {at : ℕ} {d' : List ℕ} {r : ℕ} {d'' : List ℕ} {r' : ℕ} → Wrotes d at (each_asked (x ∷ [])) d' r
    → Wrotes d' r (each_asked xs) d'' r' → Wrotes d at (each_asked (x ∷ xs)) d'' r'
unfolding each_asked
ask_more x xs f g = wrote_append (rw append-nil at f) g

-- SIGN'S QUESTIONS from a hash on
abbrev pub from_hash : Face → List ℕ → ℕ → List Question
from_hash f h i = hash_questions f.front.wallet.number f.front.fixed.curve (length h / hash_size - i) (drop (i * hash_size) h)

next_hash : (f : Face) (h : List ℕ) (i : ℕ) → i < length h / hash_size
    → from_hash f h i ≡ of_wallet SignHash f (take hash_size (drop (i * hash_size) h) ∷ []) ∷ from_hash f h (i + 1)
unfolding hash_questions
next_hash f h i k =
    let z : length h / 32 - i ≡ suc (length h / 32 - (i + 1)) = omega arith in
    let y : i * 32 + 32 ≡ (i + 1) * 32 = omega arith in
    rw (z, drop-drop 32 (i * 32) h, y)

-- what is left to ask
abbrev pub Unasked : (f : Face) (h : List ℕ) (i : ℕ) (out₀ out : List ℕ) (at : ℕ) → Type 0
Unasked f h i out₀ out at = (d : List ℕ) (r : ℕ) → Wrotes out at (each_asked (from_hash f h i)) d r → Wrotes out₀ 0 (each_asked (from_hash f h 0)) d r

pub hash_more : (f : Face) (h : List ℕ) (i : ℕ) {out₀ out : List ℕ} {at : ℕ} {out' : List ℕ} {at' : ℕ} → i < length h / hash_size → Unasked f h i out₀ out at
    → Wrotes out at (each_asked (of_wallet SignHash f (take hash_size (drop (i * hash_size) h) ∷ []) ∷ [])) out' at' → Unasked f h (i + 1) out₀ out' at'
hash_more f h i k g w d r x = g d r (rw (next_hash f h i k) (ask_more _ _ w x))

pub asked_all : (f : Face) (h : List ℕ) (i : ℕ) {out₀ out : List ℕ} {at : ℕ} → length h / hash_size ≤ i → Unasked f h i out₀ out at
    → Wrotes out₀ 0 (each_asked (hash_questions f.front.wallet.number f.front.fixed.curve (length h / hash_size) h)) out at
unfolding hash_questions each_asked
asked_all f h i {out = out} {at = at} k g =
    let z : length h / 32 - i ≡ 0 = omega arith in
    let y : length h / 32 - 0 ≡ length h / 32 = omega arith in
    rw y at (g out at (rw z wrote_none))
