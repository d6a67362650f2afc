-- What the callers of `wire` cite: outcomes of checks, runs of writes, comparison. Assumes nothing.
use Prim.Native.Nat.{ℕ, zero, suc, ◌+◌, ◌-◌, ◌*◌, ◌≤◌, ◌<◌}
use native.Mathlib.Omega.{arith}
use native.Mathlib.Numerals.{add-one}
use native.Mathlib.Decide.{ℕ_discrete}
use native.Mathlib.Nat.{add-zero}
use mathlib.Core.Path.{◌≡◌, refl, sym, ap, ap₂, ◌∙◌, subst}
use mathlib.Core.List.{List, [], ◌∷◌, ◌++◌, append_assoc, append-nil}
use mathlib.Core.Bool.{Bool, true, false, cond, ◌&&◌, ◌||◌}
use lib.ListN.{length, take, drop, get_or, replicate, length-append, length-take, length-drop, length-replicate, take-append-drop, drop_of_length-le}
use lib.Seq.{take_at, drop-append-add, drop-drop, drop-cons, drop-nil, paste, take-length, take-suc, get_or-drop}
use lib.Bits.{bit_or, or_add_and, and_le_l, and_le_r, or_zero_l}
use lib.Dec.{leb, eqb}
use borrow.Author.Tests.{le-leb, lt-leb, leb-true, leb-false, eq-eqb, ne_eqb, eqb-true}
use Rattle.wire.specs.Wire.{part, put, room, fit, placed, Wrote, Runs, page, Wrotes, joined, pad, alike, all_zero}

-- CHECKS
pub by_cases : {A : Type 0} (P : A → Type 0) (b : Bool) {x y : A} → (b ≡ true → P x) → (b ≡ false → P y) → P (cond b x y)
by_cases P true f g = f refl
by_cases P false f g = g refl

pub both_true : (a b : Bool) → (a && b) ≡ true → (a ≡ true) × (b ≡ true)
both_true true b e = (refl, e)
both_true false b e = (e, cc)

-- a choice between two that are the same in each case
pub either : {A : Type 0} (c : Bool) {a a' b b' : A} → (c ≡ true → a ≡ a') → (c ≡ false → b ≡ b') → cond c a b ≡ cond c a' b'
either true f g = f refl
either false f g = g refl

pub never : false ≡ true → ⊥
never q = let z : ◌≡◌ {A = ℕ} 0 1 = cc in omega arith

pub and_false : (b : Bool) → (b && false) ≡ false
and_false true = refl
and_false false = refl

pub or_true : (b : Bool) → (b || true) ≡ true
or_true true = refl
or_true false = refl

-- WRITES
pub has_room : (size at n : ℕ) → at + n ≤ size → room size at n ≡ true
unfolding room
has_room size at n h = le-leb _ _ h

pub no_room : (size at n : ℕ) → size < at + n → room size at n ≡ false
unfolding room
no_room size at n h = lt-leb _ _ h

pub room_true : (size at n : ℕ) → room size at n ≡ true → at + n ≤ size
unfolding room
room_true size at n e = leb-true _ _ e

pub room_false : (size at n : ℕ) → room size at n ≡ false → size < at + n
unfolding room
room_false size at n e = leb-false _ _ e

pub length_put : (d : List ℕ) (at : ℕ) (v : List ℕ) → at + length v ≤ length d → length (put d at v) ≡ length d
unfolding put
length_put d at v h = simp (length-append, length-take, length-drop) (omega arith)

-- a write right after another is one write of both
pub put_put : (d : List ℕ) (at : ℕ) (v w : List ℕ) → at + length v + length w ≤ length d → put (put d at v) (at + length v) w ≡ put d at (v ++ w)
unfolding put
put_put d at v w h =
    let e : length (take at d ++ v) ≡ at + length v = simp (length-append, length-take) (omega arith) in
    let e₂ : at + length v + length w ≡ at + length (v ++ w) = simp length-append (omega arith) in
    ap₂ (λ x y. x ++ w ++ y)
    (take_at (take at d ++ v) (drop (at + length v) d) (at + length v) e)
    (ap (λ n. drop n (take at d ++ v ++ drop (at + length v) d)) (ap (λ n. n + length w) (sym e))
    ∙ drop-append-add (take at d ++ v) (drop (at + length v) d) (length w)
    ∙ drop-drop (length w) (at + length v) d
    ∙ ap (λ n. drop n d) e₂)
    ∙ simp append_assoc

-- all of it pasted, an element at a time
pub pasted : (d : List ℕ) (at : ℕ) (v : List ℕ) (i : ℕ) → i ≡ length v → paste d at v i ≡ put d at v
unfolding put
pasted d at v i e = rw (e, take-length)

-- THE LAW: where there is room, a write is the plain one
pub runs : {d : List ℕ} {at : ℕ} {v d' : List ℕ} {r : ℕ} → Wrote d at v d' r → Runs d at v d' r
unfolding fit placed
runs {d} {at} {v} x h =
    let e = has_room (length d) at (length v) h in
    record { bytes = x.bytes ∙ rw e; next = x.next ∙ rw e }

-- one run after another, with no room to show
pub then : {d : List ℕ} {at : ℕ} {v d' : List ℕ} {r : ℕ} {w d'' : List ℕ} {r' : ℕ} → Runs d at v d' r → Runs d' r w d'' r' → Runs d at (v ++ w) d'' r'
then {d} {at} {v} {d'} {r} {w} {d''} {r'} f g h =
    let l = length-append v w in
    let x = f (omega arith) in
    let k : length d' ≡ length d = ap length x.bytes ∙ length_put d at v (omega arith) in
    let y = g (omega (arith, x.next, k)) in
    record {
      bytes = y.bytes ∙ ap₂ (λ e n. put e n w) x.bytes x.next ∙ put_put d at v w (omega arith);
      next = omega (arith, x.next, y.next);
    }

pub put_nil : (d : List ℕ) (at : ℕ) → d ≡ put d at []
unfolding put
put_nil d at = sym (ap (λ n. take at d ++ [] ++ drop n d) (add-zero at) ∙ ap (λ l. l ++ drop at d) (append-nil (take at d)) ∙ take-append-drop at d)

-- nothing written
pub nothing : {d : List ℕ} {at : ℕ} → Runs d at [] d at
nothing {d} {at} h = record { bytes = put_nil d at; next = omega arith }

-- a run that is said in other words
pub reads : {d : List ℕ} {at : ℕ} {v d' : List ℕ} {r : ℕ} {w : List ℕ} → v ≡ w → Runs d at v d' r → Runs d at w d' r
reads {d} {at} {v} {d'} {r} e f = subst (λ (x : List ℕ). Runs d at x d' r) e f

-- a whole run that the code tested for room first
pub tested : {d : List ℕ} {at : ℕ} {v d' : List ℕ} {r : ℕ} → at + length v ≤ length d → Runs d at v d' r → Wrote d at v d' r
unfolding fit placed
tested {d} {at} {v} h f =
    let e = has_room (length d) at (length v) h in
    record { bytes = (f h).bytes ∙ sym (rw e); next = (f h).next ∙ sym (rw e) }

pub refused : {d : List ℕ} {at : ℕ} {v : List ℕ} → length d < at + length v → Wrote d at v d at
unfolding fit placed
refused {d} {at} {v} h = let e = no_room (length d) at (length v) h in record { bytes = sym (rw e); next = sym (rw e) }

-- SEVERAL WRITES
pub wrote_none : {d : List ℕ} {at : ℕ} → Wrotes d at [] d at
unfolding page
wrote_none = record { bytes = refl; next = refl }

pub wrote_more : {d : List ℕ} {at : ℕ} {v d' : List ℕ} {r : ℕ} {vs : List (List ℕ)} {d'' : List ℕ} {r' : ℕ} → Wrote d at v d' r → Wrotes d' r vs d'' r'
    → Wrotes d at (v ∷ vs) d'' r'
unfolding page
wrote_more {vs = vs} x y =
    record {
      bytes = y.bytes ∙ ap₂ (λ e n. (page e n vs).bytes) x.bytes x.next;
      next = y.next ∙ ap₂ (λ e n. (page e n vs).at) x.bytes x.next;
    }

pub wrote_one : {d : List ℕ} {at : ℕ} {v d' : List ℕ} {r : ℕ} → Wrote d at v d' r → Wrotes d at (v ∷ []) d' r
wrote_one x = wrote_more x wrote_none

page_append : (d : List ℕ) (at : ℕ) (vs ws : List (List ℕ)) → page d at (vs ++ ws) ≡ page (page d at vs).bytes (page d at vs).at ws
unfolding page
page_append d at [] ws = refl
page_append d at (v ∷ vs) ws = page_append (fit d at v) (placed d at v) vs ws

pub wrote_append : {d : List ℕ} {at : ℕ} {vs : List (List ℕ)} {d' : List ℕ} {r : ℕ} {ws : List (List ℕ)} {d'' : List ℕ} {r' : ℕ} → Wrotes d at vs d' r
    → Wrotes d' r ws d'' r' → Wrotes d at (vs ++ ws) d'' r'
wrote_append {d} {at} {vs} {ws = ws} x y =
    let e = page_append d at vs ws in
    record {
      bytes = y.bytes ∙ ap₂ (λ e n. (page e n ws).bytes) x.bytes x.next ∙ sym (ap (λ z. z.bytes) e);
      next = y.next ∙ ap₂ (λ e n. (page e n ws).at) x.bytes x.next ∙ sym (ap (λ z. z.at) e);
    }

pub joined_append : (vs ws : List (List ℕ)) → joined (vs ++ ws) ≡ joined vs ++ joined ws
unfolding joined
joined_append [] ws = refl
joined_append (v ∷ vs) ws = ap (λ l. v ++ l) (joined_append vs ws) ∙ sym (append_assoc v (joined vs) (joined ws))

page_plain : (d : List ℕ) (at : ℕ) (vs : List (List ℕ)) → Runs d at (joined vs) (page d at vs).bytes (page d at vs).at
unfolding page joined
page_plain d at [] = nothing
page_plain d at (v ∷ vs) = then (runs {v = v} (record { bytes = refl; next = refl })) (page_plain (fit d at v) (placed d at v) vs)

-- THE LAW again: where there is room for all, they are one plain write
pub all_run : {d : List ℕ} {at : ℕ} {vs : List (List ℕ)} {d' : List ℕ} {r : ℕ} → Wrotes d at vs d' r → Runs d at (joined vs) d' r
all_run {d} {at} {vs} x h =
    let y = page_plain d at vs h in
    record { bytes = x.bytes ∙ y.bytes; next = x.next ∙ y.next }

-- what a run from the front leaves
pub front : {d v d' : List ℕ} {r : ℕ} → Runs d 0 v d' r → length v ≤ length d → (d' ≡ v ++ drop (length v) d) × (r ≡ length v)
unfolding put
front {d} {v} f h =
    let x = f (omega arith) in
    (x.bytes ∙ (let z : 0 + length v ≡ length v = omega arith in rw z), omega (arith, x.next))

-- PADDING
pub drop_zeros : (m n a : ℕ) → drop n (replicate m a) ≡ replicate (m - n) a
drop_zeros zero n a = drop-nil n ∙ (let e : 0 ≡ 0 - n = omega arith in ap (λ (k : ℕ). replicate k a) e)
drop_zeros (suc m) zero a = let e : suc m ≡ suc m - 0 = omega arith in ap (λ (k : ℕ). replicate k a) e
drop_zeros (suc m) (suc n) a = drop_zeros m n a ∙ (let e : m - n ≡ suc m - suc n = omega arith in ap (λ (k : ℕ). replicate k a) e)

pub padded : (n : ℕ) (x : List ℕ) → length x ≤ n → pad n x ≡ x ++ replicate (n - length x) 0
unfolding fit put
padded n x h =
    let z0 : List ℕ = replicate n 0 in let l : length z0 ≡ n = length-replicate n 0 in
    let e = has_room (length z0) 0 (length x) (omega arith) in
    let z : 0 + length x ≡ length x = omega arith in
    rw (e, z, drop_zeros n (length x) 0)

-- x, then zeros up to n
pub put_pad : (d : List ℕ) (at n : ℕ) (x : List ℕ) → length x ≤ n → at + n ≤ length d
    → put (put d at x) (at + length x) (replicate (n - length x) 0) ≡ put d at (pad n x)
put_pad d at n x h k =
    let z : List ℕ = replicate (n - length x) 0 in
    let l : length z ≡ n - length x = length-replicate (n - length x) 0 in
    put_put d at x z (omega arith) ∙ ap (put d at) (sym (padded n x h))

-- nothing of an x that is longer
pub pad_none : (n : ℕ) (x : List ℕ) → n < length x → pad n x ≡ replicate n 0
unfolding fit
pad_none n x h =
    let z : List ℕ = replicate n 0 in
    let l : length z ≡ n = length-replicate n 0 in
    rw (no_room (length z) 0 (length x) (omega arith))

-- PARTS
pub length_part : (s : List ℕ) (at n : ℕ) → at + n ≤ length s → length (part s at n) ≡ n
unfolding part
length_part s at n h =
    let h₁ : at ≤ length s = omega arith in
    let h₂ : n ≤ length s - at = omega arith in
    rw (le-leb _ _ h₁, le-leb _ _ h₂) (simp (length-take, length-drop) (omega arith))

pub part_plain : (s : List ℕ) (at n : ℕ) → at + n ≤ length s → part s at n ≡ take n (drop at s)
unfolding part
part_plain s at n h =
    let h₁ : at ≤ length s = omega arith in
    let h₂ : n ≤ length s - at = omega arith in
    rw (le-leb _ _ h₁, le-leb _ _ h₂)

-- COMPARISON
pub other_length : (a b : List ℕ) → (length a ≡ length b → ⊥) → alike a b ≡ false
unfolding alike
other_length [] [] h = absurd (h refl)
other_length [] (y ∷ ys) h = refl
other_length (x ∷ xs) [] h = refl
other_length (x ∷ xs) (y ∷ ys) h = rw (other_length xs ys (λ e. h (ap suc e))) (and_false (eqb x y))

pub alike_step : (a b : List ℕ) (i : ℕ) → i < length a → i < length b
    → alike (drop i a) (drop i b) ≡ eqb (get_or a i 0) (get_or b i 0) && alike (drop (i + 1) a) (drop (i + 1) b)
unfolding alike
alike_step a b i h k = rw (add-one, drop-cons a i 0 h, drop-cons b i 0 k)

pub alike_end : (a b : List ℕ) (i : ℕ) → length a ≤ i → length b ≤ i → alike (drop i a) (drop i b) ≡ true
unfolding alike
alike_end a b i h k = rw (drop_of_length-le a h, drop_of_length-le b k)

-- what is alike is the same
pub alike_self : (l : List ℕ) → alike l l ≡ true
unfolding alike
alike_self [] = refl
alike_self (x ∷ l) = rw (eq-eqb x x refl) (alike_self l)

pub alike_same : (a b : List ℕ) → alike a b ≡ true → a ≡ b
unfolding alike
alike_same [] [] e = refl
alike_same [] (y ∷ b) e = absurd (never e)
alike_same (x ∷ a) [] e = absurd (never e)
alike_same (x ∷ a) (y ∷ b) e = let p = both_true (eqb x y) (alike a b) e in ap₂ ◌∷◌ (eqb-true x y p.0) (alike_same a b p.1)

-- UNUSED ROOM: what bytes gathered by `or` tell
or_none : (d z : ℕ) → bit_or d z ≡ 0 → d ≡ 0
or_none d z e = omega (arith, or_add_and d z, and_le_l d z, and_le_r d z)

pub or_zero : (d x : ℕ) → eqb (bit_or d x) 0 ≡ eqb d 0 && eqb x 0
or_zero d x = go (ℕ_discrete d 0) (ℕ_discrete x 0)
  where
    go : Dec (d ≡ 0) → Dec (x ≡ 0) → eqb (bit_or d x) 0 ≡ eqb d 0 && eqb x 0
    go (yes p) (yes q) = rw (p, q)
    go (yes p) (no q) = rw (p, or_zero_l x, ne_eqb x 0 q)
    go (no p) _ = rw (ne_eqb (bit_or d x) 0 (λ e. p (or_none d x e)), ne_eqb d 0 p)

pub and_assoc : (a b c : Bool) → (a && b && c) ≡ (a && (b && c))
and_assoc true b c = refl
and_assoc false b c = refl

pub and_one : (a : Bool) → (a && true) ≡ a
and_one true = refl
and_one false = refl

module _ (s : List ℕ) (d i : ℕ) where
  pub gather : i < length s → (eqb d 0 && all_zero (drop i s)) ≡ (eqb (bit_or d (get_or s i 0)) 0 && all_zero (drop (i + 1) s))
  unfolding all_zero
  gather h = rw (add-one, drop-cons s i 0 h, or_zero d (get_or s i 0)) (sym (and_assoc (eqb d 0) (eqb (get_or s i 0) 0) (all_zero (drop (suc i) s))))

  pub gathered : length s ≤ i → (eqb d 0 && all_zero (drop i s)) ≡ eqb d 0
  unfolding all_zero
  gathered h = rw (drop_of_length-le s h) (and_one (eqb d 0))

-- and of quarters gathered side by side: the first i elements from x on are zero
abbrev pub cleared : List ℕ → ℕ → ℕ → Bool
cleared s x i = all_zero (take i (drop x s))

zero_append : (a b : List ℕ) → all_zero (a ++ b) ≡ (all_zero a && all_zero b)
unfolding all_zero
zero_append [] b = refl
zero_append (x ∷ xs) b = ap (λ e. eqb x 0 && e) (zero_append xs b) ∙ sym (and_assoc (eqb x 0) (all_zero xs) (all_zero b))

zero_split : (s : List ℕ) (x n m : ℕ) → x + n ≡ m → all_zero (drop x s) ≡ (cleared s x n && all_zero (drop m s))
zero_split s x n m e =
    ap all_zero (sym (take-append-drop n (drop x s))) ∙ zero_append (take n (drop x s)) (drop n (drop x s))
    ∙ ap (λ l. cleared s x n && all_zero l) (drop-drop n x s ∙ ap (λ k. drop k s) e)

cleared_more : (s : List ℕ) (x i : ℕ) → x + i < length s → cleared s x (i + 1) ≡ (cleared s x i && eqb (get_or s (x + i) 0) 0)
unfolding all_zero
cleared_more s x i h =
    let k : i < length (drop x s) = simp length-drop (omega arith) in
    ap (λ n. cleared s x n) (add-one i) ∙ ap all_zero (take-suc (drop x s) i 0 k) ∙ zero_append (take i (drop x s)) (get_or (drop x s) i 0 ∷ [])
    ∙ ap (λ e. cleared s x i && e) (and_one (eqb (get_or (drop x s) i 0) 0) ∙ ap (λ y. eqb y 0) (get_or-drop x s i 0))

and_four : (p q r t a b c d : Bool) → (p && q && r && t && a && b && c && d) ≡ (p && a && (q && b) && (r && c) && (t && d))
and_four true true true true a b c d = refl
and_four false q r t a b c d = refl
and_four true false r t false b c d = refl
and_four true false r t true b c d = refl
and_four true true false t false b c d = refl
and_four true true false t true false c d = refl
and_four true true false t true true c d = refl
and_four true true true false false b c d = refl
and_four true true true false true false c d = refl
and_four true true true false true true false d = refl
and_four true true true false true true true d = refl

module _ (s : List ℕ) (at n : ℕ) where
  abbrev pub quarters : ℕ → Bool
  quarters i = cleared s at i && cleared s (at + n) i && cleared s (at + n * 2) i && cleared s (at + n * 3) i

  pub quarters_more : (any i : ℕ) → i < n → at + n * 4 ≤ length s → eqb any 0 ≡ quarters i
      → eqb (bit_or (bit_or (bit_or (bit_or any (get_or s (at + i) 0)) (get_or s (at + n + i) 0)) (get_or s (at + n * 2 + i) 0)) (get_or s (at + n * 3 + i) 0)) 0
      ≡ quarters (i + 1)
  quarters_more any i h k e =
      let x0 = get_or s (at + i) 0 in
      let x1 = get_or s (at + n + i) 0 in
      let x2 = get_or s (at + n * 2 + i) 0 in
      let x3 = get_or s (at + n * 3 + i) 0 in
      let c0 = cleared_more s at i (omega arith) in
      let c1 = cleared_more s (at + n) i (omega arith) in
      let c2 = cleared_more s (at + n * 2) i (omega arith) in
      let c3 = cleared_more s (at + n * 3) i (omega arith) in
      rw (or_zero (bit_or (bit_or (bit_or any x0) x1) x2) x3, or_zero (bit_or (bit_or any x0) x1) x2, or_zero (bit_or any x0) x1, or_zero any x0, e, c0, c1, c2, c3)
      (and_four (cleared s at i) (cleared s (at + n) i) (cleared s (at + n * 2) i) (cleared s (at + n * 3) i) (eqb x0 0) (eqb x1 0) (eqb x2 0) (eqb x3 0))

  pub quarters_whole : (any i : ℕ) → i ≡ n → eqb any 0 ≡ quarters i → all_zero (drop at s) ≡ (eqb any 0 && all_zero (drop (at + n * 4) s))
  quarters_whole any i z e =
      zero_split s at n (at + n) refl
      ∙ ap (λ x. cleared s at n && x) (zero_split s (at + n) n (at + n * 2) (omega arith)
      ∙ ap (λ x. cleared s (at + n) n && x) (zero_split s (at + n * 2) n (at + n * 3) (omega arith)
      ∙ ap (λ x. cleared s (at + n * 2) n && x) (zero_split s (at + n * 3) n (at + n * 4) (omega arith))))
      ∙ gone (cleared s at n) (cleared s (at + n) n) (cleared s (at + n * 2) n) (cleared s (at + n * 3) n) (all_zero (drop (at + n * 4) s))
      ∙ ap (λ x. x && all_zero (drop (at + n * 4) s)) (sym (e ∙ ap quarters z))
    where
      gone : (a b c d r : Bool) → (a && (b && (c && (d && r)))) ≡ (a && b && c && d && r)
      gone false b c d r = refl
      gone true false c d r = refl
      gone true true false d r = refl
      gone true true true d r = refl

-- a run that fills all of d
pub filled : {d v d' : List ℕ} {r : ℕ} → Runs d 0 v d' r → length v ≡ length d → d' ≡ v
filled {d} {v} f e =
    let h : length v ≤ length d = omega arith in let k : length d ≤ length v = omega arith in (front f h).0 ∙ rw (drop_of_length-le d k, append-nil v)

pub part_small : (s : List ℕ) (at n : ℕ) → length (part s at n) ≤ length s
unfolding part
part_small s at n =
    by_cases (λ (l : List ℕ). length l ≤ length s) (leb at (length s)) {x = cond (leb n (length s - at)) (take n (drop at s)) []} {y = []}
    (λ e. by_cases (λ (l : List ℕ). length l ≤ length s) (leb n (length s - at)) {x = take n (drop at s)} {y = []}
    (λ f. simp (length-take, length-drop) (omega arith)) (λ f. omega arith))
    (λ e. omega arith)

pub part_most : (s : List ℕ) (at n : ℕ) → length (part s at n) ≤ n
unfolding part
part_most s at n =
    by_cases (λ (l : List ℕ). length l ≤ n) (leb at (length s)) {x = cond (leb n (length s - at)) (take n (drop at s)) []} {y = []}
    (λ e. by_cases (λ (l : List ℕ). length l ≤ n) (leb n (length s - at)) {x = take n (drop at s)} {y = []} (λ f. simp length-take (omega arith))
    (λ f. omega arith))
    (λ e. omega arith)

pub part_none : (s : List ℕ) (at : ℕ) → part s at 0 ≡ []
unfolding part
part_none s at = go (leb at (length s)) (leb 0 (length s - at))
  where
    go : (a b : Bool) → cond a (cond b (take 0 (drop at s)) []) [] ≡ []
    go true true = refl
    go true false = refl
    go false b = refl
