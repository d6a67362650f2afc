-- HOW LONG a response and questions are, from what they are made of. Assumes nothing.
use Prim.Native.Nat.{ℕ, zero, suc, ◌+◌, ◌*◌, ◌≤◌}
use native.Mathlib.Omega.{arith}
use mathlib.Core.Path.{◌≡◌, refl}
use mathlib.Core.List.{List, [], ◌∷◌, ◌++◌}
use mathlib.Core.Bool.{Bool, true, false, cond}
use lib.ListN.{length, drop, length-append, length-take}
use lib.Dec.{eqb}
use Rattle.wire.specs.Wire.{joined}
use Rattle.wire.proofs.Laws.{by_cases, joined_append, part_small}
use Rattle.fields.specs.Fields.{Tagged, each, written, Writable}
use Rattle.fields.proofs.Laws.{head_small}
use Rattle.fields.proofs.Trip.{length_tlv}
use Rattle.card.specs.declared.Block.{Block}
use Rattle.card.specs.declared.Key.{Key}
use Rattle.card.specs.declared.Last.{Last}
use Rattle.card.specs.Layout.{signature_size}
use Rattle.card.specs.Values.{key_of, block_of, last_of}
use Rattle.manual.specs.Words.{hash_size}
use Rattle.manual.specs.Row.{Question, each_asked, asked}
use Rattle.manual.specs.Wallet.{curve_name, hash_questions}

-- RESPONSES: a field has at most four bytes beside its value
abbrev pub weight : List Tagged → ℕ
weight [] = 0
weight (f ∷ fs) = length f.value + 4 + weight fs

pub light_writes : (fs : List Tagged) → weight fs ≤ 65535 → Writable fs
light_writes [] h = tt
light_writes (f ∷ fs) h = (omega arith, light_writes fs (omega arith))

pub light_written : (fs : List Tagged) → Writable fs → length (written fs) ≤ weight fs
unfolding written each joined
light_written [] h = omega arith
light_written (f ∷ fs) h =
    let a = length_tlv f.tag f.value h.0 in
    let b = head_small f.tag (length f.value) in
    let c = light_written fs h.1 in
    simp length-append (omega arith)

pub weight_append : (fs gs : List Tagged) → weight (fs ++ gs) ≡ weight fs + weight gs
weight_append [] gs = omega arith
weight_append (f ∷ fs) gs = let e = weight_append fs gs in omega arith

-- one of two is no longer than both
pub weight_cond : (b : Bool) (fs gs : List Tagged) → weight (cond b fs gs) ≤ weight fs + weight gs
weight_cond true fs gs = omega arith
weight_cond false fs gs = omega arith

-- what is held, and the longer name
pub key_long : (k : Key) → length (key_of k) ≤ length k.bytes
unfolding key_of
key_long k = part_small k.bytes 0 k.size

pub block_long : (b : Block) → length (block_of b) ≤ length b.bytes
unfolding block_of
block_long b = part_small b.bytes 0 b.size

pub last_long : (l : Last) → length (last_of l) ≤ length l.signatures
unfolding last_of
last_long l = part_small l.signatures 0 (l.count * signature_size)

pub name_long : (n : ℕ) → length (curve_name n) ≤ 9
unfolding curve_name
name_long n = by_cases (λ (l : List ℕ). length l ≤ 9) (eqb n 1) (λ _. omega arith) (λ _. omega arith)

-- QUESTIONS: six bytes beside each message
abbrev pub parts : List (List ℕ) → ℕ
parts [] = 0
parts (v ∷ vs) = length v + parts vs

abbrev pub load : List Question → ℕ
load [] = 0
load (x ∷ xs) = parts x.message + 6 + load xs

joined_long : (vs : List (List ℕ)) → length (joined vs) ≡ parts vs
unfolding joined
joined_long [] = refl
joined_long (v ∷ vs) = let e = joined_long vs in simp length-append (omega arith)

pub asked_long : (xs : List Question) → length (asked xs) ≡ load xs
unfolding asked each_asked joined
asked_long [] = refl
asked_long (x ∷ xs) =
    let e = asked_long xs in
    let m = joined_long x.message in
    rw (joined_append x.message (each_asked xs), length-append (joined x.message) (joined (each_asked xs))) (omega arith)

pub hashes_long : (number curve n : ℕ) (l : List ℕ) → load (hash_questions number curve n l) ≤ n * (hash_size + 6)
unfolding hash_questions
hashes_long number curve zero l = omega arith
hashes_long number curve (suc n) l = let e = hashes_long number curve n (drop hash_size l) in let t = length-take hash_size l in omega arith
