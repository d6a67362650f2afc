-- Laws of the answers' shape: a signature for each of some questions. Assumes nothing.
use Rattle.std.proofs.Common.{◌≡◌, ℕ, zero, suc, ◌*◌, List, [], ◌∷◌, ◌&&◌, length, take, drop, eqb, refl, ap, sym, ◌∙◌, arith, length-take, length-drop}
use Rattle.std.proofs.lemmas.Bool.Decides.{nat_tests}
use Rattle.card.specs.Layout.{signature_size}
use Rattle.manual.specs.Row.{Question, Answer, exactly, any_byte, answer_to, fitting, shaped}
use Rattle.manual.specs.Wallet.{hash_questions}

-- QUESTIONS, n of them, that want a signature each
abbrev signature : Answer
signature = exactly signature_size any_byte

pub data Signed : ℕ → List Question → Type 0 where
  none : Signed zero []
  more : {x : Question} {xs : List Question} {n : ℕ} → answer_to x ≡ signature → Signed n xs → Signed (suc n) (x ∷ xs)

one : (a : List ℕ) → eqb (length a) 64 ≡ fitting signature a
one a = grind (arith, nat_tests)

-- a signature, and what n more want
one_more : (n : ℕ) (a : List ℕ) → (fitting signature (take 64 a) && eqb (length (drop 64 a)) (n * 64)) ≡ eqb (length a) (suc n * 64)
one_more n a = grind (arith, nat_tests, length-take 64 a, length-drop 64 a)

-- they have 64 bytes each
pub exactly_shaped : {n : ℕ} {xs : List Question} → Signed n xs → (a : List ℕ) → eqb (length a) (n * signature_size) ≡ shaped xs a
unfolding shaped
exactly_shaped none a = refl
exactly_shaped (more e none) a = one a ∙ sym (ap (λ w. fitting w a) e)
exactly_shaped (more e (more {x = y} {xs = ys} {n = n} f s)) a =
    sym (one_more (suc n) a)
    ∙ ap (λ b. fitting signature (take 64 a) && b) (exactly_shaped (more {x = y} f s) (drop 64 a))
    ∙ sym (ap (λ w. fitting w (take w.least a) && shaped (y ∷ ys) (drop w.least a)) e)

-- SIGN asks for one a hash
pub hashes_signed : (number curve n : ℕ) (l : List ℕ) → Signed n (hash_questions number curve n l)
unfolding hash_questions
hashes_signed number curve zero l = none
hashes_signed number curve (suc n) l = more refl (hashes_signed number curve n _)
