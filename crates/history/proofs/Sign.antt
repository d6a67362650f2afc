-- WHAT A SIGN needed, asked and left, new or again. Assumes nothing.
use Prim.Native.Nat.{ℕ, zero, suc, ◌+◌, ◌*◌, ◌≤◌, ◌<◌}
use native.Mathlib.Omega.{arith}
use mathlib.Core.Path.{◌≡◌, refl, ap}
use mathlib.Core.List.{List, []}
use mathlib.Core.Bool.{Bool, true, false, cond, not, ◌&&◌}
use lib.ListN.{length, get_or, take, drop, length-take, length-drop}
use lib.Dec.{ltb, leb, eqb}
use borrow.Author.Tests.{ltb-true, leb-true, eqb-true}
use Rattle.fields.specs.Fields.{View, holds, val}
use Rattle.card.specs.declared.Face.{Face}
use Rattle.card.specs.Layout.{signature_size, most_hashes, top32}
use Rattle.card.specs.Values.{last_of}
use Rattle.kept.proofs.Kept.{last_of_held}
use Rattle.manual.specs.Words.{hash_size}
use Rattle.manual.specs.Tags.{CVC, TransactionHash}
use Rattle.manual.specs.Row.{Matched, Question, fitting, exactly, any_byte, shaped}
use Rattle.manual.specs.Wallet.{sign, is_new, count, sign_fields, hash_questions, signed_face}
use Rattle.facts.proofs.Wallet.{few}
use Rattle.history.proofs.Choice.{both_true, or_false}
use Rattle.history.proofs.Taps.{Passed}
use Rattle.history.proofs.Conduct.{loaded}

-- AN ANSWER of a fixed length
pub exact : (n : ℕ) (g : ℕ → Bool) (a : List ℕ) → fitting (exactly n g) a ≡ true → (length a ≡ n) × (g (get_or a 0 0) ≡ true)
exact n g a e =
    let x = both_true (leb n (length a)) (leb (length a) n && g (get_or a 0 0)) e in
    let y = both_true (leb (length a) n) (g (get_or a 0 0)) x.1 in
    (omega (arith, leb-true n (length a) x.0, leb-true (length a) n y.0), y.1)

-- THE ANSWERS to hashes have a signature each
hash_answers : (number curve n : ℕ) (l a : List ℕ) → shaped (hash_questions number curve n l) a ≡ true → length a ≡ n * signature_size
unfolding shaped hash_questions
hash_answers number curve zero l a e = omega (arith, eqb-true (length a) 0 e)
hash_answers number curve (suc zero) l a e = omega (arith, (exact signature_size any_byte a e).0)
hash_answers number curve (suc (suc n)) l a e =
    let x = both_true (fitting (exactly signature_size any_byte) (take signature_size a)) _ e in
    let y = (exact signature_size any_byte (take signature_size a) x.0).0 in
    let z = hash_answers number curve (suc n) (drop hash_size l) (drop signature_size a) x.1 in
    omega (arith, y, z, length-take signature_size a, length-drop signature_size a)

pub answer_size : (f : Face) (v : View) (d a : List ℕ) → is_new v ≡ true → shaped (sign.questions f v d) a ≡ true → length a ≡ count v * signature_size
answer_size f v d a n e = hash_answers f.front.wallet.number f.front.fixed.curve (count v) (val TransactionHash v) a (rw n at e)

-- NEEDED
pub record Needed (m : Matched) (f : Face) (v : View) : Type 0 where
  pub pin1 : m.pin1 ≡ true
  pub pin2 : m.pin2 ≡ true
  pub cvc : f.front.flags.usecvc ≡ 1 → holds CVC v f.front.fixed.cvc ≡ true
  pub active : f.front.flags.active ≡ 1
  pub alive : f.front.wallet.status ≡ 2
  pub fields : sign_fields v ≡ true
  -- of new hashes
  pub some : is_new v ≡ true → 0 < f.front.wallet.remaining
  pub fits : is_new v ≡ true → f.front.wallet.signed + count v ≤ top32
  pub few : is_new v ≡ true → count v ≤ most_hashes
  -- of the repeat
  pub held : is_new v ≡ false → 0 < f.last.count

pub needed : (m : Matched) (f : Face) (v : View) → Passed sign m f v → Needed m f v
needed m f v h =
    record {
      pin1 = h.pin1;
      pin2 = h.pin2;
      cvc = λ e. or_false (not (eqb f.front.flags.usecvc 1)) (holds CVC v f.front.fixed.cvc) h.cvc (ap (λ n. not (eqb n 1)) e);
      active = eqb-true f.front.flags.active 1 h.awake;
      alive = loaded sign.needs f.front.wallet.status h.allows refl refl;
      fields = h.fields;
      some = λ n. ltb-true 0 f.front.wallet.remaining (conditions n).0;
      fits = λ n. leb-true (f.front.wallet.signed + count v) top32 (conditions n).1;
      few = λ n. few v n h.fields;
      held = λ n. ltb-true 0 f.last.count (rw n at h.conditions);
    }
  where
    conditions : is_new v ≡ true → (ltb 0 f.front.wallet.remaining ≡ true) × (leb (f.front.wallet.signed + count v) top32 ≡ true)
    conditions n = both_true (ltb 0 f.front.wallet.remaining) (leb (f.front.wallet.signed + count v) top32) (rw n at h.conditions)

-- LEFT. A SIGN leaves the wallet alive
pub still : (b : Bool) (f : Face) (n : ℕ) (a : List ℕ) → (cond b (signed_face f n a) f).front.wallet.status ≡ f.front.wallet.status
still true f n a = refl
still false f n a = refl

-- what new hashes asked and left
pub record Signed (f : Face) (v : View) (a : List ℕ) (x : List Question) (g : Face) : Type 0 where
  pub questions : x ≡ hash_questions f.front.wallet.number f.front.fixed.curve (count v) (val TransactionHash v)
  pub size : length a ≡ count v * signature_size
  pub last : last_of g.last ≡ a

pub new_signed :
    (m : Matched) (f : Face) (v : View) (d a : List ℕ) → Passed sign m f v → is_new v ≡ true → shaped (sign.questions f v d) a ≡ true
    → Signed f v a (sign.questions f v d) (sign.next f v a)
new_signed m f v d a h n e =
    let l = answer_size f v d a n e in
    record { questions = rw n; size = l; last = rw n (last_of_held a (count v) l ((needed m f v h).few n)) }

-- and the repeat asks nothing
pub no_question : (f : Face) (v : View) (d : List ℕ) → is_new v ≡ false → sign.questions f v d ≡ []
no_question f v d n = rw n
