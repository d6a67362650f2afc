-- A NOTE'S LINE, whatever follows it, is read back as that note. Assumes nothing.
use Prim.Native.Nat.{ℕ, ◌-◌, ◌≤◌, ◌<◌}
use native.Mathlib.Omega.{arith}
use mathlib.Core.Path.{◌≡◌, refl, ap, ◌∙◌}
use Rattle.std.proofs.Common.{Some}
use mathlib.Core.List.{List, [], ◌∷◌, ◌++◌, append_assoc}
use mathlib.Core.Bool.{true, not, ◌&&◌}
use lib.ListN.{length, drop, replicate, length-drop, take-append-drop}
use lib.Dec.{ltb, eqb}
use borrow.Author.Tests.{ltb-true, lt-ltb, eqb-true}
use Rattle.wire.specs.Wire.{part, pad, joined, all_zero}
use Rattle.wire.proofs.Laws.{both_true, padded, length_part, part_plain}
use Rattle.text.specs.Text.{all_of, is_digit, decimal_of}
use Rattle.text.specs.Lines.{tail_after}
use Rattle.text.proofs.Laws.{all_append, is_digits_decimal_of}
use Rattle.text.proofs.LineLaws.{other, all_other, head_past, tail_past, ended_past}
use Rattle.notes.specs.declared.Note.{Note}
use Rattle.notes.specs.Notes.{clean_of, text_good, good_of}
use Rattle.noteline.specs.NoteLine.{line_of, note_with, held, valued, fields_of, note_at}
use Rattle.spelled.specs.Spelled.{Ranges}
use Rattle.spelled.proofs.Decimal.{number_back}

-- A GOOD NOTE, fact by fact
pub record Good (x : Note) : Type 0 where
  pub number : 0 < x.number
  pub hours : x.hours < 1000000
  pub some : 0 < x.len
  pub most : x.len < 61
  pub clean : clean_of (part x.text 0 x.len) ≡ true
  pub zeros : all_zero (drop x.len x.text) ≡ true

pub good_facts : (x : Note) → good_of x ≡ true → Good x
unfolding good_of text_good
good_facts x e =
    let t₁ = ltb 0 x.number in
    let t₂ = ltb x.hours 1000000 in
    let t₃ = ltb 0 x.len in
    let t₄ = ltb x.len 61 in
    let t₅ = clean_of (part x.text 0 x.len) in
    let t₆ = all_zero (drop x.len x.text) in
    let p = both_true ((t₁ && t₂) && (t₃ && t₄)) (t₅ && t₆) e in
    let q = both_true (t₁ && t₂) (t₃ && t₄) p.0 in
    let a = both_true t₁ t₂ q.0 in
    let b = both_true t₃ t₄ q.1 in
    let c = both_true t₅ t₆ p.1 in
    record {
      number = ltb-true 0 x.number a.0;
      hours = ltb-true x.hours 1000000 a.1;
      some = ltb-true 0 x.len b.0;
      most = ltb-true x.len 61 b.1;
      clean = c.0;
      zeros = c.1;
    }

-- THE FIELDS of a line, without its line feed
abbrev pub field_text : ℕ → ℕ → ℕ → List ℕ → List ℕ
field_text t n h w = decimal_of t ++ (9 ∷ (decimal_of n ++ (9 ∷ (decimal_of h ++ (9 ∷ w)))))

abbrev pub body : Note → List ℕ
body x = field_text x.tablet x.number x.hours (part x.text 0 x.len)

pub line_is : (x : Note) (r : List ℕ) → line_of x ++ r ≡ body x ++ (10 ∷ r)
unfolding line_of joined
line_is x r = simp append_assoc

-- no tab and no line feed stands in a number, and no line feed in a clean text
no_tab : (n : ℕ) → all_of (other 9) (decimal_of n) ≡ true
unfolding is_digit
no_tab n = all_other is_digit 9 refl (decimal_of n) (is_digits_decimal_of n)

no_feed : (n : ℕ) → all_of (other 10) (decimal_of n) ≡ true
unfolding is_digit
no_feed n = all_other is_digit 10 refl (decimal_of n) (is_digits_decimal_of n)

clean_feed : (w : List ℕ) → clean_of w ≡ true → all_of (other 10) w ≡ true
unfolding clean_of all_of
clean_feed [] e = refl
clean_feed (x ∷ w) e =
    let p = both_true (not (eqb x 9) && not (eqb x 10)) (clean_of w) e in
    let q = both_true (not (eqb x 9)) (not (eqb x 10)) p.0 in
    rw q.1 (clean_feed w p.1)

fields_feed : (t n h : ℕ) (w : List ℕ) → clean_of w ≡ true → all_of (other 10) (field_text t n h w) ≡ true
unfolding all_of
fields_feed t n h w e =
    let l₃ = decimal_of h ++ (9 ∷ w) in
    let l₂ = decimal_of n ++ (9 ∷ l₃) in
    let a₃ : all_of (other 10) l₃ ≡ true = all_append (other 10) (decimal_of h) (9 ∷ w) (no_feed h) (clean_feed w e) in
    let a₂ : all_of (other 10) l₂ ≡ true = all_append (other 10) (decimal_of n) (9 ∷ l₃) (no_feed n) a₃ in
    all_append (other 10) (decimal_of t) (9 ∷ l₂) (no_feed t) a₂

-- READ BACK, the fields and then their values
fields_back : (t n h : ℕ) (w : List ℕ) → t < 4294967296 → n < 4294967296 → h < 4294967296 → fields_of (field_text t n h w) ≡ held t n h w
unfolding fields_of valued
fields_back t n h w a b c =
    let l₃ = decimal_of h ++ (9 ∷ w) in
    let l₂ = decimal_of n ++ (9 ∷ l₃) in
    rw (
      tail_past 9 (decimal_of t) l₂ (no_tab t),
      head_past 9 (decimal_of t) l₂ (no_tab t),
      tail_past 9 (decimal_of n) l₃ (no_tab n),
      head_past 9 (decimal_of n) l₃ (no_tab n),
      tail_past 9 (decimal_of h) w (no_tab h),
      head_past 9 (decimal_of h) w (no_tab h),
      number_back t a,
      number_back n b,
      number_back h c,
    )

held_back : (t n h : ℕ) (w : List ℕ) → t < 256 → n < 65536 → length w < 61 → held t n h w ≡ Some (note_with t n h w)
unfolding held
held_back t n h w a b c = rw (lt-ltb t 256 a, lt-ltb n 65536 b, lt-ltb (length w) 61 c)

-- the text in its room
zeros_are : (l : List ℕ) → all_zero l ≡ true → l ≡ replicate (length l) 0
unfolding all_zero
zeros_are [] e = refl
zeros_are (x ∷ l) e =
    let p = both_true (eqb x 0) (all_zero l) e in
    λ i. eqb-true x 0 p.0 i ∷ zeros_are l p.1 i

text_pads : (t : List ℕ) (k : ℕ) → length t ≡ 60 → k ≤ 60 → all_zero (drop k t) ≡ true → pad 60 (part t 0 k) ≡ t
text_pads t k l h e =
    let n : length (part t 0 k) ≡ k = length_part t 0 k (omega arith) in
    let m : length (drop k t) ≡ 60 - k = length-drop k t ∙ (let z : length t - k ≡ 60 - k = omega arith in z) in
    padded 60 (part t 0 k) (omega arith)
    ∙ rw (n, part_plain t 0 k (omega arith), ← m, ← zeros_are (drop k t) e) (take-append-drop k t)

-- THE LINE, read back as the note
module _ (x : Note) (e : good_of x ≡ true) (g : Ranges x) (r : List ℕ) where
  whole : all_of (other 10) (body x) ≡ true
  whole = fields_feed x.tablet x.number x.hours (part x.text 0 x.len) (good_facts x e).clean

  body_back : fields_of (body x) ≡ Some x
  body_back =
      let f = good_facts x e in
      let w = part x.text 0 x.len in
      let a = g.tablet in
      let b = g.number in
      let c = f.most in
      let n : length w ≡ x.len = length_part x.text 0 x.len (omega (arith, c, g.text)) in
      let p : pad 60 w ≡ x.text = text_pads x.text x.len g.text (omega arith) f.zeros in
      let z : note_with x.tablet x.number x.hours w ≡ x =
      λ i. record { tablet = x.tablet; number = x.number; hours = x.hours; len = n i; text = p i } in
      fields_back x.tablet x.number x.hours w (omega arith) (omega arith) g.hours
      ∙ held_back x.tablet x.number x.hours w a b (omega arith)
      ∙ ap Some z

  pub note_back : note_at (line_of x ++ r) ≡ Some x
  unfolding note_at
  note_back = rw (line_is x r, ended_past (body x) r whole, head_past 10 (body x) r whole) body_back

  pub tail_back : tail_after 10 (line_of x ++ r) ≡ r
  tail_back = rw (line_is x r) (tail_past 10 (body x) r whole)
