-- A PRINT TELLS WHICH IT IS, Ask 8: the same bytes are printed for the same outcome alone, and the joined book can be told from them. Assumes nothing.
use Prim.Native.Nat.{ℕ}
use native.Mathlib.Omega.{arith}
use mathlib.Core.Path.{◌≡◌, refl, sym, ap, ap₂, ◌∙◌}
use mathlib.Core.Bool.{true}
use mathlib.Core.List.{List, [], ◌∷◌, ◌++◌}
use mathlib.Core.Logic.{◌⊎◌, inl, inr}
use lib.ListN.{length, get_or}
use Rattle.wire.specs.Wire.{joined}
use Rattle.text.specs.Text.{ascii, all_of, is_digit, decimal, decimal_of}
use Rattle.text.specs.Lines.{head_to, tail_after}
use Rattle.text.proofs.Laws.{decimal_decimal_of, is_digits_decimal_of}
use Rattle.text.proofs.LineLaws.{other, all_other, head_past, tail_past}
use Rattle.notes.specs.declared.Note.{Note}
use Rattle.shelf.specs.Outcome.{Outcome}
use Rattle.std.proofs.Common.{Ok, Err}
use Rattle.shelf.specs.declared.Refusal.TheVariants.{BadLine, Clash}
use Rattle.booktext.specs.BookText.{Meaning, Book, BadAt, meaning}
use Rattle.handed.specs.Handed.{told, outcome_of, union_of, printed, handed_parts, handed_text}
use Rattle.agreed.proofs.Theorems.{each_once}
use Rattle.spelled.proofs.Book.{no_book, same_book, means_ranges}
use Rattle.printout.specs.Printout.{Refused, bad, clash, full, print_of, PrintedBook}
use Rattle.printout.proofs.Refusals.{refusal_is_no_book, done_or_refused}
use Rattle.printout.proofs.Theorems.{union_back}

-- A PRINT THAT MEANS A BOOK is that of a join which is done, and the book is the union
module _ (s t : List ℕ) where
  -- what a join that is done prints
  done_means_book : (m n : Meaning) → meaning s ≡ m → meaning t ≡ n → (k : ℕ) → outcome_of m n ≡ Ok k
      → (meaning (handed_text m n) ≡ Book (union_of m n)) × (k ≡ length (union_of m n))
  unfolding outcome_of union_of
  done_means_book (BadAt j) n p q k e = cc
  done_means_book (Book f) (BadAt j) p q k e = cc
  done_means_book (Book f) (Book g) p q k e = (union_back f g k e (means_ranges s f p) (means_ranges t g q), (each_once 256 f g k e).1)

  pub print_tells : (l : List Note) → meaning (print_of s t) ≡ Book l → PrintedBook s t l
  print_tells l e = go (done_or_refused (meaning s) (meaning t))
    where
      go : ((k : ℕ) × (outcome_of (meaning s) (meaning t) ≡ Ok k)) ⊎ Refused (outcome_of (meaning s) (meaning t)) → PrintedBook s t l
      go (inl h) =
          let b = done_means_book (meaning s) (meaning t) refl refl h.0 h.1 in
          let z : union_of (meaning s) (meaning t) ≡ l = same_book (sym b.0 ∙ e) in
          record { outcome = h.1 ∙ ap Ok (b.1 ∙ ap length z); union = z }
      go (inr r) = absurd (no_book (sym (refusal_is_no_book (meaning s) (meaning t) r) ∙ e))

  -- and back
  pub joined_means : (l : List Note) → PrintedBook s t l → meaning (print_of s t) ≡ Book l
  joined_means l j = (done_means_book (meaning s) (meaning t) refl refl (length l) j.outcome).0 ∙ ap Book j.union

-- TWO LINES OF REFUSALS that are the same: the numbers are read back
no_tab : (n : ℕ) → all_of (other 9) (decimal_of n) ≡ true
unfolding is_digit
no_tab n = all_other is_digit 9 refl (decimal_of n) (is_digits_decimal_of n)

no_feed : (n : ℕ) → all_of (other 10) (decimal_of n) ≡ true
unfolding is_digit
no_feed n = all_other is_digit 10 refl (decimal_of n) (is_digits_decimal_of n)

same_decimal : (a b : ℕ) → decimal_of a ≡ decimal_of b → a ≡ b
same_decimal a b e = sym (decimal_decimal_of a) ∙ ap decimal e ∙ decimal_decimal_of b

module _ (w : List ℕ) (h : all_of (other 9) w ≡ true) where
  after_word : (a b : ℕ) → tail_after 9 (joined (told w a b)) ≡ decimal_of a ++ (9 ∷ (decimal_of b ++ (10 ∷ [])))
  unfolding joined
  after_word a b = tail_past 9 w (decimal_of a ++ (9 ∷ (decimal_of b ++ (10 ∷ [])))) h

  same_told : (a b c d : ℕ) → joined (told w a b) ≡ joined (told w c d) → (a ≡ c) × (b ≡ d)
  same_told a b c d e =
      let x = decimal_of b ++ (10 ∷ []) in
      let y = decimal_of d ++ (10 ∷ []) in
      let r : decimal_of a ++ (9 ∷ x) ≡ decimal_of c ++ (9 ∷ y) = sym (after_word a b) ∙ ap (tail_after 9) e ∙ after_word c d in
      let p : decimal_of a ≡ decimal_of c = sym (head_past 9 (decimal_of a) x (no_tab a)) ∙ ap (head_to 9) r ∙ head_past 9 (decimal_of c) y (no_tab c) in
      let u : x ≡ y = sym (tail_past 9 (decimal_of a) x (no_tab a)) ∙ ap (tail_after 9) r ∙ tail_past 9 (decimal_of c) y (no_tab c) in
      let q : decimal_of b ≡ decimal_of d = sym (head_past 10 (decimal_of b) [] (no_feed b)) ∙ ap (head_to 10) u ∙ head_past 10 (decimal_of d) [] (no_feed d) in
      (same_decimal a c p, same_decimal b d q)

-- and words differ in their first letter
first_byte : (s t : List ℕ) → s ≡ t → get_or s 0 0 ≡ get_or t 0 0
first_byte s t e = ap (λ (l : List ℕ). get_or l 0 0) e

same_refusal : (o p : Outcome) (l m : List Note) → Refused o → Refused p → joined (printed o l) ≡ joined (printed p m) → o ≡ p
unfolding printed joined all_of
same_refusal o p l m (bad {b = a} {k = b}) (bad {b = c} {k = d}) e = let z = same_told (ascii "line") refl a b c d e in ap₂ (λ (x y : ℕ). Err (BadLine x y)) z.0 z.1
same_refusal o p l m (clash {t = a} {n = b}) (clash {t = c} {n = d}) e = let z = same_told (ascii "clash") refl a b c d e in ap₂ (λ (x y : ℕ). Err (Clash x y)) z.0 z.1
same_refusal o p l m full full e = refl
same_refusal o p l m bad clash e = let z : ◌≡◌ {A = ℕ} 108 99 = first_byte _ _ e in absurd (omega arith)
same_refusal o p l m bad full e = let z : ◌≡◌ {A = ℕ} 108 102 = first_byte _ _ e in absurd (omega arith)
same_refusal o p l m clash bad e = let z : ◌≡◌ {A = ℕ} 99 108 = first_byte _ _ e in absurd (omega arith)
same_refusal o p l m clash full e = let z : ◌≡◌ {A = ℕ} 99 102 = first_byte _ _ e in absurd (omega arith)
same_refusal o p l m full bad e = let z : ◌≡◌ {A = ℕ} 102 108 = first_byte _ _ e in absurd (omega arith)
same_refusal o p l m full clash e = let z : ◌≡◌ {A = ℕ} 102 99 = first_byte _ _ e in absurd (omega arith)

-- THE SAME BYTES are printed for the same outcome alone
module _ (s t u v : List ℕ) (e : print_of s t ≡ print_of u v) where
  both_refused : Refused (outcome_of (meaning s) (meaning t)) → Refused (outcome_of (meaning u) (meaning v))
      → outcome_of (meaning s) (meaning t) ≡ outcome_of (meaning u) (meaning v)
  unfolding handed_text handed_parts
  both_refused a b = same_refusal _ _ (union_of (meaning s) (meaning t)) (union_of (meaning u) (meaning v)) a b e

  pub same_print : outcome_of (meaning s) (meaning t) ≡ outcome_of (meaning u) (meaning v)
  same_print = go (done_or_refused (meaning s) (meaning t)) (done_or_refused (meaning u) (meaning v))
    where
      go : ((k : ℕ) × (outcome_of (meaning s) (meaning t) ≡ Ok k)) ⊎ Refused (outcome_of (meaning s) (meaning t))
          → ((k : ℕ) × (outcome_of (meaning u) (meaning v) ≡ Ok k)) ⊎ Refused (outcome_of (meaning u) (meaning v))
          → outcome_of (meaning s) (meaning t) ≡ outcome_of (meaning u) (meaning v)
      go (inl a) b =
          let x = done_means_book s t (meaning s) (meaning t) refl refl a.0 a.1 in
          let z = print_tells u v (union_of (meaning s) (meaning t)) (ap meaning (sym e) ∙ x.0) in
          a.1 ∙ ap Ok x.1 ∙ sym z.outcome
      go (inr a) (inl b) =
          let x = done_means_book u v (meaning u) (meaning v) refl refl b.0 b.1 in
          absurd (no_book (sym (refusal_is_no_book (meaning s) (meaning t) a) ∙ ap meaning e ∙ x.0))
      go (inr a) (inr b) = both_refused a b
