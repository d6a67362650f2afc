-- What the proofs of `handed` cite. Assumes nothing.
use Rattle.std.proofs.Common.{◌≡◌, refl, sym, ap, ◌∙◌, subst, ℕ, ◌≤◌, arith, List, ◌++◌, length, take, drop, Ok, Err}
use lib.ListN.{length-append}
use lib.Seq.{take-append_seam}
use Rattle.notes.specs.declared.Note.{Note}
use Rattle.shelf.specs.declared.Refusal.{Refusal}
use Rattle.shelf.specs.declared.Refusal.TheVariants.{BadLine}
use Rattle.shelf.specs.Outcome.{after_of}
use Rattle.union.proofs.Laws.{join_counts}
use Rattle.booktext.specs.BookText.{Meaning, Book, BadAt, meaning, notes_of, read_outcome, read_as_of}
use Rattle.handed.specs.Handed.{outcome_of, union_of}

-- A TEXT READ into an array: its bad line
module _ (s : List ℕ) (b : ℕ) where
  bad_by : (m : Meaning) (r : Refusal) → Err r ≡ read_outcome b m → (k : ℕ) × (m ≡ BadAt k) × (r ≡ BadLine b k)
  unfolding read_outcome
  bad_by (Book l) r e = cc
  bad_by (BadAt k) r e = (k, refl, cc)

  pub read_bad : {r : Refusal} → Err r ≡ read_as_of b 256 s → (k : ℕ) × (meaning s ≡ BadAt k) × (r ≡ BadLine b k)
  unfolding read_as_of
  read_bad {r} e = bad_by (meaning s) r e

-- notes written in front of p, which is q then: so many notes of q are those that were written
pub record Front (l p q : List Note) (n : ℕ) : Type 0 where
  pub count : n ≡ length (take n q)
  pub few : n ≤ length q
  pub notes : take n q ≡ l

in_front : (l p q : List Note) → q ≡ l ++ drop (length l) p → Front l p q (length l)
in_front l p q e =
    let f : take (length l) q ≡ l = ap (take (length l)) e ∙ take-append_seam l (drop (length l) p) in
    let k = ap length e ∙ length-append l (drop (length l) p) in
    record { count = sym (ap length f); few = omega (arith, k); notes = f }

-- or its notes
module _ (s : List ℕ) (b : ℕ) (p q : List Note) where
  done_by : (m : Meaning) (n : ℕ) → meaning s ≡ m → Ok n ≡ read_outcome b m → q ≡ after_of (Ok n) (notes_of m) p → (meaning s ≡ Book (take n q)) × Front (notes_of m) p q n
  unfolding read_outcome notes_of after_of
  done_by (Book l) n e d f =
      let k : length l ≡ n = cc in
      let h = subst (Front l p q) k (in_front l p q f) in
      (e ∙ ap Book (sym h.notes), h)
  done_by (BadAt j) n e d f = cc

  pub read_done : {n : ℕ} → (Ok n ≡ read_as_of b 256 s) × (q ≡ after_of (Ok n) (notes_of (meaning s)) p) → (meaning s ≡ Book (take n q)) × Front (notes_of (meaning s)) p q n
  unfolding read_as_of
  read_done {n} e = done_by (meaning s) n refl e.0 e.1

-- THE JOIN THAT IS DONE counts the notes of the union
outcome_counts : (m n : Meaning) (k : ℕ) → outcome_of m n ≡ Ok k → k ≡ length (union_of m n)
unfolding outcome_of union_of
outcome_counts (BadAt j) n k e = cc
outcome_counts (Book f) (BadAt j) k e = cc
outcome_counts (Book f) (Book s) k e = join_counts 256 f s k e

pub joined_front : (m n : Meaning) {p q : List Note} {k : ℕ} → (Ok k ≡ outcome_of m n) × (q ≡ after_of (Ok k) (union_of m n) p) → Front (union_of m n) p q k
unfolding after_of
joined_front m n {p} {q} e = subst (Front (union_of m n) p q) (sym (outcome_counts m n _ (sym e.0))) (in_front (union_of m n) p q e.1)
