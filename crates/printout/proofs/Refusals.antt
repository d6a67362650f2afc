-- THE LINE OF A REFUSAL begins with a letter, so that it is nobody's book; and a print is a book or such a line, Ask 8. Assumes nothing.
use Prim.Native.Nat.{ℕ, ◌<◌}
use native.Mathlib.Omega.{arith}
use mathlib.Core.Path.{◌≡◌, refl, ap}
use mathlib.Core.Bool.{Bool, true, false, cond}
use mathlib.Core.List.{List, ◌∷◌}
use mathlib.Core.Logic.{◌⊎◌, inl, inr}
use lib.Dec.{eqb}
use Rattle.wire.specs.Wire.{joined}
use Rattle.text.specs.Text.{all_of, is_digit, plain_decimal, number_of}
use Rattle.text.specs.Lines.{length_to, head_to, ended}
use Rattle.notes.specs.declared.Note.{Note}
use Rattle.notes.specs.Notes.{blank}
use Rattle.shelf.specs.Outcome.{Outcome}
use Rattle.std.proofs.Common.{None, Ok, Err}
use Rattle.shelf.specs.declared.Refusal.TheVariants.{BadLine, Clash, Full, NoRoom}
use Rattle.noteline.specs.NoteLine.{valued, fields_of, note_at}
use Rattle.booktext.specs.BookText.{Meaning, Book, BadAt, standing, meaning}
use Rattle.handed.specs.Handed.{outcome_of, union_of, printed, handed_parts, handed_text}
use Rattle.agreed.proofs.Means.{no_room_means}
use Rattle.spelled.proofs.Steps.{notes_bad}
use Rattle.printout.specs.Printout.{Refused, bad, clash, full}

-- A BYTE IN FRONT that is no digit, no tab and no line feed
module _ (b : ℕ) (s : List ℕ) where
  head_on : (c : ℕ) → eqb b c ≡ false → head_to c (b ∷ s) ≡ b ∷ head_to c s
  unfolding head_to length_to
  head_on c e = rw e

  no_number : is_digit b ≡ false → number_of (b ∷ s) ≡ None
  unfolding number_of plain_decimal all_of
  no_number e = rw e

module _ (b : ℕ) (s : List ℕ) (d : is_digit b ≡ false) (p : eqb b 9 ≡ false) (q : eqb b 10 ≡ false) where
  no_fields : fields_of (head_to 10 (b ∷ s)) ≡ None
  unfolding fields_of valued
  no_fields = rw (head_on b s 10 q, head_on b (head_to 10 s) 9 p, no_number b (head_to 9 (head_to 10 s)) d)

  no_note : note_at (b ∷ s) ≡ None
  unfolding note_at
  no_note = go (ended (b ∷ s))
    where
      go : (t : Bool) → cond t (fields_of (head_to 10 (b ∷ s))) None ≡ None
      go true = no_fields
      go false = refl

  pub no_first_line : meaning (b ∷ s) ≡ BadAt 1
  unfolding meaning standing
  no_first_line = notes_bad 255 1 blank b s (ap (standing blank) no_note)

-- A REFUSAL IS NO BOOK
refused_print : (o : Outcome) (l : List Note) → Refused o → meaning (joined (printed o l)) ≡ BadAt 1
unfolding printed joined is_digit
refused_print o l bad = no_first_line 108 _ refl refl refl
refused_print o l clash = no_first_line 99 _ refl refl refl
refused_print o l full = no_first_line 102 _ refl refl refl

pub refusal_is_no_book : (m n : Meaning) → Refused (outcome_of m n) → meaning (handed_text m n) ≡ BadAt 1
unfolding handed_text handed_parts
refusal_is_no_book m n r = refused_print (outcome_of m n) (union_of m n) r

-- NO ROOM never comes up
pub never_no_room : (m n : Meaning) → outcome_of m n ≡ Err NoRoom → ⊥
unfolding outcome_of
never_no_room (BadAt k) n e = cc
never_no_room (Book f) (BadAt k) e = cc
never_no_room (Book f) (Book s) e = let h : 256 < 256 = (no_room_means 256 f s).0 e in omega arith

-- so the outcome is done, or a refusal
pub done_or_refused : (m n : Meaning) → ((k : ℕ) × (outcome_of m n ≡ Ok k)) ⊎ Refused (outcome_of m n)
done_or_refused m n = go (outcome_of m n) (never_no_room m n)
  where
    go : (o : Outcome) → (o ≡ Err NoRoom → ⊥) → ((k : ℕ) × (o ≡ Ok k)) ⊎ Refused o
    go (Ok k) f = inl (k, refl)
    go (Err (BadLine b k)) f = inr bad
    go (Err (Clash t k)) f = inr clash
    go (Err Full) f = inr full
    go (Err NoRoom) f = absurd (f refl)
