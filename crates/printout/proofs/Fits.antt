-- A BUFFER OF 20,480 BYTES has room for every print, so that no part of it is left out, Ask 8. Assumes nothing.
use Prim.Native.Nat.{ℕ, ◌≤◌, ◌<◌}
use native.Mathlib.Omega.{arith}
use mathlib.Core.Path.{◌≡◌, refl, sym, ◌∙◌, subst}
use mathlib.Core.List.{List, ◌++◌}
use mathlib.Core.Logic.{inl, inr}
use lib.ListN.{length, take, drop, length-append}
use lib.Seq.{take_at}
use Rattle.wire.specs.Wire.{part, Wrotes, joined}
use Rattle.wire.proofs.Laws.{part_plain, all_run, front}
use Rattle.text.specs.Text.{ascii}
use Rattle.notes.specs.declared.Note.{Note}
use Rattle.shelf.specs.Outcome.{Outcome}
use Rattle.std.proofs.Common.{Some, None, Ok, Err}
use Rattle.shelf.specs.declared.Refusal.TheVariants.{BadLine, Clash, Full, NoRoom}
use Rattle.shelf.specs.Shelf.{most}
use Rattle.noteline.proofs.Laws.{three_digits, five_digits}
use Rattle.union.specs.Union.{merged}
use Rattle.booktext.specs.BookText.{Meaning, Book, BadAt, meaning, text_room}
use Rattle.handed.specs.Handed.{told, outcome_of, union_of, printed, handed_parts, handed_text}
use Rattle.agreed.specs.Agreed.{BadRecord}
use Rattle.shelf.proofs.Laws.{book_none}
use Rattle.agreed.proofs.Means.{bad_means, lowest_clash}
use Rattle.spelled.proofs.Book.{means_a_book, means_ranges}
use Rattle.spelled.proofs.Sizes.{longest_book}
use Rattle.spelled.proofs.Bad.{bad_line_is_first}
use Rattle.printout.specs.Printout.{Refused, bad, clash, full, print_of}
use Rattle.printout.proofs.Refusals.{never_no_room}
use Rattle.printout.proofs.Theorems.{done_print, of_each, union_book, union_ranges, cut_is_enough}

-- THE LINE OF A REFUSAL: a word of at most 5 letters, 3 and 5 digits, two tabs and a line feed
told_short : (w : List ℕ) (a b : ℕ) → length w ≤ 5 → a < 256 → b < 65536 → length (joined (told w a b)) ≤ 16
unfolding joined
told_short w a b h i j =
    let x = three_digits a (omega arith) in
    let y = five_digits b (omega arith) in
    simp length-append (omega (arith, x, y))

-- WHICH NUMBERS COME UP. A bad line is a line of a text: a text that means notes means a book
same_bad : {a j b k : ℕ} → ◌≡◌ {A = Outcome} (Err (BadLine a j)) (Err (BadLine b k)) → (a ≡ b) × (j ≡ k)
same_bad e = (cc, cc)

module _ (s t : List ℕ) where
  bad_from_lem : (m n : Meaning) → meaning s ≡ m → meaning t ≡ n → (b k : ℕ) → outcome_of m n ≡ Err (BadLine b k) → (1 ≤ b) × (b ≤ 2) × (1 ≤ k) × (k ≤ 257)
  unfolding outcome_of
  bad_from_lem (BadAt j) n p q b k e =
      let z = same_bad e in
      let h = bad_line_is_first s j p in
      (omega (arith, z), omega (arith, z), omega (arith, z, h), omega (arith, z, h))
  bad_from_lem (Book f) (BadAt j) p q b k e =
      let z = same_bad e in
      let h = bad_line_is_first t j q in
      (omega (arith, z), omega (arith, z), omega (arith, z, h), omega (arith, z, h))
  bad_from_lem (Book f) (Book g) p q b k e = absurd (go (bad_means most f g b k e))
    where
      go : BadRecord f g b k → ⊥
      go (inl h) = let z : None ≡ Some k = sym (book_none f (means_a_book s f p)) ∙ h.1 in cc
      go (inr h) = let z : None ≡ Some k = sym (book_none g (means_a_book t g q)) ∙ h.2 in cc

  -- "the line": of the first book or the second, and at most line 257
  pub bad_numbers : (b k : ℕ) → outcome_of (meaning s) (meaning t) ≡ Err (BadLine b k) → (1 ≤ b) × (b ≤ 2) × (1 ≤ k) × (k ≤ 257)
  bad_numbers b k e = bad_from_lem (meaning s) (meaning t) refl refl b k e

  clash_from : (m n : Meaning) → meaning s ≡ m → (c k : ℕ) → outcome_of m n ≡ Err (Clash c k) → (c < 256) × (k < 65536)
  unfolding outcome_of
  clash_from (BadAt j) n p c k e = cc
  clash_from (Book f) (BadAt j) p c k e = cc
  clash_from (Book f) (Book g) p c k e =
      let l = (lowest_clash most f g c k e).1 in
      let r = of_each f (means_ranges s f p) l.x l.clash.first in
      (omega (arith, l.tablet, r.tablet), omega (arith, l.number, r.number))

  -- a clash is at the tablet and number of a note
  pub clash_numbers : (c k : ℕ) → outcome_of (meaning s) (meaning t) ≡ Err (Clash c k) → (c < 256) × (k < 65536)
  clash_numbers c k e = clash_from (meaning s) (meaning t) refl c k e

  -- THE LINE OF A REFUSAL is short
  refusal_from : (o : Outcome) (l : List Note) → outcome_of (meaning s) (meaning t) ≡ o → Refused o → length (joined (printed o l)) ≤ 16
  unfolding printed joined
  refusal_from o l e (bad {b = b} {k = k}) = let h = bad_numbers b k e in told_short (ascii "line") b k (omega arith) (omega (arith, h)) (omega (arith, h))
  refusal_from o l e (clash {t = c} {n = k}) = let h = clash_numbers c k e in told_short (ascii "clash") c k (omega arith) h.0 h.1
  refusal_from o l e full = omega arith

  pub refusal_short : Refused (outcome_of (meaning s) (meaning t)) → length (print_of s t) ≤ 16
  unfolding handed_text handed_parts
  refusal_short r = refusal_from (outcome_of (meaning s) (meaning t)) (union_of (meaning s) (meaning t)) refl r

  -- A BOOK is no longer than the longest
  done_from : (m n : Meaning) → meaning s ≡ m → meaning t ≡ n → (k : ℕ) → outcome_of m n ≡ Ok k → length (handed_text m n) ≤ 19968
  unfolding outcome_of
  done_from (BadAt j) n p q k e = cc
  done_from (Book f) (BadAt j) p q k e = cc
  done_from (Book f) (Book g) p q k e =
      rw (done_print f g k e) (longest_book (merged f g) (union_book f g k e) (union_ranges f g k e (means_ranges s f p) (means_ranges t g q)))

  pub longest_print : length (print_of s t) ≤ 19968
  longest_print = go (outcome_of (meaning s) (meaning t)) refl
    where
      go : (o : Outcome) → outcome_of (meaning s) (meaning t) ≡ o → length (print_of s t) ≤ 19968
      go (Ok k) e = done_from (meaning s) (meaning t) refl refl k e
      go (Err (BadLine b k)) e = let h = refusal_short (subst Refused (sym e) bad) in omega arith
      go (Err (Clash c k)) e = let h = refusal_short (subst Refused (sym e) clash) in omega arith
      go (Err Full) e = let h = refusal_short (subst Refused (sym e) full) in omega arith
      go (Err NoRoom) e = absurd (never_no_room (meaning s) (meaning t) e)

  pub print_fits : length (print_of s t) ≤ text_room
  print_fits = omega (arith, longest_print)

  -- THE WHOLE PRINT is in a buffer with that room: what `handed` promises of it is that it begins with the print, and how long it is
  module _ {d d' : List ℕ} {r : ℕ} (h : text_room ≤ length d) (w : Wrotes d 0 (handed_parts (meaning s) (meaning t)) d' r) where
    pub whole_print : (d' ≡ print_of s t ++ drop (length (print_of s t)) d) × (r ≡ length (print_of s t))
    unfolding handed_text
    whole_print = front (all_run w) (omega (arith, print_fits, h))

    -- so what a program writes from it is the print
    pub print_of_buffer : part d' 0 r ≡ print_of s t
    print_of_buffer =
        let v = print_of s t in
        let u = drop (length v) d in
        rw (whole_print.0, whole_print.1)
        (part_plain (v ++ u) 0 (length v) (omega (arith, length-append v u)) ∙ take_at v u (length v) refl)

-- THE PROGRAM reads 20,480 bytes of each file at most, and has a buffer of as many: it prints what the whole files mean
pub program_prints :
    (s t : List ℕ) {d d' : List ℕ} {r : ℕ} → length d ≡ text_room → Wrotes d 0 (handed_parts (meaning (take text_room s)) (meaning (take text_room t))) d' r
    → part d' 0 r ≡ print_of s t
program_prints s t h w = print_of_buffer (take text_room s) (take text_room t) (omega arith) w ∙ cut_is_enough s t
