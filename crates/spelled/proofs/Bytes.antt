-- A TEXT OF BYTES means notes whose texts are bytes. Assumes nothing.
use Prim.Native.Nat.{ℕ, zero, suc, ◌+◌}
use mathlib.Core.Path.{◌≡◌, refl, sym, ◌∙◌, subst}
use mathlib.Core.List.{List, [], ◌∷◌}
use mathlib.Core.Bool.{Bool, true, false, cond, ◌&&◌}
use lib.ListN.{length}
use lib.Dec.{ltb}
use Rattle.wire.specs.Wire.{Bytes}
use Rattle.wire.proofs.Bytes.{bytes_take, bytes_drop, bytes_pad}
use Rattle.std.proofs.Common.{Option, Some, None}
use Rattle.std.proofs.lemmas.Option.{same_Some}
use Rattle.text.specs.Text.{number_of}
use Rattle.text.specs.Lines.{length_to, head_to, tail_after, ended}
use Rattle.notes.specs.declared.Note.{Note}
use Rattle.notes.specs.Notes.{blank}
use Rattle.noteline.specs.NoteLine.{note_with, held, valued, fields_of, note_at}
use Rattle.booktext.specs.BookText.{Meaning, Book, BadAt, also, standing, notes_from, meaning}
use Rattle.spelled.specs.Spelled.{EachBytes}
use Rattle.spelled.proofs.Steps.{notes_none, notes_full, notes_bad, notes_on, stands_means}
use Rattle.spelled.proofs.Book.{no_book, same_book}

-- THE FIRST FIELD of a line, and what follows it
bytes_head : (b : ℕ) (l : List ℕ) → Bytes l → Bytes (head_to b l)
unfolding head_to
bytes_head b l h = bytes_take (length_to b l) l h

bytes_tail : (b : ℕ) (l : List ℕ) → Bytes l → Bytes (tail_after b l)
unfolding tail_after
bytes_tail b l h = bytes_drop (length_to b l + 1) l h

-- THE NOTE OF A LINE
held_bytes : (t n h : ℕ) (w : List ℕ) (x : Note) → Bytes w → held t n h w ≡ Some x → Bytes x.text
unfolding held
held_bytes t n h w x k e = go (ltb t 256 && (ltb n 65536 && ltb (length w) 61)) e
  where
    go : (b : Bool) → cond b (Some (note_with t n h w)) None ≡ Some x → Bytes x.text
    go true d = subst (λ (z : Note). Bytes z.text) (same_Some (note_with t n h w) x d) (bytes_pad 60 w k)
    go false d = cc

valued_bytes : (a b c : Option ℕ) (w : List ℕ) (x : Note) → Bytes w → valued a b c w ≡ Some x → Bytes x.text
unfolding valued
valued_bytes None b c w x k e = cc
valued_bytes (Some t) None c w x k e = cc
valued_bytes (Some t) (Some n) None w x k e = cc
valued_bytes (Some t) (Some n) (Some h) w x k e = held_bytes t n h w x k e

fields_bytes : (l : List ℕ) (x : Note) → Bytes l → fields_of l ≡ Some x → Bytes x.text
unfolding fields_of
fields_bytes l x h =
    let l₂ = tail_after 9 l in
    let l₃ = tail_after 9 l₂ in
    valued_bytes (number_of (head_to 9 l)) (number_of (head_to 9 l₂)) (number_of (head_to 9 l₃)) (tail_after 9 l₃) x
    (bytes_tail 9 l₃ (bytes_tail 9 l₂ (bytes_tail 9 l h)))

pub line_bytes : (s : List ℕ) (x : Note) → Bytes s → note_at s ≡ Some x → Bytes x.text
unfolding note_at
line_bytes s x h e = go (ended s) e
  where
    go : (b : Bool) → cond b (fields_of (head_to 10 s)) None ≡ Some x → Bytes x.text
    go true d = fields_bytes (head_to 10 s) x (bytes_head 10 s h) d
    go false d = cc

-- ALL NOTES of a text
none_bytes : (n k : ℕ) (y : Note) (l : List Note) → notes_from n k y [] ≡ Book l → EachBytes l
unfolding EachBytes
none_bytes n k y l e = let z : l ≡ [] = same_book (sym e ∙ notes_none n k y) in rw z tt

more_bytes : (x : Note) (m : Meaning) (l : List Note) → Bytes x.text → also x m ≡ Book l → ((l' : List Note) → m ≡ Book l' → EachBytes l') → EachBytes l
unfolding also EachBytes
more_bytes x (BadAt j) l b q f = absurd (no_book q)
more_bytes x (Book l') l b q f = let z : l ≡ x ∷ l' = same_book (sym q) in rw z (b, f l' refl)

all_bytes : (n k : ℕ) (y : Note) (s : List ℕ) (l : List Note) → Bytes s → notes_from n k y s ≡ Book l → EachBytes l
all_bytes zero k y [] l h e = none_bytes 0 k y l e
all_bytes zero k y (b ∷ s) l h e = absurd (no_book (sym (notes_full k y b s) ∙ e))
all_bytes (suc n) k y [] l h e = none_bytes (suc n) k y l e
all_bytes (suc n) k y (b ∷ s) l h e =
    go (standing y (note_at (b ∷ s))) refl (λ x l'. all_bytes n (k + 1) x (tail_after 10 (b ∷ s)) l' (bytes_tail 10 (b ∷ s) h))
  where
    go : (m : Option Note) → standing y (note_at (b ∷ s)) ≡ m
        → ((x : Note) (l' : List Note) → notes_from n (k + 1) x (tail_after 10 (b ∷ s)) ≡ Book l' → EachBytes l') → EachBytes l
    go None p f = absurd (no_book (sym (notes_bad n k y b s p) ∙ e))
    go (Some x) p f =
        let t = tail_after 10 (b ∷ s) in
        let q = stands_means y x (note_at (b ∷ s)) p in
        more_bytes x (notes_from n (k + 1) x t) l (line_bytes (b ∷ s) x h q.0) (sym (notes_on n k y b s p) ∙ e) (f x)

pub means_bytes : (s : List ℕ) (l : List Note) → Bytes s → meaning s ≡ Book l → EachBytes l
unfolding meaning
means_bytes s l h e = all_bytes 256 1 blank s l h e
