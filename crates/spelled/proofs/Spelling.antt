-- ONE SPELLING of a note: a good line is exactly the line of the note that it means, and that note fits its places. Assumes nothing.
use Prim.Native.Nat.{ℕ, ◌+◌, ◌≤◌, ◌<◌}
use native.Mathlib.Omega.{arith}
use mathlib.Core.Path.{◌≡◌, refl, sym, ap, ap₂, ◌∙◌}
use mathlib.Core.List.{List, [], ◌∷◌, ◌++◌}
use mathlib.Core.Bool.{Bool, true, false, cond, ◌&&◌}
use lib.ListN.{length, length-drop}
use lib.Dec.{ltb}
use borrow.Author.Tests.{ltb-true}
use Rattle.wire.specs.Wire.{part, pad}
use Rattle.wire.proofs.Laws.{both_true}
use Rattle.wire.proofs.Parts.{part_pad, length_pad}
use Rattle.std.proofs.Common.{Option, Some, None}
use Rattle.std.proofs.lemmas.Option.{same_Some}
use Rattle.text.specs.Text.{number_of}
use Rattle.text.specs.Lines.{length_to, head_to, tail_after, ended}
use Rattle.text.proofs.LineLaws.{split_first, ended_within}
use Rattle.notes.specs.declared.Note.{Note}
use Rattle.notes.specs.Notes.{good_of}
use Rattle.noteline.specs.NoteLine.{line_of, note_with, held, valued, fields_of, note_at}
use Rattle.spelled.specs.Spelled.{Ranges}
use Rattle.spelled.proofs.Decimal.{number_spelled}
use Rattle.spelled.proofs.Line.{good_facts, field_text, body, line_is}

-- WHAT WAS HELD of values that give a good note: they fit, and there is a text
record Held (t n h : ℕ) (w : List ℕ) (x : Note) : Type 0 where
  is : x ≡ note_with t n h w
  tablet : t < 256
  number : n < 65536
  hours : h < 1000000
  some : 0 < length w
  most : length w < 61

held_good : (t n h : ℕ) (w : List ℕ) (x : Note) → held t n h w ≡ Some x → good_of x ≡ true → Held t n h w x
unfolding held
held_good t n h w x e g = go (ltb t 256 && (ltb n 65536 && ltb (length w) 61)) refl e
  where
    go : (b : Bool) → (ltb t 256 && (ltb n 65536 && ltb (length w) 61)) ≡ b → cond b (Some (note_with t n h w)) None ≡ Some x → Held t n h w x
    go false p q = cc
    go true p q =
        let a = both_true (ltb t 256) (ltb n 65536 && ltb (length w) 61) p in
        let b = both_true (ltb n 65536) (ltb (length w) 61) a.1 in
        let d = same_Some (note_with t n h w) x q in
        let f = good_facts (note_with t n h w) (ap good_of d ∙ g) in
        record {
          is = sym d;
          tablet = ltb-true t 256 a.0;
          number = ltb-true n 65536 b.0;
          hours = f.hours;
          some = f.some;
          most = ltb-true (length w) 61 b.1;
        }

-- where something stands after the first tab, there is a tab
tab_there : (l : List ℕ) → 0 < length (tail_after 9 l) → length_to 9 l < length l
unfolding tail_after
tab_there l h = omega (arith, length-drop (length_to 9 l + 1) l)

-- THE SPELLING of a line l without its line feed, that means x
record Spells (l : List ℕ) (x : Note) : Type 0 where
  text : l ≡ body x
  ranges : Ranges x

module _ (l : List ℕ) where
  -- what stands after the first tab, the second and the third
  abbrev l₂ : List ℕ
  l₂ = tail_after 9 l

  abbrev l₃ : List ℕ
  l₃ = tail_after 9 l₂

  abbrev w : List ℕ
  w = tail_after 9 l₃

  -- the three fields before them are these numbers
  record Numbers (t n h : ℕ) : Type 0 where
    tablet : number_of (head_to 9 l) ≡ Some t
    number : number_of (head_to 9 l₂) ≡ Some n
    hours : number_of (head_to 9 l₃) ≡ Some h

  -- three numbers and a text, put together again
  parted : (t n h : ℕ) → 0 < length w → Numbers t n h → l ≡ field_text t n h w
  parted t n h s x =
      let k₃ = tab_there l₃ s in
      let k₂ = tab_there l₂ (omega arith) in
      let k₁ = tab_there l (omega arith) in
      let e₃ = split_first 9 l₃ k₃ ∙ ap (λ (v : List ℕ). v ++ (9 ∷ w)) (number_spelled (head_to 9 l₃) h x.hours) in
      let e₂ = split_first 9 l₂ k₂ ∙ ap₂ (λ (v u : List ℕ). v ++ (9 ∷ u)) (number_spelled (head_to 9 l₂) n x.number) e₃ in
      split_first 9 l k₁ ∙ ap₂ (λ (v u : List ℕ). v ++ (9 ∷ u)) (number_spelled (head_to 9 l) t x.tablet) e₂

  held_spells : (t n h : ℕ) (x : Note) → held t n h w ≡ Some x → good_of x ≡ true → Numbers t n h → Spells l x
  held_spells t n h x e g y =
      let d = held_good t n h w x e g in
      let m = d.most in
      let hh = d.hours in
      let k : length w ≤ 60 = omega arith in
      let a : part (pad 60 w) 0 (length w) ≡ w = part_pad 60 w k in
      rw d.is
      (record {
        text = parted t n h d.some y ∙ sym (ap (λ (v : List ℕ). field_text t n h v) a);
        ranges = record { tablet = d.tablet; number = d.number; hours = omega arith; len = omega arith; text = length_pad 60 w };
      })

  fields_spelled : (x : Note) → fields_of l ≡ Some x → good_of x ≡ true → Spells l x
  unfolding fields_of valued
  fields_spelled x e g = go (number_of (head_to 9 l)) (number_of (head_to 9 l₂)) (number_of (head_to 9 l₃)) refl refl refl e
    where
      go : (a b c : Option ℕ) → number_of (head_to 9 l) ≡ a → number_of (head_to 9 l₂) ≡ b → number_of (head_to 9 l₃) ≡ c → valued a b c w ≡ Some x → Spells l x
      go None b c p q r z = cc
      go (Some t) None c p q r z = cc
      go (Some t) (Some n) None p q r z = cc
      go (Some t) (Some n) (Some h) p q r z = held_spells t n h x z g (record { tablet = p; number = q; hours = r })

-- A GOOD LINE that a text begins with
record Begins (s : List ℕ) (x : Note) : Type 0 where
  text : s ≡ line_of x ++ tail_after 10 s
  ranges : Ranges x

line_begins : (s : List ℕ) (x : Note) → note_at s ≡ Some x → good_of x ≡ true → Begins s x
unfolding note_at
line_begins s x e g = go (ended s) refl e
  where
    go : (b : Bool) → ended s ≡ b → cond b (fields_of (head_to 10 s)) None ≡ Some x → Begins s x
    go false p q = cc
    go true p q =
        let r = tail_after 10 s in
        let f = fields_spelled (head_to 10 s) x q g in
        record {
          text = split_first 10 s (ended_within s p) ∙ ap (λ (l : List ℕ). l ++ (10 ∷ r)) f.text ∙ sym (line_is x r);
          ranges = f.ranges;
        }

pub line_spelled : (s : List ℕ) (x : Note) → note_at s ≡ Some x → good_of x ≡ true → s ≡ line_of x ++ tail_after 10 s
line_spelled s x e g = (line_begins s x e g).text

pub line_ranges : (s : List ℕ) (x : Note) → note_at s ≡ Some x → good_of x ≡ true → Ranges x
line_ranges s x e g = (line_begins s x e g).ranges

-- where there is no line there is no note
pub no_line : note_at [] ≡ None
unfolding note_at ended head_to length_to
no_line = refl
