-- What the proofs of `union` cite. Assumes nothing.
use Rattle.std.proofs.Common.{◌≡◌, refl, sym, ap, ◌∙◌, ℕ, zero, suc, ◌+◌, ◌≤◌, ◌<◌, arith, Bool, true, false, cond, List, [], ◌∷◌, ◌++◌, length, take, drop, set, add-one, ltb, Option, Some, None, Ok, Err}
use Rattle.std.proofs.Math.Seq.{take-length}
use Rattle.std.specs.declared.cmp.Ordering.{Ordering}
use Rattle.std.specs.declared.cmp.Ordering.TheVariants.{Less, Equal, Greater}
use Rattle.std.specs.Iterator.{MakesProgress, item_count}
use Rattle.std.specs.List.{find}
use Rattle.std.specs.Option.{option_map}
use Rattle.notes.specs.declared.Note.{Note}
use Rattle.notes.specs.Notes.{order_of}
use Rattle.shelf.specs.declared.Refusal.TheVariants.{Full, NoRoom}
use Rattle.shelf.specs.Shelf.{first_bad}
use Rattle.shelf.specs.Outcome.{Outcome}
use Rattle.union.specs.declared.Aside.{Aside}
use Rattle.union.specs.Aside.{pairs_left}
use Rattle.union.specs.Union.{by, Pair, First, Second, Both, seconds, besides, aside, note_in, notes_in, merged, clashes, lowest, fitting_of, matched_of, unless_bad, decided, join_of}

-- SIDE BY SIDE, by what each list begins with
module _ {f s : List Note} where
  pub aside_none : f ≡ [] → s ≡ [] → aside f s ≡ []
  unfolding aside seconds
  aside_none e d = rw (e, d)

  pub aside_first : {x : Note} {xs : List Note} → f ≡ x ∷ xs → s ≡ [] → aside f s ≡ First x ∷ aside xs s
  unfolding aside besides
  aside_first e d = rw (e, d)

  pub aside_second : {y : Note} {ys : List Note} → f ≡ [] → s ≡ y ∷ ys → aside f s ≡ Second y ∷ aside f ys
  unfolding aside seconds
  aside_second e d = rw (e, d)

  module _ {x y : Note} {xs ys : List Note} (e : f ≡ x ∷ xs) (d : s ≡ y ∷ ys) where
    pub aside_less : order_of x y ≡ Less → aside f s ≡ First x ∷ aside xs s
    unfolding aside besides by
    aside_less o = rw (e, d, o)

    pub aside_equal : order_of x y ≡ Equal → aside f s ≡ Both x y ∷ aside xs ys
    unfolding aside besides by
    aside_equal o = rw (e, d, o)

    pub aside_greater : order_of x y ≡ Greater → aside f s ≡ Second y ∷ aside f ys
    unfolding aside besides by
    aside_greater o = rw (e, d, o)

-- the first pair is taken: fewer are left
pub taken : {s t : Aside} {p : Pair} → pairs_left s ≡ p ∷ pairs_left t → MakesProgress (λ _. Unit {0}) (item_count pairs_left) s (Some p) t
taken e = record { on = λ _. (tt, tt, omega (arith, ap length e)); keeps = tt; rests = λ _. tt }

-- THE LOWEST CLASH is the first pair that clashes
at_clash : Pair → ℕ × ℕ
at_clash p = ((note_in p).tablet, (note_in p).number)

found_pair : (ps : List Pair) → lowest ps ≡ option_map at_clash (find clashes ps)
unfolding lowest at_clash
found_pair [] = refl
found_pair (p ∷ ps) = go (clashes p) (found_pair ps)
  where
    go : (t : Bool) → lowest ps ≡ option_map at_clash (find clashes ps) → cond t (Some (at_clash p)) (lowest ps) ≡ option_map at_clash (cond t (Some p) (find clashes ps))
    go true e = refl
    go false e = e

module _ (ps : List Pair) {r : Option Pair} (f : option_map (λ (p : Pair). p) r ≡ find clashes ps) where
  pub no_clash : r ≡ None → None ≡ lowest ps
  no_clash e = sym (found_pair ps ∙ ap (option_map at_clash) (sym f ∙ ap (option_map (λ (p : Pair). p)) e))

  pub clash_at : {p : Pair} {x : Note} → r ≡ Some p → x ≡ note_in p → Some (x.tablet, x.number) ≡ lowest ps
  unfolding at_clash
  clash_at e d = sym (found_pair ps ∙ ap (option_map at_clash) (sym f ∙ ap (option_map (λ (p : Pair). p)) e) ∙ ap (λ (n : Note). Some (n.tablet, n.number)) (sym d))

-- HOW MANY pairs there are
pub notes_length : (ps : List Pair) → length (notes_in ps) ≡ length ps
unfolding notes_in
notes_length [] = refl
notes_length (p ∷ ps) = ap suc (notes_length ps)

seconds_short : (s : List Note) → length (seconds s) ≤ length s
unfolding seconds
seconds_short [] = omega arith
seconds_short (y ∷ ys) = let h = seconds_short ys in omega arith

by_short : (o : Ordering) (n : ℕ) (b d a : List Pair) → length b ≤ n → length d ≤ n → length a ≤ n → length (by o b d a) ≤ n
unfolding by
by_short Less n b d a p q r = p
by_short Equal n b d a p q r = q
by_short Greater n b d a p q r = r

besides_short : (x : Note) (rest : List Note → List Pair) (n : ℕ) → ((s : List Note) → length (rest s) ≤ n + length s) → (s : List Note) → length (besides x rest s) ≤ suc n + length s
unfolding besides
besides_short x rest n h [] = let k = h [] in omega arith
besides_short x rest n h (y ∷ ys) =
    let p = h (y ∷ ys) in
    let q = h ys in
    let r = besides_short x rest n h ys in
    by_short (order_of x y) _ (First x ∷ rest (y ∷ ys)) (Both x y ∷ rest ys) (Second y ∷ besides x rest ys) (omega arith) (omega arith) (omega arith)

pub aside_short : (f s : List Note) → length (aside f s) ≤ length f + length s
unfolding aside
aside_short [] s = let h = seconds_short s in omega arith
aside_short (x ∷ xs) s = besides_short x (aside xs) (length xs) (aside_short xs) s

-- NOTES WRITTEN in a list j₀: n of the union, and what is left of the two lists
pub record Laid (f s j₀ : List Note) (n : ℕ) (t : Aside) (j : List Note) : Type 0 where
  pub left : n + length (pairs_left t) ≡ length (merged f s)
  pub rest : drop n (merged f s) ≡ notes_in (pairs_left t)
  pub list : j ≡ take n (merged f s) ++ drop n j₀

pub laid_none : {n : ℕ} {t : Aside} (s : Aside) (j : List Note) → n ≡ 0 → t ≡ s → Laid s.first.now s.second.now j n t j
unfolding merged
laid_none s j e d = rw (e, d) (record { left = omega (arith, notes_length (pairs_left s)); rest = refl; list = refl })

set_here : (n : ℕ) (l j : List Note) (x : Note) (r : List Note) → n < length j → drop n l ≡ x ∷ r → set (take n l ++ drop n j) n x ≡ take (suc n) l ++ drop (suc n) j
set_here zero (y ∷ l) (z ∷ j) x r h e = let d : y ≡ x = cc in rw d
set_here (suc n) (y ∷ l) (z ∷ j) x r h e = ap (λ (k : List Note). y ∷ k) (set_here n l j x r (omega arith) e)
set_here zero [] j x r h e = cc
set_here zero (y ∷ l) [] x r h e = absurd (omega arith)
set_here (suc n) [] j x r h e = cc
set_here (suc n) (y ∷ l) [] x r h e = absurd (omega arith)

drop-next : (n : ℕ) (l : List Note) (x : Note) (r : List Note) → drop n l ≡ x ∷ r → drop (suc n) l ≡ r
drop-next zero [] x r e = cc
drop-next zero (y ∷ l) x r e = cc
drop-next (suc n) [] x r e = cc
drop-next (suc n) (y ∷ l) x r e = drop-next n l x r e

module _ {f s j₀ j : List Note} {n : ℕ} {t : Aside} (a : Laid f s j₀ n t j) where
  pub laid_more : {u : Aside} {p : Pair} {x : Note} → length (merged f s) ≤ length j₀ → pairs_left t ≡ p ∷ pairs_left u → x ≡ note_in p → Laid f s j₀ (n + 1) u (set j n x)
  unfolding notes_in
  laid_more {u} {p} {x} h e d =
      let l = ap length e in
      let b = a.left in
      let r = a.rest ∙ ap notes_in e in
      record {
        left = omega arith;
        rest = rw (add-one, drop-next n (merged f s) (note_in p) _ r);
        list = rw (a.list, d, add-one, set_here n (merged f s) j₀ (note_in p) _ (omega arith) r);
      }

  pub laid_all : pairs_left t ≡ [] → j ≡ merged f s ++ drop (length (merged f s)) j₀
  laid_all e =
      let l = ap length e in
      let b = a.left in
      let k : n ≡ length (merged f s) = omega arith in
      a.list ∙ rw (k, take-length (merged f s))

-- A JOIN THAT IS DONE counts the notes of the union
fits : (t : Bool) (total n : ℕ) → ◌≡◌ {A = Outcome} (cond t (Err Full) (Ok total)) (Ok n) → n ≡ total
fits true total n e = cc
fits false total n e = cc

counts : (t : Bool) (a b : Option ℕ) (m : Option (ℕ × ℕ)) (total n : ℕ)
    → ◌≡◌ {A = Outcome} (cond t (Err NoRoom) (unless_bad 1 a (unless_bad 2 b (matched_of m total)))) (Ok n) → n ≡ total
unfolding unless_bad matched_of fitting_of
counts true a b m total n e = cc
counts false (Some k) b m total n e = cc
counts false None (Some k) m total n e = cc
counts false None None (Some c) total n e = cc
counts false None None None total n e = fits (ltb 256 total) total n e

pub join_counts : (places : ℕ) (f s : List Note) (n : ℕ) → join_of places f s ≡ Ok n → n ≡ length (merged f s)
unfolding join_of decided
join_counts places f s n e = counts (ltb places 256) (first_bad f) (first_bad s) (lowest (aside f s)) (length (merged f s)) n e
