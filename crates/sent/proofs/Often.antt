-- How often a tag stands, by the places and marks that a walk leaves: as often as by the payload, where its places fit 16 bits. Assumes nothing.
use Prim.Native.Nat.{ℕ, ◌+◌, ◌/◌, ◌%◌, ◌≤◌, ◌<◌}
use native.Mathlib.Omega.{arith}
use mathlib.Core.Path.{◌≡◌, refl, sym, ap, ◌∙◌}
use mathlib.Core.List.{List}
use mathlib.Core.Bool.{Bool, true, false, cond}
use lib.ListN.{length, get_or, set, replicate, length-replicate, get_or-replicate}
use lib.Seq.{get_or-set_same, get_or-set_other}
use lib.Dec.{ltb, eqb}
use borrow.Author.Tests.{ltb-true, eqb-true, eqb-false, lt-ltb, ne_eqb}
use Rattle.wire.proofs.Laws.{by_cases}
use Rattle.fields.specs.declared.Times.{Times}
use Rattle.fields.specs.declared.Times.TheVariants.{Absent, Once, Twice}
use Rattle.fields.specs.Fields.{Run, ended, broken, one, rest_from, copies, times_of}
use Rattle.fields.proofs.Laws.{Within, within}
use Rattle.fields.proofs.Often.{many}
use Rattle.sent.specs.Sent.{places, words, packed, marked, with_mark, noted, notes, walked, places_of, seen_times, often}
use Rattle.sent.proofs.Marks.{place_stays, mark_stays, is_marked, other_marked, no_bit, noted_length}

-- a place that is noted is not empty
packed_is : (b n : ℕ) → 0 < b → b ≤ 65535 → eqb (packed b n) 0 ≡ false
packed_is b n h k = ne_eqb (packed b n) 0 (λ q. omega (arith, q, h, k))

module _ (t : ℕ) (small : t < places) where
  -- the number that is known so far: none, one, or two and more
  abbrev known : Bool → Bool → ℕ
  known mark empty = cond mark 2 (cond empty 0 1)

  abbrev count : List ℕ → ℕ
  count l = known (marked l t) (eqb (get_or l t 0) 0)

  told : (l : List ℕ) → seen_times l t ≡ times_of (count l)
  told l = go (marked l t) (eqb (get_or l t 0) 0)
    where
      go : (m e : Bool) → cond m Twice (cond e Absent Once) ≡ times_of (known m e)
      go true e = refl
      go false true = refl
      go false false = refl

  -- a field with another tag touches neither place nor mark
  other : (l : List ℕ) (u b n : ℕ) → length l ≡ words → (u ≡ t → ⊥) → count (noted l u b n) ≡ count l
  unfolding noted
  other l u b n z h = go (ltb u places) refl (eqb (get_or l u 0) 0)
    where
      go : (c : Bool) → ltb u places ≡ c → (d : Bool) → count (cond c (cond d (set l u (packed b n)) (with_mark l u)) l) ≡ count l
      go true e true = rw (mark_stays l t (packed b n) (ltb-true u places e), get_or-set_other l u t (packed b n) 0 (λ q. h (sym q)))
      go true e false = rw (other_marked l z small (ltb-true u places e) h, place_stays l u small)
      go false e d = refl

  -- one with the tag is one more
  same : (l : List ℕ) (b n k : ℕ) → length l ≡ words → 0 < b → b ≤ 65535 → times_of (count (noted l t b n) + k) ≡ times_of (count l + (1 + k))
  unfolding noted
  same l b n k z h i = rw (lt-ltb t places small) (go (eqb (get_or l t 0) 0))
    where
      first : (m : Bool) → times_of (known m false + k) ≡ times_of (known m true + (1 + k))
      first true = many (2 + k) (omega arith) ∙ sym (many (2 + (1 + k)) (omega arith))
      first false = let q : 1 + k ≡ 0 + (1 + k) = omega arith in ap times_of q

      again : (m : Bool) → times_of (2 + k) ≡ times_of (known m false + (1 + k))
      again true = many (2 + k) (omega arith) ∙ sym (many (2 + (1 + k)) (omega arith))
      again false = let q : 2 + k ≡ 1 + (1 + k) = omega arith in ap times_of q

      go : (d : Bool) → times_of (count (cond d (set l t (packed b n)) (with_mark l t)) + k) ≡ times_of (known (marked l t) d + (1 + k))
      go true =
          rw (mark_stays l t (packed b n) small, get_or-set_same l t (packed b n) 0 (omega (arith, z, small)), packed_is b n h i) (first (marked l t))
      go false = rw (is_marked l z small) (again (marked l t))

  -- what a run leaves, from any places
  run_law : (p : List ℕ) → length p ≤ 65535 → (r : Run) → Within p r → (l : List ℕ) → length l ≡ words
      → times_of (count (notes r l)) ≡ times_of (count l + copies t r)
  run_law p z ended k l h = let q : count l ≡ count l + 0 = omega arith in ap times_of q
  run_law p z broken k l h = let q : count l ≡ count l + 0 = omega arith in ap times_of q
  run_law p z (one f r) k l h =
      run_law p z r k.1 (noted l f.tag f.start f.len) (noted_length l f.tag f.start f.len ∙ h)
      ∙ go (eqb f.tag t) refl
    where
      go : (c : Bool) → eqb f.tag t ≡ c
          → times_of (count (noted l f.tag f.start f.len) + copies t r) ≡ times_of (count l + (cond c 1 0 + copies t r))
      go true e = rw (eqb-true f.tag t e) (same l f.start f.len (copies t r) h k.0.0 (omega (arith, k.0.1, z)))
      go false e =
          let q : count l + copies t r ≡ count l + (0 + copies t r) = omega arith in
          ap (λ x. times_of (x + copies t r)) (other l f.tag f.start f.len h (eqb-false f.tag t e)) ∙ ap times_of q

  nothing : count (replicate words 0) ≡ 0
  unfolding marked
  nothing =
      let a = get_or-replicate {A = ℕ} words t 0 0 (omega (arith, small)) in
      let b = get_or-replicate {A = ℕ} words (places + t / 32) 0 0 (omega (arith, small)) in
      rw (a, b, no_bit (t % 32))

  below : (p : List ℕ) → length p ≤ 65535 → seen_times (places_of p) t ≡ times_of (copies t (rest_from p 0))
  unfolding walked
  below p z =
      let c = copies t (rest_from p 0) in
      let q : 0 + c ≡ c = omega arith in
      told (places_of p)
      ∙ run_law p z (rest_from p 0) (within p 0) (replicate words 0) (length-replicate {A = ℕ} words 0)
      ∙ ap (λ x. times_of (x + c)) nothing ∙ ap times_of q

-- at every tag
pub often_tag : (p : List ℕ) → length p ≤ 65535 → (t : ℕ) → often p (places_of p) t ≡ times_of (copies t (rest_from p 0))
unfolding often
often_tag p z t = by_cases (λ (x : Times). x ≡ times_of (copies t (rest_from p 0))) (ltb t places) (λ e. below t (ltb-true t places e) p z) (λ e. refl)
