-- A MEMORY THAT HAS THE SLICES OF A CALL: the machine starts with all their bytes in one block, one slice after the other. So whatever is bytes, and no longer
-- than a slice can be, some memory holds. Assumes nothing.
use mathlib.Core.Path.{sym, subst}
use Prim.Native.Nat.{ℕ, suc, ◌+◌, ◌<◌, ◌^◌}
use native.Mathlib.Nat.{lt_trans, mul-one}
use mathlib.Core.List.{List, [], ◌∷◌, ◌++◌}
use lib.ListN.{length}
use lib.Dec.{lit<}
use seplogic.Ra.Ura.{Ura}
use base.Fraction.{full_share}
use mir.Syntax.{w8, ty_int}
use mir.Val.{vint}
use base.Logic.{SProp, ent, sep, emp, id⊢, via, assoc', mono_l, mono_r, mono∗, emp∗}
use prog.Model.{Model, AllFit}
use prog.AdequacyRun.{start_mem}
use prog.Routine.{Routine}
use types.Logic.{Logic}
use contract.Lifetimes.{Lfts}
use contract.Running.{Running}
use contract.Adequate.{Satisfies, sat_weaken, start_Satisfies}
use denote.Builtin.{u8}
use denote.Slice.{Room}
use denote.Signature.{type_at}
use denote.Laws.{Is, Fixes}
use denote.Triple.Clauses.{Ended}
use Rattle.wire.specs.Wire.{Bytes}
use Rattle.computed.specs.Computes.{Promise, Keeps, Sliceable}
use Rattle.computed.proofs.Lent.{Passed, shared, lent, Roomy, AllRoomy, bytes_at, lies, lies_all}
use Rattle.computed.proofs.Left.{Takes, Once, once}

abbrev bytes_of : Passed → List ℕ
bytes_of (shared ys b o) = ys
bytes_of (lent ys b o) = ys

abbrev pub joined : List Passed → List ℕ
joined [] = []
joined (p ∷ ps) = bytes_of p ++ joined ps

-- where the slice after one begins, and a slice put there, in block 0
abbrev after : List ℕ → ℕ → ℕ
after [] o = o
after (x ∷ xs) o = after xs (o + 1)

abbrev moved : Passed → ℕ → Passed
moved (shared ys b o) o' = shared ys 0 o'
moved (lent ys b o) o' = lent ys 0 o'

abbrev pub laid : ℕ → List Passed → List Passed
laid o [] = []
laid o (p ∷ ps) = moved p o ∷ laid (after (bytes_of p) o) ps

abbrev pub AllSliceable : List Passed → Type 0
AllSliceable [] = Unit {0}
AllSliceable (p ∷ ps) = Sliceable (bytes_of p) × AllSliceable ps

-- each byte fits its place, and each slice has room
fit : (xs : List ℕ) → Bytes xs → AllFit w8 xs
fit [] h = tt
fit (x ∷ xs) h = (record { fits = h 0 }, fit xs (λ i. h (suc i)))

fit_both : (xs ys : List ℕ) → AllFit w8 xs → AllFit w8 ys → AllFit w8 (xs ++ ys)
fit_both [] ys h k = k
fit_both (x ∷ xs) ys h k = (h.0, fit_both xs ys h.1 k)

fit_joined : (ps : List Passed) → AllSliceable ps → AllFit w8 (joined ps)
fit_joined [] g = tt
fit_joined (p ∷ ps) g = fit_both (bytes_of p) (joined ps) (fit (bytes_of p) g.0.0) (fit_joined ps g.1)

has_room : (n : ℕ) → n < 2 ^ 63 → Room u8 n
has_room n h = (lt_trans h (lit< tt), subst (λ (m : ℕ). m < 2 ^ 63) (sym (mul-one n)) h)

roomy : (p : Passed) (o : ℕ) → Sliceable (bytes_of p) → Roomy (moved p o)
roomy (shared ys b o) o' g = has_room (length ys) g.1
roomy (lent ys b o) o' g = has_room (length ys) g.1

pub all_roomy : (ps : List Passed) (o : ℕ) → AllSliceable ps → AllRoomy (laid o ps)
all_roomy [] o g = tt
all_roomy (p ∷ ps) o g = (roomy p o g.0, all_roomy ps (after (bytes_of p) o) g.1)

module _ {M : Type 1} {𝓤 : Ura M} (𝓛 : Logic 𝓤) (𝓜 : Model 𝓤 𝓛.H) where
  -- the block is cut where a slice ends
  open 𝓛 use {H}

  cut : (xs ys : List ℕ) (o : ℕ) → ent 𝓤 (bytes_at 𝓛 (xs ++ ys) 0 o) (sep 𝓤 (bytes_at 𝓛 xs 0 o) (bytes_at 𝓛 ys 0 (after xs o)))
  cut [] ys o = emp∗ 𝓤 (bytes_at 𝓛 ys 0 o)
  cut (x ∷ xs) ys o =
      let here : SProp 𝓤 = H.at full_share (ty_int w8) 0 o (vint w8 x) in
      let X : SProp 𝓤 = bytes_at 𝓛 xs 0 (o + 1) in
      let Y : SProp 𝓤 = bytes_at 𝓛 ys 0 (after xs (o + 1)) in
      via 𝓤 (sep 𝓤 here (sep 𝓤 X Y)) (mono_r 𝓤 here (cut xs ys (o + 1))) (assoc' 𝓤 here X Y)

  there : (p : Passed) (o : ℕ) → ent 𝓤 (bytes_at 𝓛 (bytes_of p) 0 o) (lies 𝓛 (moved p o))
  there (shared ys b o) o' = id⊢ 𝓤 (bytes_at 𝓛 ys 0 o')
  there (lent ys b o) o' = id⊢ 𝓤 (bytes_at 𝓛 ys 0 o')

  lay : (ps : List Passed) (o : ℕ) → ent 𝓤 (bytes_at 𝓛 (joined ps) 0 o) (lies_all 𝓛 (laid o ps))
  lay [] o = id⊢ 𝓤 (emp 𝓤)
  lay (p ∷ ps) o =
      via 𝓤 (sep 𝓤 (bytes_at 𝓛 (bytes_of p) 0 o) (bytes_at 𝓛 (joined ps) 0 (after (bytes_of p) o))) (cut (bytes_of p) (joined ps) o)
      (mono∗ 𝓤 (there p o) (lay ps (after (bytes_of p) o)))

  pub starts : (ps : List Passed) → AllSliceable ps → Satisfies 𝓤 H 𝓜 (start_mem (joined ps) []) (sep 𝓤 (lies_all 𝓛 (laid 0 ps)) (emp 𝓤))
  starts ps g = sat_weaken 𝓤 H 𝓜 (start_mem (joined ps) []) (mono_l 𝓤 (emp 𝓤) (lay ps 0)) (start_Satisfies 𝓤 H 𝓜 (joined ps) [] (fit_joined ps g) tt)

  -- so two promises that the code keeps speak of one result and of the same last bytes, on all slices
  pub agree : (𝓡 : Running 𝓤 H 𝓜) (T : Ended) (ρ : Routine) (ps : List Passed) (t : Takes 𝓛 𝓜 𝓡 T ρ (laid 0 ps)) (φ ψ : Promise T)
      → Keeps T φ ρ → Keeps T ψ ρ
      → ((κs : Lfts T.signature.lifetimes) → Fixes (type_at T.signature.result κs) (Is (type_at T.signature.result κs)) (λ z. z))
      → AllSliceable ps → ∥ Once 𝓛 𝓜 𝓡 T ρ (laid 0 ps) t φ ψ ∥₁
  agree 𝓡 T ρ ps t φ ψ k l fx g =
      once 𝓛 𝓜 𝓡 T ρ (laid 0 ps) t φ ψ k l fx (all_roomy ps 0 g) (start_mem (joined ps) []) (emp 𝓤) (starts ps g)
