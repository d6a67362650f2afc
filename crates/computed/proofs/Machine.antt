-- WHAT A RUN OF THE MACHINE DOES, of any function whose promise is a plain fact: from every memory that has what the call owns, it ends, and the result
-- and the lent buffers are as promised. Assumes nothing.
use Prim.Native.Nat.{ℕ}
use mathlib.Core.Path.{◌≡◌}
use mathlib.Core.Logic.{∥∥₁_prop, ∥∥₁_elim, ∥∥₁_map}
use seplogic.Ra.Ura.{Ura}
use mir.Val.{Val}
use base.Logic.{SProp, sep, ex, via, mono_l, fst∗, snd∗, comm∗, assoc∗}
use prog.Memory.{Memory}
use prog.Machine.{done}
use prog.Model.{Model}
use prog.Routine.{Callee, Routine, step}
use types.Logic.{Logic, sem}
use contract.Monad.{fact}
use contract.Running.{Running, alone, strict}
use contract.Adequate.{Satisfies, sat_weaken, sat_⇛, sat_ex∗, sat_fact}
use denote.Triple.Entry.{Res}
use denote.Triple.Statement.{Contract}
use denote.Triple.Adequate.{adequate}
use denote.Triple.Spec.{Back, triple_of, Meets}
use denote.Triple.Clauses.{Ended, Lasts, at_exit, lasts, closing}
use Rattle.computed.specs.Computes.{Promise, promises}

module _ {M : Type 1} {𝓤 : Ura M} (𝓛 : Logic 𝓤) (𝓜 : Model 𝓤 𝓛.H) (𝓡 : Running 𝓤 𝓛.H 𝓜) (T : Ended) (φ : Promise T) (ρ : Routine) where
  open 𝓛 use {H}

  abbrev pub Call : Contract 𝓤
  Call = triple_of 𝓛 T.signature (closing 𝓛 T (promises T φ 𝓤))

  -- the run ends in v; z is the value that v stands for, and ws are the last values of what was lent by &mut, which its lender reads
  abbrev pub Ends : Call.Ghost → Memory → SProp 𝓤 → Type 1
  Ends y σ F =
      (n : ℕ) × (v : Val) × (σ' : Memory) × (z : Res T.signature y.0.0) × (ws : Lasts T y.0.0 y.0.3)
      × (step ρ n (Call.args y) σ ≡ done (v, σ')) × φ y.0.0 y.0.3 z (at_exit T y.0.0 y.0.3 ws)
      × Satisfies 𝓤 H 𝓜 σ' (sep 𝓤 (sem 𝓛 (lasts T y.0.0 y.0.3 ws)) (sep 𝓤 (Back 𝓛 T.signature y.0 v z) F))

  pub ends : Callee → Meets 𝓛 T.signature (𝓡.returns ρ) (closing 𝓛 T (promises T φ 𝓤)) → (y : Call.Ghost) (σ : Memory) (F : SProp 𝓤)
      → Satisfies 𝓤 H 𝓜 σ (sep 𝓤 (Call.pre y) F) → ∥ Ends y σ F ∥₁
  unfolding alone
  ends k met y σ F s =
      ∥∥₁_elim (adequate 𝓤 H 𝓜 (alone 𝓤 H 𝓜 (strict 𝓤 H 𝓜 𝓡) ρ) ((λ s o. o), tt) k Call met y σ F s) ∥∥₁_prop (λ r.
      let v : Val = r.1 in
      let σ' : Memory = r.2 in
      let B : Res T.signature y.0.0 → SProp 𝓤 = λ z. Back 𝓛 T.signature y.0 v z in
      let L : Lasts T y.0.0 y.0.3 → SProp 𝓤 = λ ws. sem 𝓛 (lasts T y.0.0 y.0.3 ws) in
      let P : Res T.signature y.0.0 → Lasts T y.0.0 y.0.3
      → SProp 𝓤 = λ z ws. fact 𝓤 (φ y.0.0 y.0.3 z (at_exit T y.0.0 y.0.3 ws)) in
      let E : Res T.signature y.0.0 → SProp 𝓤 = λ z. ex 𝓤 (λ (ws : Lasts T y.0.0 y.0.3). sep 𝓤 (L ws) (P z ws)) in
      ∥∥₁_elim (sat_ex∗ 𝓤 H 𝓜 σ' (λ (z : Res T.signature y.0.0). sep 𝓤 (B z) (E z)) F
      (sat_⇛ 𝓤 H 𝓜 σ' (ex 𝓤 (λ (z : Res T.signature y.0.0). sep 𝓤 (B z) (E z))) F r.4)) ∥∥₁_prop (λ q.
      let z : Res T.signature y.0.0 = q.0 in
      let G : SProp 𝓤 = sep 𝓤 (B z) F in
      ∥∥₁_elim (sat_ex∗ 𝓤 H 𝓜 σ' (λ (ws : Lasts T y.0.0 y.0.3). sep 𝓤 (L ws) (P z ws)) G
      (sat_weaken 𝓤 H 𝓜 σ' (via 𝓤 (sep 𝓤 (sep 𝓤 (E z) (B z)) F) (mono_l 𝓤 F (comm∗ 𝓤 (B z) (E z))) (assoc∗ 𝓤 (E z) (B z) F)) q.1)) ∥∥₁_prop (λ t.
      let ws : Lasts T y.0.0 y.0.3 = t.0 in
      let X : SProp 𝓤 = sep 𝓤 (L ws) (P z ws) in
      ∥∥₁_map (sat_fact 𝓤 H 𝓜 σ' (sep 𝓤 X G) (φ y.0.0 y.0.3 z (at_exit T y.0.0 y.0.3 ws))
      (via 𝓤 (sep 𝓤 X G) (snd∗ 𝓤 (𝓜.mem σ') (sep 𝓤 X G)) (via 𝓤 X (fst∗ 𝓤 X G) (snd∗ 𝓤 (L ws) (P z ws)))) t.1)
      (λ h. (r.0, v, σ', z, ws, r.3, h, sat_weaken 𝓤 H 𝓜 σ' (mono_l 𝓤 G (fst∗ 𝓤 (L ws) (P z ws))) t.1)))))
