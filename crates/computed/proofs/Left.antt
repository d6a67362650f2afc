-- WHAT A CALL LEAVES IN ITS BUFFERS, of any function whose arguments are slices of bytes: a run from one memory leaves one memory, which fixes the last
-- bytes of the buffers, so two promises that the code keeps speak of the same bytes. Assumes nothing.
use mathlib.Core.Path.{◌≡◌, refl, sym, ap, subst, ◌∙◌}
use mathlib.Core.Logic.{∥∥₁_prop, ∥∥₁_elim, ∥∥₁_map}
use Prim.Native.Nat.{ℕ, zero, suc}
use native.Mathlib.Nat.{suc-ne-zero, suc_inj}
use mathlib.Core.Option.{Option, none, some as just}
use mathlib.Core.List.{List, [], ◌∷◌}
use lib.ListN.{length}
use seplogic.Ra.Ura.{Ura}
use mir.Val.{Val, as_int}
use base.Logic.{SProp, ent, sep, ex, emp, guard, via, assoc∗, mono_l, mono_r, snd∗, ex∗, guard_i}
use prog.Memory.{Memory}
use prog.Model.{Model}
use prog.Adequacy.{guard_r}
use prog.AdequacyRun.{Holds, run_adq}
use prog.Routine.{Routine, any_callee, ends-one}
use types.Logic.{Logic, sem}
use types.Kit.{‵, raw, ◌⊛◌, later, ◌$◌, ◌∵◌, !, qed, move, keep, split, split3, join, use2, use3, await, updating, now as at_once, done}
use contract.Monad.{fact, fact_mono}
use contract.Lifetimes.{Lfts}
use contract.Running.{Running, strict}
use contract.Adequate.{Satisfies, sat_weaken, sat_upd, sat_⇛, sat_ex∗, sat_fact}
use denote.RattleType.{RattleType}
use denote.Signature.{type_at}
use denote.Laws.{Is, Fixes, shows}
use denote.Steps.{nothing}
use denote.Triple.Entry.{Res, alive, on_entry}
use denote.Triple.Bound.{Bound, passed}
use denote.Triple.Spec.{Back}
use denote.Triple.Clauses.{Ended, at_exit}
use denote.Triple.Clauses as Clauses
use Rattle.computed.specs.Computes.{Promise, Keeps}
use Rattle.computed.proofs.Machine.{Ends, ends}
use Rattle.computed.proofs.Lent.{Passed, shared, lent, Fresh, AllRoomy, Last, Lasts, saids_of, bytes_at, lies_all, tokens, owned, asides, last, lasts}
use Rattle.computed.proofs.Lent.{Handed, lends_all, back_all}

-- the last bytes are found in memory
abbrev Found : Memory → (p : Passed) → Last p → Type 0
Found σ (shared ys b o) w = Unit {0}
Found σ (lent ys b o) w = (length w ≡ length ys) × Holds σ b o w

abbrev pub Founds : Memory → (ps : List Passed) → Lasts ps → Type 0
Founds σ [] ws = Unit {0}
Founds σ (p ∷ ps) ws = Found σ p ws.0 × Founds σ ps ws.1

number_of : Option Val → ℕ
number_of none = zero
number_of (just v) = as_int zero v (λ _ k. k)

-- bytes of one length that one memory holds at one place are the same, so one memory has one end for each buffer
holds_one : (σ : Memory) (b o : ℕ) (xs ys : List ℕ) → length xs ≡ length ys → Holds σ b o xs → Holds σ b o ys → xs ≡ ys
unfolding Holds number_of
holds_one σ b o [] [] e h k = refl
holds_one σ b o [] (y ∷ ys) e h k = absurd (suc-ne-zero (length ys) (sym e))
holds_one σ b o (x ∷ xs) [] e h k = absurd (suc-ne-zero (length xs) e)
holds_one σ b o (x ∷ xs) (y ∷ ys) e h k =
    λ i. ap number_of (sym h.0 ∙ k.0) i ∷ holds_one σ b (suc o) xs ys (suc_inj e) h.1 k.1 i

found_one : (σ : Memory) (p : Passed) (w w' : Last p) → Found σ p w → Found σ p w' → w ≡ w'
found_one σ (shared ys b o) w w' h k = refl
found_one σ (lent ys b o) w w' h k = holds_one σ b o w w' (h.0 ∙ sym k.0) h.1 k.1

pub founds_one : (σ : Memory) (ps : List Passed) (ws ws' : Lasts ps) → Founds σ ps ws → Founds σ ps ws' → ws ≡ ws'
founds_one σ [] ws ws' h k = refl
founds_one σ (p ∷ ps) ws ws' h k = λ i. (found_one σ p ws.0 ws'.0 h.0 k.0 i, founds_one σ ps ws.1 ws'.1 h.1 k.1 i)

module _ {M : Type 1} {𝓤 : Ura M} (𝓛 : Logic 𝓤) (𝓜 : Model 𝓤 𝓛.H) where
  open 𝓛 use {H}

  abbrev ◌∗◌ : SProp 𝓤 → SProp 𝓤 → SProp 𝓤
  P ∗ Q = sep 𝓤 P Q

  abbrev ◌⊢◌ : SProp 𝓤 → SProp 𝓤 → Type 1
  P ⊢ Q = ent 𝓤 P Q

  infixr 35 ◌∗◌
  infix 26 ◌⊢◌
  -- the buffers are read out of memory
  module _ (σ : Memory) where
    read_one : (p : Passed) (w : Last p) (F R : SProp 𝓤) → (Found σ p w → 𝓜.mem σ ∗ F ⊢ R) → 𝓜.mem σ ∗ last 𝓛 p w ∗ F ⊢ R
    read_one (shared ys b o) w F R k = via 𝓤 (𝓜.mem σ ∗ F) (mono_r 𝓤 (𝓜.mem σ) (snd∗ 𝓤 (emp 𝓤) F)) (k tt)
    read_one (lent ys b o) w F R k =
        let φ : Type 0 = length w ≡ length ys in
        let B : SProp 𝓤 = bytes_at 𝓛 w b o in
        via 𝓤 (𝓜.mem σ ∗ guard 𝓤 φ (B ∗ F)) (mono_r 𝓤 (𝓜.mem σ) (ex∗ 𝓤 (λ (_ : φ). B) F (λ e. guard_i 𝓤 φ (B ∗ F) e)))
        (guard_r 𝓤 H 𝓜 (𝓜.mem σ) φ (B ∗ F) R (λ e. run_adq 𝓤 H 𝓜 σ b w o F R (λ h _. k (e, h))))

    read_all : (ps : List Passed) (ws : Lasts ps) (F R : SProp 𝓤) → (Founds σ ps ws → 𝓜.mem σ ∗ F ⊢ R) → 𝓜.mem σ ∗ lasts 𝓛 ps ws ∗ F ⊢ R
    read_all [] ws F R k = via 𝓤 (𝓜.mem σ ∗ F) (mono_r 𝓤 (𝓜.mem σ) (snd∗ 𝓤 (emp 𝓤) F)) (k tt)
    read_all (p ∷ ps) ws F R k =
        let L : SProp 𝓤 = lasts 𝓛 ps ws.1 in
        via 𝓤 (𝓜.mem σ ∗ last 𝓛 p ws.0 ∗ L ∗ F) (mono_r 𝓤 (𝓜.mem σ) (assoc∗ 𝓤 (last 𝓛 p ws.0) L F))
        (read_one p ws.0 (L ∗ F) R (λ h. read_all ps ws.1 F R (λ hs. k (h, hs))))

  module _ (𝓡 : Running 𝓤 H 𝓜) (T : Ended) (ρ : Routine) (ps : List Passed) where
    pub record Takes : Type 1 where
      pub bound : Fresh ps → Bound 𝓛 T.signature
      pub ends_at : (ξ : Fresh ps) → Clauses.Lasts T (bound ξ).0 (bound ξ).3 → Lasts ps
      pub enters : (ξ : Fresh ps) → tokens 𝓛 ps ξ ∗ owned 𝓛 0 ps ξ ⊢ on_entry 𝓛 T.signature (bound ξ).0 (bound ξ).1 (bound ξ).3 (bound ξ).4
      pub leaves : (ξ : Fresh ps) (ws : Clauses.Lasts T (bound ξ).0 (bound ξ).3)
          → alive 𝓛 T.signature (bound ξ).0 (bound ξ).1 ∗ sem 𝓛 (Clauses.lasts T (bound ξ).0 (bound ξ).3 ws)
          ⊢ tokens 𝓛 ps ξ ∗ sem 𝓛 (saids_of ps ξ (ends_at ξ ws))

    module _ (t : Takes) where
      abbrev Result : Fresh ps → Type 0
      Result ξ = Res T.signature (t.bound ξ).0

      abbrev Left : Fresh ps → Type 0
      Left ξ = Clauses.Lasts T (t.bound ξ).0 (t.bound ξ).3

      abbrev Row : Fresh ps → RattleType
      Row ξ = type_at T.signature.result (t.bound ξ).0

      -- what there is when the run is over
      abbrev Over : (ξ : Fresh ps) → Val → Result ξ → Left ξ → SProp 𝓤 → SProp 𝓤
      Over ξ v z ws F =
          sem 𝓛 (Clauses.lasts T (t.bound ξ).0 (t.bound ξ).3 ws) ∗ Back 𝓛 T.signature (t.bound ξ) v z ∗ asides 𝓛 ps ξ ∗ F

      -- the lifetimes are ended: the buffers are back, and the result stays
      taken : (ξ : Fresh ps) (v : Val) (z : Result ξ) (ws : Left ξ) (F : SProp 𝓤)
          → Over ξ v z ws F ⊢ H.⇛ (lasts 𝓛 ps (t.ends_at ξ ws) ∗ sem 𝓛 ((Row ξ).own_val z (v ∷ [])))
      taken ξ v z ws F =
          qed 𝓛 (‵ (Clauses.lasts T (t.bound ξ).0 (t.bound ξ).3 ws)
          ∷ (raw (alive 𝓛 T.signature (t.bound ξ).0 (t.bound ξ).1) ⊛ ‵ ((Row ξ).own_val z (v ∷ [])))
          ∷ raw (asides 𝓛 ps ξ) ∷ raw F ∷ []) ∵ updating ! $ move ! (1 ∷ []) $ split ! $ move ! (0 ∷ 2 ∷ []) $
          use2 𝓛 (raw (tokens 𝓛 ps ξ) ⊛ ‵ (saids_of ps ξ (t.ends_at ξ ws))) (t.leaves ξ ws) $ split ! $ move ! (0 ∷ 1 ∷ 3 ∷ []) $
          use3 𝓛 (later (raw (lasts 𝓛 ps (t.ends_at ξ ws)))) (back_all 𝓛 ps ξ (t.ends_at ξ ws)) $ await ! tt $ at_once ! $
          keep ! (0 ∷ 1 ∷ []) $ done !

      -- what memory then shows: the value returned stands for the result, and the buffers' last bytes are there
      abbrev Shown : (ξ : Fresh ps) → Memory → Val → Result ξ → Left ξ → Type 0
      Shown ξ σ' v z ws = Is (Row ξ) z (v ∷ []) × Founds σ' ps (t.ends_at ξ ws)

      seen : (ξ : Fresh ps) (σ' : Memory) (v : Val) (z : Result ξ) (ws : Left ξ) (F : SProp 𝓤) → Satisfies 𝓤 H 𝓜 σ' (Over ξ v z ws F)
          → ∥ Shown ξ σ' v z ws ∥₁
      seen ξ σ' v z ws F s =
          let R : SProp 𝓤 = sem 𝓛 ((Row ξ).own_val z (v ∷ [])) in
          let L : SProp 𝓤 = lasts 𝓛 ps (t.ends_at ξ ws) in
          let I : Type 0 = Is (Row ξ) z (v ∷ []) in
          let X : Type 0 = Shown ξ σ' v z ws in
          sat_fact 𝓤 H 𝓜 σ' (L ∗ R) X (read_all σ' ps (t.ends_at ξ ws) R (fact 𝓤 X) (λ h.
          via 𝓤 R (snd∗ 𝓤 (𝓜.mem σ') R) (via 𝓤 (fact 𝓤 I) (shows 𝓛 (Row ξ) z (v ∷ [])) (fact_mono 𝓤 I X (λ i. (i, h))))))
          (sat_upd 𝓤 H 𝓜 σ' σ' (Over ξ v z ws F) (L ∗ R)
          (via 𝓤 (𝓜.mem σ' ∗ H.⇛ (L ∗ R)) (mono_r 𝓤 (𝓜.mem σ') (taken ξ v z ws F)) (𝓜.⇛_run σ' (L ∗ R))) s)

      abbrev At : Promise T → (ξ : Fresh ps) → Result ξ → Left ξ → Type 0
      At φ ξ z ws = φ (t.bound ξ).0 (t.bound ξ).3 z (at_exit T (t.bound ξ).0 (t.bound ξ).3 ws)

      -- two promises, kept of one result and of the same last bytes
      abbrev pub Once : Promise T → Promise T → Type 0
      Once φ ψ = (ξ : Fresh ps) × (z : Result ξ) × (ws : Left ξ) × (ws' : Left ξ) × (t.ends_at ξ ws ≡ t.ends_at ξ ws') × At φ ξ z ws × At ψ ξ z ws'

      enter : (ξ : Fresh ps) (F : SProp 𝓤) → Handed 𝓛 0 ps ξ ∗ F
          ⊢ (on_entry 𝓛 T.signature (t.bound ξ).0 (t.bound ξ).1 (t.bound ξ).3 (t.bound ξ).4 ∗ emp 𝓤) ∗ asides 𝓛 ps ξ ∗ F
      enter ξ F =
          let E : SProp 𝓤 = on_entry 𝓛 T.signature (t.bound ξ).0 (t.bound ξ).1 (t.bound ξ).3 (t.bound ξ).4 in
          qed 𝓛 ((raw (tokens 𝓛 ps ξ) ⊛ raw (owned 𝓛 0 ps ξ) ⊛ raw (asides 𝓛 ps ξ)) ∷ raw F ∷ []) ∵ split3 ! $
          use2 𝓛 (raw E) (t.enters ξ) $ nothing ! $ move ! (1 ∷ 0 ∷ []) $ join ! $ done !

      -- from any memory that has the bytes: both promises' runs are one run, and its memory fixes what they speak of
      pub once : (φ ψ : Promise T) → Keeps T φ ρ → Keeps T ψ ρ
          → ((κs : Lfts T.signature.lifetimes) → Fixes (type_at T.signature.result κs) (Is (type_at T.signature.result κs)) (λ z. z))
          → AllRoomy ps → (σ : Memory) (F : SProp 𝓤) → Satisfies 𝓤 H 𝓜 σ (lies_all 𝓛 ps ∗ F) → ∥ Once φ ψ ∥₁
      once φ ψ k l fx g σ F s =
          let Φ : Fresh ps → SProp 𝓤 = Handed 𝓛 0 ps in
          ∥∥₁_elim (sat_ex∗ 𝓤 H 𝓜 σ Φ F (sat_⇛ 𝓤 H 𝓜 σ (ex 𝓤 Φ) F (sat_weaken 𝓤 H 𝓜 σ (mono_l 𝓤 F (lends_all 𝓛 0 ps g)) s))) ∥∥₁_prop (λ q.
          let ξ : Fresh ps = q.0 in
          let G : SProp 𝓤 = asides 𝓛 ps ξ ∗ F in
          let runs : (χ : Promise T) → Keeps T χ ρ → ∥ Ends 𝓛 𝓜 𝓡 T χ ρ (t.bound ξ, tt) σ G ∥₁ =
          λ χ m. ends 𝓛 𝓜 𝓡 T χ ρ any_callee (m M 𝓤 𝓛 𝓜 (strict 𝓤 H 𝓜 𝓡)) (t.bound ξ, tt) σ G (sat_weaken 𝓤 H 𝓜 σ (enter ξ F) q.1) in
          ∥∥₁_elim (runs φ k) ∥∥₁_prop (λ r.
          ∥∥₁_elim (runs ψ l) ∥∥₁_prop (λ r'.
          ∥∥₁_elim (seen ξ r.2 r.1 r.3 r.4 F r.7) ∥∥₁_prop (λ h.
          ∥∥₁_map (seen ξ r'.2 r'.1 r'.3 r'.4 F r'.7) (λ h₁.
          let one : ◌≡◌ {A = Val × Memory} (r.1, r.2) (r'.1, r'.2) =
          ends-one ρ (passed 𝓛 T.signature (t.bound ξ)) σ (r.1, r.2) (r'.1, r'.2) (r.0, r.5) (r'.0, r'.5) in
          let h' : Shown ξ r.2 r.1 r'.3 r'.4 = subst (λ (x : Val × Memory). Shown ξ x.1 x.0 r'.3 r'.4) (sym one) h₁ in (
            ξ,
            r.3,
            r.4,
            r'.4,
            founds_one r.2 ps (t.ends_at ξ r.4) (t.ends_at ξ r'.4) h.1 h'.1,
            r.6,
            subst (λ (z : Result ξ). At ψ ξ z r'.4) (fx (t.bound ξ).0 r'.3 r.3 (r.1 ∷ []) h'.0 h.0) r'.6,
          ))))))
