-- WHAT THE CODE FORCES: whatever card it computes is the manual's, buffers included, on all slices of bytes. Assumes nothing.
use mathlib.Core.Path.{◌≡◌, sym, ap, ◌∙◌}
use Prim.Native.Nat.{ℕ, zero, suc}
use native.Mathlib.Nat.{ℕ_set}
use mathlib.Core.List.{List, [], ◌∷◌, ◌++◌, is_set}
use mathlib.Core.Logic.{∥∥₁_elim}
use seplogic.Ra.Ura.{Ura}
use base.Logic.{id⊢}
use mir.Syntax.{w8, w16, w32}
use mir.Val.{Val, Vals, vunit, vbool, vint, vfloat, vptr, vcode, vstruct, vnil, vcons, of_list, as_int}
use prog.Model.{Model}
use types.Logic.{Logic}
use contract.Lifetimes.{Lfts}
use contract.Running.{Running}
use contract.Closed.{model⁺, real⁺}
use contract.BorrowModel.{logic₀}
use denote.Signature.{type_at}
use denote.Laws.{Is, Fixes}
use Rattle.manual.specs.declared.Outcome.{Outcome}
use Rattle.manual.specs.Settle.{holding, ask_call, settle_call, Posed, posed_by, Settled, settled_by, Off, off_of}
use Rattle.history.specs.Demands.{AnyCard}
use Rattle.history.proofs.Images.{model}
use Rattle.computed.specs.Computes.{Computes, ask_routine, settle_routine, off_routine, asked, settled, turned_off, Sliceable}
use Rattle.computed.proofs.Meets.{computes_model}
use Rattle.computed.proofs.Lent.{Passed, shared, lent, lfts_of, wholes, args_of, vals_of}
use Rattle.computed.proofs.Start.{AllSliceable, laid, agree}
use Rattle.practice.specs.contracts.practice_ask as ask
use Rattle.practice.specs.contracts.practice_settle as settle
use Rattle.practice.specs.contracts.practice_power_off as off

-- a result as the machine has it, and what is read out of that
abbrev spelt : Outcome → List Val
spelt x = vstruct (vcons (vint w8 x.number) (vcons (vint w8 x.reason) (vcons (vint w16 x.word) (vcons (vint w32 x.length) vnil)))) ∷ []

abbrev fields_of : List Val → Vals
fields_of [] = vnil
fields_of (vunit ∷ vs) = vnil
fields_of (vbool b ∷ vs) = vnil
fields_of (vint w n ∷ vs) = vnil
fields_of (vfloat f x ∷ vs) = vnil
fields_of (vptr b o ∷ vs) = vnil
fields_of (vcode c ∷ vs) = vnil
fields_of (vstruct us ∷ vs) = us

abbrev number_at : ℕ → Vals → ℕ
number_at k vnil = 0
number_at zero (vcons v us) = as_int zero v (λ _ n. n)
number_at (suc k) (vcons v us) = number_at k us

-- two outcomes of one machine value are one
spelt_one : (x y : Outcome) → spelt x ≡ spelt y → x ≡ y
spelt_one x y e =
    λ i. record {
      number = number_at 0 (fields_of (e i));
      reason = number_at 1 (fields_of (e i));
      word = number_at 2 (fields_of (e i));
      length = number_at 3 (fields_of (e i));
    }

-- an outcome's machine value fixes it
outcome_fixes : (κs : Lfts (ask.ended).signature.lifetimes)
    → Fixes (type_at (ask.ended).signature.result κs) (Is (type_at (ask.ended).signature.result κs)) (λ z. z)
outcome_fixes κs x y vs p q = spelt_one x y (sym (tells x p) ∙ tells y q)
  where
    tells : (z : Outcome) → Is (type_at (ask.ended).signature.result κs) z vs → vs ≡ spelt z
    tells z r =
        r.1.0
        ∙ (λ i. vstruct (of_list (r.1.1.0.0 i ++ (r.1.1.1.0.0 i ++ (r.1.1.1.1.0.0 i ++ (r.1.1.1.1.1.0.0 i ++ []))))) ∷ [])

-- the slices of a call; where they lie does not matter, since the memory is chosen here
abbrev ask_slices : List ℕ → List ℕ → List ℕ → List ℕ → List Passed
ask_slices img q d page = shared img 0 0 ∷ shared q 0 0 ∷ shared d 0 0 ∷ lent page 0 0 ∷ []

abbrev settle_slices : List ℕ → List ℕ → List ℕ → List ℕ → List ℕ → List ℕ → List Passed
settle_slices img q d a out nxt = shared img 0 0 ∷ shared q 0 0 ∷ shared d 0 0 ∷ shared a 0 0 ∷ lent out 0 0 ∷ lent nxt 0 0 ∷ []

abbrev off_slices : List ℕ → List ℕ → List Passed
off_slices img nxt = shared img 0 0 ∷ lent nxt 0 0 ∷ []

-- an equation of outcomes or of bytes is a proposition, so the truncation of a run's existence can be left
outcome_set : IsSet Outcome
outcome_set x y p q =
    λ i j. record {
      number = ℕ_set x.number y.number (ap (λ z. z.number) p) (ap (λ z. z.number) q) i j;
      reason = ℕ_set x.reason y.reason (ap (λ z. z.reason) p) (ap (λ z. z.reason) q) i j;
      word = ℕ_set x.word y.word (ap (λ z. z.word) p) (ap (λ z. z.word) q) i j;
      length = ℕ_set x.length y.length (ap (λ z. z.length) p) (ap (λ z. z.length) q) i j;
    }

bytes_set : IsSet (List ℕ)
bytes_set = is_set ℕ_set

posed_set : IsSet Posed
posed_set x y p q =
    λ i j. record {
      result = outcome_set x.result y.result (ap (λ z. z.result) p) (ap (λ z. z.result) q) i j;
      questions = bytes_set x.questions y.questions (ap (λ z. z.questions) p) (ap (λ z. z.questions) q) i j;
    }

settled_set : IsSet Settled
settled_set x y p q =
    λ i j. record {
      result = outcome_set x.result y.result (ap (λ z. z.result) p) (ap (λ z. z.result) q) i j;
      response = bytes_set x.response y.response (ap (λ z. z.response) p) (ap (λ z. z.response) q) i j;
      next = bytes_set x.next y.next (ap (λ z. z.next) p) (ap (λ z. z.next) q) i j;
    }

off_set : IsSet Off
off_set x y p q =
    λ i j. record {
      result = outcome_set x.result y.result (ap (λ z. z.result) p) (ap (λ z. z.result) q) i j;
      next = bytes_set x.next y.next (ap (λ z. z.next) p) (ap (λ z. z.next) q) i j;
    }

module _ {M : Type 1} {𝓤 : Ura M} (𝓛 : Logic 𝓤) (𝓜 : Model 𝓤 𝓛.H) (𝓡 : Running 𝓤 𝓛.H 𝓜) (f : AnyCard) (h : Computes f) where
  ask_agrees : (img q d page : List ℕ) → AllSliceable (ask_slices img q d page)
      → f.taps.ask (holding img) (ask_call q d page) ≡ model.taps.ask (holding img) (ask_call q d page)
  ask_agrees img q d page g =
      let ps : List Passed = laid 0 (ask_slices img q d page) in
      ∥∥₁_elim (agree 𝓛 𝓜 𝓡 ask.ended ask_routine (ask_slices img q d page)
      (record {
        bound = λ ξ. (lfts_of ps ξ, wholes ps, tt, args_of 0 ps ξ, vals_of 0 ps ξ);
        ends_at = λ ξ ws. ws;
        enters = λ ξ. id⊢ 𝓤 _;
        leaves = λ ξ ws. id⊢ 𝓤 _;
      })
      (asked f) (asked model) h.asks computes_model.asks outcome_fixes g) (posed_set _ _)
      (λ r. sym r.5 ∙ ap (λ ws. posed_by r.1 ws.1.1.1.0) r.4 ∙ r.6)

  settle_agrees : (img q d a out nxt : List ℕ) → AllSliceable (settle_slices img q d a out nxt)
      → f.taps.settle (holding img) (settle_call q d a out nxt) ≡ model.taps.settle (holding img) (settle_call q d a out nxt)
  settle_agrees img q d a out nxt g =
      let ps : List Passed = laid 0 (settle_slices img q d a out nxt) in
      ∥∥₁_elim (agree 𝓛 𝓜 𝓡 settle.ended settle_routine (settle_slices img q d a out nxt)
      (record {
        bound = λ ξ. (lfts_of ps ξ, wholes ps, tt, args_of 0 ps ξ, vals_of 0 ps ξ);
        ends_at = λ ξ ws. ws;
        enters = λ ξ. id⊢ 𝓤 _;
        leaves = λ ξ ws. id⊢ 𝓤 _;
      })
      (settled f) (settled model) h.settles computes_model.settles (λ _. outcome_fixes ([], ([], ([], ([], tt))))) g) (settled_set _ _)
      (λ r. sym r.5 ∙ ap (λ ws. settled_by r.1 ws.1.1.1.1.0 ws.1.1.1.1.1.0) r.4 ∙ r.6)

  off_agrees : (img nxt : List ℕ) → AllSliceable (off_slices img nxt) → f.power_off (holding img) nxt ≡ model.power_off (holding img) nxt
  off_agrees img nxt g =
      let ps : List Passed = laid 0 (off_slices img nxt) in
      ∥∥₁_elim (agree 𝓛 𝓜 𝓡 off.ended off_routine (off_slices img nxt)
      (record {
        bound = λ ξ. (lfts_of ps ξ, wholes ps, tt, args_of 0 ps ξ, vals_of 0 ps ξ);
        ends_at = λ ξ ws. ws;
        enters = λ ξ. id⊢ 𝓤 _;
        leaves = λ ξ ws. id⊢ 𝓤 _;
      })
      (turned_off f) (turned_off model) h.turns_off computes_model.turns_off (λ _. outcome_fixes ([], ([], ([], ([], tt))))) g) (off_set _ _)
      (λ r. sym r.5 ∙ ap (λ ws. off_of r.1 ws.1.0) r.4 ∙ r.6)

-- at the closed model, from a memory made of the bytes, so that nothing of the logic is left in the statement
module _ (f : AnyCard) (h : Computes f) where
  pub ask_is : (img q d page : List ℕ) → Sliceable img → Sliceable q → Sliceable d → Sliceable page
      → f.taps.ask (holding img) (ask_call q d page) ≡ model.taps.ask (holding img) (ask_call q d page)
  ask_is img q d page gi gq gd gp =
      ask_agrees logic₀ model⁺ real⁺ f h img q d page (gi, (gq, (gd, (gp, tt))))

  pub settle_is : (img q d a out nxt : List ℕ) → Sliceable img → Sliceable q → Sliceable d → Sliceable a → Sliceable out → Sliceable nxt
      → f.taps.settle (holding img) (settle_call q d a out nxt) ≡ model.taps.settle (holding img) (settle_call q d a out nxt)
  settle_is img q d a out nxt gi gq gd ga go gn =
      settle_agrees logic₀ model⁺ real⁺ f h img q d a out nxt (gi, (gq, (gd, (ga, (go, (gn, tt))))))

  pub off_is : (img nxt : List ℕ) → Sliceable img → Sliceable nxt → f.power_off (holding img) nxt ≡ model.power_off (holding img) nxt
  off_is img nxt gi gn = off_agrees logic₀ model⁺ real⁺ f h img nxt (gi, (gn, tt))
