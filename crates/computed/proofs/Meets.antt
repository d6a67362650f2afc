-- THE CODE MEETS DEMAND 2, and so demands 1 and 3: it computes a card that meets them. Assumes nothing.
use mathlib.Core.Path.{subst}
use seplogic.Ra.Ura.{Ura}
use base.Logic.{SProp, sep}
use prog.Memory.{Memory}
use prog.Model.{Model}
use types.Logic.{Logic}
use contract.Running.{Running, within, strict}
use prog.LinkedThreads.{tie_t}
use contract.Adequate.{Satisfies}
use Rattle.history.specs.Demands.{AnyCard, Demand1, Demand2, Demand3}
use Rattle.history.proofs.Images.{model, model_demand2, is_model}
use Rattle.history.proofs.Theorems.{demand1, demand3}
use Rattle.computed.specs.Computes.{Computes, look_in, ask_routine, settle_routine, off_routine, asked, settled, turned_off}
use Rattle.computed.proofs.World.{ask_wired, settle_wired, off_wired}
use Rattle.computed.proofs.Machine.{Call, Ends, ends}
use Rattle.practice.specs.contracts.practice_ask as ask
use Rattle.practice.proofs.practice_ask.Met as ask_met
use Rattle.practice.proofs.practice_ask.Symbol as ask_code
use Rattle.practice.specs.contracts.practice_settle as settle
use Rattle.practice.proofs.practice_settle.Met as settle_met
use Rattle.practice.proofs.practice_settle.Symbol as settle_code
use Rattle.practice.specs.contracts.practice_power_off as off
use Rattle.practice.proofs.practice_power_off.Met as off_met
use Rattle.practice.proofs.practice_power_off.Symbol as off_code

pub computes_model : Computes model
computes_model =
    record {
      asks = λ M 𝓤 𝓛 𝓜 𝓡. ask_met.met 𝓤 𝓛 𝓜 (within 𝓤 𝓛.H 𝓜 𝓡 (tie_t (look_in ask_code.code))) ask_wired;
      settles = λ M 𝓤 𝓛 𝓜 𝓡. settle_met.met 𝓤 𝓛 𝓜 (within 𝓤 𝓛.H 𝓜 𝓡 (tie_t (look_in settle_code.code))) settle_wired;
      turns_off = λ M 𝓤 𝓛 𝓜 𝓡. off_met.met 𝓤 𝓛 𝓜 (within 𝓤 𝓛.H 𝓜 𝓡 (tie_t (look_in off_code.code))) off_wired;
    }

-- every card that meets demand 2 is what the code computes
pub code_computes : (f : AnyCard) → Demand2 f → Computes f
code_computes f h = subst Computes (is_model f h) computes_model

-- and there is one
pub code_demands : (f : AnyCard) × Computes f × Demand1 f × Demand2 f × Demand3 f
code_demands = (model, computes_model, demand1 model model_demand2, model_demand2, demand3 model model_demand2)

-- on the machine: a run of the code from any memory that has the arguments ends, and returns and leaves what the card says
module _ {M : Type 1} {𝓤 : Ura M} (𝓛 : Logic 𝓤) (𝓜 : Model 𝓤 𝓛.H) (𝓡 : Running 𝓤 𝓛.H 𝓜) (f : AnyCard) (h : Demand2 f) (σ : Memory)
    (F : SProp 𝓤) where
  open 𝓛 use {H}

  pub ask_runs : (y : (Call 𝓛 𝓜 𝓡 ask.ended (asked f) ask_routine).Ghost)
      → Satisfies 𝓤 H 𝓜 σ (sep 𝓤 ((Call 𝓛 𝓜 𝓡 ask.ended (asked f) ask_routine).pre y) F)
      → ∥ Ends 𝓛 𝓜 𝓡 ask.ended (asked f) ask_routine y σ F ∥₁
  ask_runs y s = ends 𝓛 𝓜 𝓡 ask.ended (asked f) ask_routine ask_code.name ((code_computes f h).asks M 𝓤 𝓛 𝓜 (strict 𝓤 𝓛.H 𝓜 𝓡)) y σ F s

  pub settle_runs : (y : (Call 𝓛 𝓜 𝓡 settle.ended (settled f) settle_routine).Ghost)
      → Satisfies 𝓤 H 𝓜 σ (sep 𝓤 ((Call 𝓛 𝓜 𝓡 settle.ended (settled f) settle_routine).pre y) F)
      → ∥ Ends 𝓛 𝓜 𝓡 settle.ended (settled f) settle_routine y σ F ∥₁
  settle_runs y s = ends 𝓛 𝓜 𝓡 settle.ended (settled f) settle_routine settle_code.name ((code_computes f h).settles M 𝓤 𝓛 𝓜 (strict 𝓤 𝓛.H 𝓜 𝓡)) y σ F s

  pub off_runs : (y : (Call 𝓛 𝓜 𝓡 off.ended (turned_off f) off_routine).Ghost)
      → Satisfies 𝓤 H 𝓜 σ (sep 𝓤 ((Call 𝓛 𝓜 𝓡 off.ended (turned_off f) off_routine).pre y) F)
      → ∥ Ends 𝓛 𝓜 𝓡 off.ended (turned_off f) off_routine y σ F ∥₁
  off_runs y s = ends 𝓛 𝓜 𝓡 off.ended (turned_off f) off_routine off_code.name ((code_computes f h).turns_off M 𝓤 𝓛 𝓜 (strict 𝓤 𝓛.H 𝓜 𝓡)) y σ F s
