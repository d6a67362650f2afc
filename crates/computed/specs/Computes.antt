-- THE CODE COMPUTES A CARD: on every call the functions of the C face end, return and leave what the card f says. Assumes nothing.
use Rattle.std.specs.Prelude.{ℕ, ◌<◌, ◌^◌, ◌≡◌, List, [], ◌∷◌, length}
use seplogic.Ra.Ura.{Ura}
use base.Logic.{emp}
use prog.Model.{Model}
use mir.Syntax.{Symbol, Callee}
use prog.Routine.{Routine, Binding}
use prog.Wired.{Code, Codes, node, threads, end, and}
use prog.Linked.{Entry, foreign, Entries, of_members, in_entries}
use prog.LinkedThreads.{tie_t}
use types.Logic.{Logic}
use contract.Monad.{fact}
use contract.Lifetimes.{Lfts}
use contract.Running.{Running}
use denote.Triple.Entry.{Args, Res}
use denote.Triple.Spec.{Meets}
use denote.Triple.Clauses.{Clauses, Ended, AtExit, closing}
use Rattle.wire.specs.Wire.{Bytes}
use Rattle.manual.specs.Settle.{holding, ask_call, settle_call, settled_by, posed_by, off_of}
use Rattle.history.specs.Demands.{AnyCard}
use Rattle.practice.specs.contracts.practice_ask as ask
use Rattle.practice.proofs.practice_ask.Symbol as ask_code
use Rattle.practice.specs.contracts.practice_settle as settle
use Rattle.practice.proofs.practice_settle.Symbol as settle_code
use Rattle.practice.specs.contracts.practice_power_off as off
use Rattle.practice.proofs.practice_power_off.Symbol as off_code

-- a promise: of the arguments, the result and the parameters at exit. Nothing is required of the caller
abbrev pub Promise : Ended → Type 1
Promise T = (κs : Lfts T.signature.lifetimes) → Args T.signature κs → Res T.signature κs → AtExit T κs → Type 0

abbrev pub promises : (T : Ended) → Promise T → {M : Type 1} (𝓤 : Ura M) → Clauses 𝓤 T
promises T φ 𝓤 κs a = record { ghost = Unit {0}; requires = λ _. emp 𝓤; ensures = λ _ z e. fact 𝓤 (φ κs a z e) }

-- what a code has: its functions, the foreign routines that they call, and the code of all that they name
abbrev pub of_foreign : List Binding → Entries → Entries
of_foreign [] t = t
of_foreign (f ∷ fs) t = (f.0, foreign f.1) ∷ of_foreign fs t

abbrev mutual
  pub entries : Code → Entries → Entries
  entries (node ms fs cs) t = of_members ms (of_foreign fs (all_entries cs t))
  entries threads t = t

  pub all_entries : Codes → Entries → Entries
  all_entries end t = t
  all_entries (and c cs) t = entries c (all_entries cs t)

-- a symbol stands for its entry in the code, and for nothing where it has none
abbrev pub look_in : Code → Symbol → Entry
look_in c = in_entries (entries c [])

-- the function of that name, where it and all that it calls is run as it is written
abbrev pub routine_of : Code → Callee → Routine
routine_of c k = tie_t (look_in c) k

-- the routine, which is the function's code, keeps the promise, in every model of the machine
abbrev pub Keeps : (T : Ended) → Promise T → Routine → Type 2
Keeps T φ ρ =
    (M : Type 1) (𝓤 : Ura M) (𝓛 : Logic 𝓤) (𝓜 : Model 𝓤 𝓛.H) (𝓡 : Running 𝓤 𝓛.H 𝓜)
    → Meets 𝓛 T.signature (𝓡.run ρ) (closing 𝓛 T (promises T φ 𝓤))

-- image, request, draw, buffer for questions
abbrev pub asked : AnyCard → Promise ask.ended
asked f κs a z e =
    posed_by z e.1.1.1.0.now ≡ f.taps.ask (holding a.0.now) (ask_call a.1.0.now a.1.1.0.now a.1.1.1.0.now)

-- image, request, draw, answers, buffers for the response and the next image
abbrev pub settled : AnyCard → Promise settle.ended
settled f κs a z e =
    settled_by z e.1.1.1.1.0.now e.1.1.1.1.1.0.now
    ≡ f.taps.settle (holding a.0.now)
    (settle_call a.1.0.now a.1.1.0.now a.1.1.1.0.now a.1.1.1.1.0.now a.1.1.1.1.1.0.now)

-- image, and the buffer for the next one
abbrev pub turned_off : AnyCard → Promise off.ended
turned_off f κs a z e = off_of z e.1.0.now ≡ f.power_off (holding a.0.now) a.1.0.now

-- the three of the C face
abbrev pub ask_routine : Routine
ask_routine = routine_of ask_code.code ask_code.name

abbrev pub settle_routine : Routine
settle_routine = routine_of settle_code.code settle_code.name

abbrev pub off_routine : Routine
off_routine = routine_of off_code.code off_code.name

pub record Computes (f : AnyCard) : Type 2 where
  pub asks : Keeps ask.ended (asked f) ask_routine
  pub settles : Keeps settle.ended (settled f) settle_routine
  pub turns_off : Keeps off.ended (turned_off f) off_routine

-- what a slice of bytes can be: it has fewer than 2 ^ 63, as isize::MAX allows
abbrev pub Sliceable : List ℕ → Type 0
Sliceable l = Bytes l × (length l < 2 ^ 63)
