-- NO TWO OUTCOMES OF A CALL meet the promise of its function, 01 "How much a promise has to say". Said of the function's own contract: c is F.clauses, T is
-- F.ended, so a promise that is weakened falls. Assumes nothing.
use Rattle.std.specs.Prelude.{◌≡◌}
use seplogic.Ra.Ura.{Ura}
use base.Logic.{SProp, ent, sep, fst∗, snd∗}
use prog.Memory.{Memory}
use prog.Routine.{Routine}
use types.Logic.{Logic}
use contract.Monad.{Fun, fact, fact_i, fact_use}
use contract.Lifetimes.{Lfts}
use denote.Triple.Entry.{Args, Res}
use denote.Triple.Clauses.{Clauses, Ended, Lasts, at_exit}

-- the clauses of a function, in any model
abbrev pub Written : Ended → Type 2
Written T = (M : Type 1) (𝓤 : Ura M) → (𝓛 : Logic 𝓤) → (Memory → SProp 𝓤) → (Routine → Fun 𝓤) → Clauses 𝓤 T

-- an outcome: the result, and the last value of every parameter lent by &mut. `see` is what is looked at of the result: all of it, or what a reference
-- shows
abbrev pub OneSeen : (T : Ended) → Written T → (X : Type 0) → ((κs : Lfts T.signature.lifetimes) → Res T.signature κs → X) → Type 2
OneSeen T c X see =
    (M : Type 1) (𝓤 : Ura M) (𝓛 : Logic 𝓤) (mem : Memory → SProp 𝓤) (run : Routine → Fun 𝓤)
    (κs : Lfts T.signature.lifetimes) (a : Args T.signature κs) (g : (c M 𝓤 𝓛 mem run κs a).ghost)
    (z z' : Res T.signature κs) (ws ws' : Lasts T κs a)
    → ent 𝓤 (sep 𝓤 ((c M 𝓤 𝓛 mem run κs a).ensures g z (at_exit T κs a ws)) ((c M 𝓤 𝓛 mem run κs a).ensures g z' (at_exit T κs a ws')))
    (fact 𝓤 ((see κs z ≡ see κs z') × (ws ≡ ws')))

abbrev pub OneOutcome : (T : Ended) → Written T → Type 2
OneOutcome T c =
    (M : Type 1) (𝓤 : Ura M) (𝓛 : Logic 𝓤) (mem : Memory → SProp 𝓤) (run : Routine → Fun 𝓤)
    (κs : Lfts T.signature.lifetimes) (a : Args T.signature κs) (g : (c M 𝓤 𝓛 mem run κs a).ghost)
    (z z' : Res T.signature κs) (ws ws' : Lasts T κs a)
    → ent 𝓤 (sep 𝓤 ((c M 𝓤 𝓛 mem run κs a).ensures g z (at_exit T κs a ws)) ((c M 𝓤 𝓛 mem run κs a).ensures g z' (at_exit T κs a ws')))
    (fact 𝓤 ((z ≡ z') × (ws ≡ ws')))

-- from plain promises
pub plain : {M : Type 1} (𝓤 : Ura M) {φ ψ χ : Type 0} → (φ → ψ → χ) → ent 𝓤 (sep 𝓤 (fact 𝓤 φ) (fact 𝓤 ψ)) (fact 𝓤 χ)
plain 𝓤 {φ} {ψ} {χ} f =
    fact_use 𝓤 φ (fst∗ 𝓤 (fact 𝓤 φ) (fact 𝓤 ψ))
    (λ p. fact_use 𝓤 ψ (snd∗ 𝓤 (fact 𝓤 φ) (fact 𝓤 ψ)) (λ q. fact_i 𝓤 χ (sep 𝓤 (fact 𝓤 φ) (fact 𝓤 ψ)) (f p q)))
