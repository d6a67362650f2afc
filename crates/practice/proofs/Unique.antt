-- No two outcomes meet the promise of settle, or that of ask, or that of a power-off: 01, "How much a promise has to say". Assumes nothing.
use Prim.Native.Nat.{ℕ}
use mathlib.Core.Path.{◌≡◌, sym, ap, ◌∙◌}
use mathlib.Core.List.{List}
use Rattle.manual.specs.declared.Outcome.{Outcome}
use Rattle.manual.specs.Settle.{Settled, settled_by, Posed, posed_by, Off, off_of}

-- what settle returns, the response's buffer, the next image's
pub one_settling : {r r' : Outcome} {out out' nxt nxt' : List ℕ} {s : Settled}
    → settled_by r out nxt ≡ s → settled_by r' out' nxt' ≡ s → (r ≡ r') × (out ≡ out') × (nxt ≡ nxt')
one_settling p q = let e = p ∙ sym q in (ap (λ z. z.result) e, ap (λ z. z.response) e, ap (λ z. z.next) e)

-- what ask returns, and the buffer for questions
pub one_asking : {r r' : Outcome} {out out' : List ℕ} {s : Posed} → posed_by r out ≡ s → posed_by r' out' ≡ s → (r ≡ r') × (out ≡ out')
one_asking p q = let e = p ∙ sym q in (ap (λ z. z.result) e, ap (λ z. z.questions) e)

-- what a power-off returns, and the next image's buffer
pub one_switching : {r r' : Outcome} {nxt nxt' : List ℕ} {s : Off} → off_of r nxt ≡ s → off_of r' nxt' ≡ s → (r ≡ r') × (nxt ≡ nxt')
one_switching p q = let e = p ∙ sym q in (ap (λ z. z.result) e, ap (λ z. z.next) e)
