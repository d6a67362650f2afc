-- No two outcomes meet the promise of begin, of step or of finish: 01, "How much a promise has to say". Assumes nothing.
use Prim.Native.Nat.{ℕ}
use mathlib.Core.Path.{◌≡◌, sym, ap, ◌∙◌}
use mathlib.Core.List.{List}
use Rattle.recording.specs.declared.Turn.{Turn}
use Rattle.recording.specs.Step.{Left, left_by}

-- what a call returns, the image, and the buffer that it prints into
pub one_turn : {r r' : Turn} {m m' out out' : List ℕ} {x : Left} → left_by r m out ≡ x → left_by r' m' out' ≡ x → (r ≡ r') × (m ≡ m') × (out ≡ out')
one_turn p q = let e = p ∙ sym q in (ap (λ z. z.result) e, ap (λ z. z.image) e, ap (λ z. z.out) e)
