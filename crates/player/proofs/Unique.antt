-- No two outcomes meet the promise of feed, or that of close: 01, "How much a promise has to say". Assumes nothing.
use Prim.Native.Nat.{ℕ}
use mathlib.Core.Path.{◌≡◌, sym, ap, ◌∙◌}
use mathlib.Core.List.{List}
use Rattle.player.specs.declared.Fed.{Fed}
use Rattle.player.specs.Feed.{Left, left_by}

-- what a call returns, the bytes held, the image, and the buffer that it prints into
pub one_feeding :
    {r r' : Fed} {text text' m m' out out' : List ℕ} {x : Left}
    → left_by r text m out ≡ x → left_by r' text' m' out' ≡ x → (r ≡ r') × (text ≡ text') × (m ≡ m') × (out ≡ out')
one_feeding p q =
    let e = p ∙ sym q in
    (ap (λ z. z.result) e, ap (λ z. z.text) e, ap (λ z. z.image) e, ap (λ z. z.out) e)
