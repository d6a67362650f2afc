use mathlib.Core.Path.{◌≡◌, sym, ap, ◌∙◌}
use mathlib.Core.Bool.{cond}
use Prim.Native.Nat.{ℕ}
use lib.ListN.{length}
use lib.Bits.{bit_or}
use lib.Dec.{eqb}
use borrow.Author.Tests.{eq-eqb, ne_eqb}
use Rattle.wire.proofs.Comparing.{alike_gathered}
use Rattle.wire.proofs.equal.Goals as goal
use Rattle.wire.proofs.equal.Goals.{then-sent-code, else-sent-code}

pub returns : goal.returns
returns c =
    let s = c.args.sent.now in
    let k = c.args.code.now in
    let m = length s in
    let n = length k in
    elim c.if-sent-code.branch [
      | then-sent-code w ↦
          let d = w.differences-any.result in
          ap (λ y. eqb y 0) (w.any-is ∙ sym (whole m n d w.if-sent-code.true)) ∙ sym (alike_gathered s k d w.differences-any.ensures)
      | else-sent-code w ↦
          let d = w.differences.result in
          ap (λ y. eqb y 0) (w.any-is ∙ sym (other m n d w.if-sent-code.false)) ∙ sym (alike_gathered s k d w.differences.ensures)
    ]
  where
    whole : (m n d : ℕ) → m ≡ n → cond (eqb m n) d (bit_or d 1) ≡ d
    whole m n d e = rw (eq-eqb m n e)

    other : (m n d : ℕ) → (m ≡ n → ⊥) → cond (eqb m n) d (bit_or d 1) ≡ bit_or d 1
    other m n d e = rw (ne_eqb m n e)
