-- NO TWO OUTCOMES MEET A PROMISE of union, the last content of the lent list included: a theorem about each public function's own contract. Assumes nothing.
use mathlib.Core.Path.{sym, ap, ◌∙◌}
use Rattle.wire.specs.OneOutcome.{OneOutcome, plain}
use Rattle.shelf.specs.Outcome.{Outcome, after_of}
use Rattle.union.specs.Union.{merged}
use Rattle.union.specs.contracts.join as join

pub join_one : OneOutcome join.ended (λ M 𝓤. join.clauses {𝓤 = 𝓤})
join_one M 𝓤 𝓛 m r κs a g z z' ws ws' = plain 𝓤 (λ p q.
    let e = p.0 ∙ sym q.0 in
    let d = p.1 ∙ ap (λ (o : Outcome). after_of o (merged a.0.now a.1.0.now) a.1.1.0.now) e ∙ sym q.1 in
    (e, λ i. (tt, (tt, (d i, tt)))))
