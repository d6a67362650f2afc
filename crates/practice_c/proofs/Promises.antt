-- NO TWO OUTCOMES MEET A PROMISE of practice_c: a theorem about each exported function's own contract. Assumes nothing.
use mathlib.Core.Path.{sym, ◌∙◌}
use Rattle.wire.specs.OneOutcome.{OneOutcome, plain}
use Rattle.wire.proofs.Unique.{one_equal}
use Rattle.practice.proofs.Unique.{one_settling, one_asking, one_switching}
use Rattle.practice_c.specs.contracts.practice_personalise as practice_personalise
use Rattle.practice_c.specs.contracts.practice_ask as practice_ask
use Rattle.practice_c.specs.contracts.practice_settle as practice_settle
use Rattle.practice_c.specs.contracts.practice_power_off as practice_power_off
use Rattle.practice_c.specs.contracts.practice_image_length as practice_image_length

pub practice_personalise_one : OneOutcome practice_personalise.ended (λ M 𝓤. practice_personalise.clauses {𝓤 = 𝓤})
practice_personalise_one M 𝓤 𝓛 m r κs a g z z' ws ws' = plain 𝓤 (λ p q. (p.0 ∙ sym q.0, λ i. (tt, ((p.1 ∙ sym q.1) i, tt))))

pub practice_ask_one : OneOutcome practice_ask.ended (λ M 𝓤. practice_ask.clauses {𝓤 = 𝓤})
practice_ask_one M 𝓤 𝓛 m r κs a g z z' ws ws' = plain 𝓤 (λ p q. let e = one_asking p q in (e.0, λ i. (tt, (tt, (tt, (e.1 i, tt))))))

pub practice_settle_one : OneOutcome practice_settle.ended (λ M 𝓤. practice_settle.clauses {𝓤 = 𝓤})
practice_settle_one M 𝓤 𝓛 m r κs a g z z' ws ws' =
    plain 𝓤 (λ p q. let e = one_settling p q in (e.0, λ i. (tt, (tt, (tt, (tt, (e.1 i, (e.2 i, tt))))))))

pub practice_power_off_one : OneOutcome practice_power_off.ended (λ M 𝓤. practice_power_off.clauses {𝓤 = 𝓤})
practice_power_off_one M 𝓤 𝓛 m r κs a g z z' ws ws' = plain 𝓤 (λ p q. let e = one_switching p q in (e.0, λ i. (tt, (e.1 i, tt))))

pub practice_image_length_one : OneOutcome practice_image_length.ended (λ M 𝓤. practice_image_length.clauses {𝓤 = 𝓤})
practice_image_length_one M 𝓤 𝓛 m r κs a g z z' ws ws' = plain 𝓤 (λ p q. one_equal p q)
