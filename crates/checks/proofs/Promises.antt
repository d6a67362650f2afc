-- NO TWO OUTCOMES MEET A PROMISE of checks: a theorem about each public function's own contract. Assumes nothing.
use Rattle.wire.specs.OneOutcome.{OneOutcome, plain}
use Rattle.wire.proofs.Unique.{one_equal}
use Rattle.checks.specs.contracts.needs as needs
use Rattle.checks.specs.contracts.needs_pin2 as needs_pin2
use Rattle.checks.specs.contracts.fields_ok as fields_ok
use Rattle.checks.specs.contracts.conditions_ok as conditions_ok

pub needs_one : OneOutcome needs.ended (λ M 𝓤. needs.clauses {𝓤 = 𝓤})
needs_one M 𝓤 𝓛 m r κs a g z z' ws ws' = plain 𝓤 (λ p q. one_equal p q)

pub needs_pin2_one : OneOutcome needs_pin2.ended (λ M 𝓤. needs_pin2.clauses {𝓤 = 𝓤})
needs_pin2_one M 𝓤 𝓛 m r κs a g z z' ws ws' = plain 𝓤 (λ p q. one_equal p q)

pub fields_ok_one : OneOutcome fields_ok.ended (λ M 𝓤. fields_ok.clauses {𝓤 = 𝓤})
fields_ok_one M 𝓤 𝓛 m r κs a g z z' ws ws' = plain 𝓤 (λ p q. one_equal p q)

pub conditions_ok_one : OneOutcome conditions_ok.ended (λ M 𝓤. conditions_ok.clauses {𝓤 = 𝓤})
conditions_ok_one M 𝓤 𝓛 m r κs a g z z' ws ws' = plain 𝓤 (λ p q. one_equal p q)
