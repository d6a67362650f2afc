-- WHERE ITS CODE STANDS: in a world that has this crate's table, and the code that it calls of other crates, what they call here is found, with all that it
-- calls. Assumes nothing.
use mathlib.Core.Bool.{true}
use prog.Linked.{Tree, World, Holds, in_world}
use prog.LinkedThreads.{HasT}
use Rattle.checks.proofs.TheLink
use Rattle.checks.proofs.conditions_ok.Symbol as conditions_ok_code
use Rattle.checks.proofs.fields_ok.Symbol as fields_ok_code
use Rattle.checks.proofs.needs.Symbol as needs_code
use Rattle.checks.proofs.needs_pin2.Symbol as needs_pin2_code

abbrev pub table : Tree
table = TheLink.table

-- what it calls of other crates
abbrev pub Below : World → Type 0
Below W = TheLink.Below W

module _ (W : World) (here : Holds W "checks" table) (below : Below W) where
  pub has_conditions_ok : HasT (in_world W) true conditions_ok_code.code
  has_conditions_ok = TheLink.linked-checks::conditions_ok W here below

  pub has_fields_ok : HasT (in_world W) true fields_ok_code.code
  has_fields_ok = TheLink.linked-checks::fields_ok W here below

  pub has_needs : HasT (in_world W) true needs_code.code
  has_needs = TheLink.linked-checks::needs W here below

  pub has_needs_pin2 : HasT (in_world W) true needs_pin2_code.code
  has_needs_pin2 = TheLink.linked-checks::needs_pin2 W here below

-- all of them
pub ruleset linked = (has_conditions_ok, has_fields_ok, has_needs, has_needs_pin2)
