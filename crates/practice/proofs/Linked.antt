-- WHERE ITS CODE STANDS: in a world that has this crate's table, and the code that it calls of other crates, what they call here is found, with all that it
-- calls. Assumes nothing.
use mathlib.Core.Bool.{true}
use prog.Linked.{Tree, World, Holds, in_world}
use prog.LinkedThreads.{HasT}
use Rattle.practice.proofs.TheLink
use Rattle.practice.proofs.practice_ask.Symbol as practice_ask_code
use Rattle.practice.proofs.practice_power_off.Symbol as practice_power_off_code
use Rattle.practice.proofs.practice_settle.Symbol as practice_settle_code

abbrev pub table : Tree
table = TheLink.table

-- what it calls of other crates
abbrev pub Below : World → Type 0
Below W = TheLink.Below W

module _ (W : World) (here : Holds W "practice" table) (below : Below W) where
  pub has_practice_ask : HasT (in_world W) true practice_ask_code.code
  has_practice_ask = TheLink.linked-practice::practice_ask W here below

  pub has_practice_power_off : HasT (in_world W) true practice_power_off_code.code
  has_practice_power_off = TheLink.linked-practice::practice_power_off W here below

  pub has_practice_settle : HasT (in_world W) true practice_settle_code.code
  has_practice_settle = TheLink.linked-practice::practice_settle W here below

-- all of them
pub ruleset linked = (has_practice_ask, has_practice_power_off, has_practice_settle)
