-- WHERE ITS CODE STANDS: in a world that has this crate's table, and the code that it calls of other crates, what they call here is found, with all that it
-- calls. Assumes nothing.
use mathlib.Core.Bool.{true}
use prog.Linked.{Tree, World, Holds, in_world}
use prog.LinkedThreads.{HasT}
use Rattle.manual.proofs.TheLink
use Rattle.manual.proofs.CommandTryFromU8.try_from.Symbol as try_from_code

abbrev pub table : Tree
table = TheLink.table

-- what it calls of other crates
abbrev pub Below : World → Type 0
Below W = TheLink.Below W

module _ (W : World) (here : Holds W "manual" table) (below : Below W) where
  pub has_try_from : HasT (in_world W) true try_from_code.code
  has_try_from = TheLink.linked-manual::CommandTryFromU8::try_from W here below

-- all of them
pub ruleset linked = (has_try_from)
