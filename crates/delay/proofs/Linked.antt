-- WHERE ITS CODE STANDS: in a world that has this crate's table, and the code that it calls of other crates, what they call here is found, with all that it
-- calls. Assumes nothing.
use mathlib.Core.Bool.{true}
use prog.Linked.{Tree, World, Holds, in_world}
use prog.LinkedThreads.{HasT}
use Rattle.delay.proofs.TheLink
use Rattle.delay.proofs.pace.Symbol as pace_code
use Rattle.delay.proofs.refused.Symbol as refused_code

abbrev pub table : Tree
table = TheLink.table

-- what it calls of other crates
abbrev pub Below : World → Type 0
Below W = TheLink.Below W

module _ (W : World) (here : Holds W "delay" table) (below : Below W) where
  pub has_pace : HasT (in_world W) true pace_code.code
  has_pace = TheLink.linked-delay::pace W here below

  pub has_refused : HasT (in_world W) true refused_code.code
  has_refused = TheLink.linked-delay::refused W here below

-- all of them
pub ruleset linked = (has_pace, has_refused)
