-- WHERE ITS CODE STANDS: in a world that has this crate's table, and the code that it calls of other crates, what they call here is found, with all that it
-- calls. Assumes nothing.
use mathlib.Core.Bool.{true}
use prog.Linked.{Tree, World, Holds, in_world}
use prog.LinkedThreads.{HasT}
use Rattle.reads.proofs.TheLink
use Rattle.reads.proofs.once.Symbol as once_code

abbrev pub table : Tree
table = TheLink.table

-- what it calls of other crates
abbrev pub Below : World → Type 0
Below W = TheLink.Below W

module _ (W : World) (here : Holds W "reads" table) (below : Below W) where
  pub has_once : HasT (in_world W) true once_code.code
  has_once = TheLink.linked-reads::once W here below

-- all of them
pub ruleset linked = (has_once)
