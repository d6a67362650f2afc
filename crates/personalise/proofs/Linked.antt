-- WHERE ITS CODE STANDS: in a world that has this crate's table, and the code that it calls of other crates, what they call here is found, with all that it
-- calls. Assumes nothing.
use mathlib.Core.Bool.{true}
use prog.Linked.{Tree, World, Holds, in_world}
use prog.LinkedThreads.{HasT}
use Rattle.personalise.proofs.TheLink
use Rattle.personalise.proofs.personalise.Symbol as personalise_code

abbrev pub table : Tree
table = TheLink.table

-- what it calls of other crates
abbrev pub Below : World → Type 0
Below W = TheLink.Below W

module _ (W : World) (here : Holds W "personalise" table) (below : Below W) where
  pub has_personalise : HasT (in_world W) true personalise_code.code
  has_personalise = TheLink.linked-personalise::personalise W here below

-- all of them
pub ruleset linked = (has_personalise)
