-- WHERE ITS CODE STANDS: in a world that has this crate's table, and the code that it calls of other crates, what they call here is found, with all that it
-- calls. Assumes nothing.
use mathlib.Core.Bool.{true}
use prog.Linked.{Tree, World, Holds, in_world}
use prog.LinkedThreads.{HasT}
use Rattle.changes.proofs.TheLink
use Rattle.changes.proofs.change.Symbol as change_code
use Rattle.changes.proofs.keep.Symbol as keep_code

abbrev pub table : Tree
table = TheLink.table

-- what it calls of other crates
abbrev pub Below : World → Type 0
Below W = TheLink.Below W

module _ (W : World) (here : Holds W "changes" table) (below : Below W) where
  pub has_change : HasT (in_world W) true change_code.code
  has_change = TheLink.linked-changes::change W here below

  pub has_keep : HasT (in_world W) true keep_code.code
  has_keep = TheLink.linked-changes::keep W here below

-- all of them
pub ruleset linked = (has_change, has_keep)
