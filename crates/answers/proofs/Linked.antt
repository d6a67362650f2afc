-- WHERE ITS CODE STANDS: in a world that has this crate's table, and the code that it calls of other crates, what they call here is found, with all that it
-- calls. Assumes nothing.
use mathlib.Core.Bool.{true}
use prog.Linked.{Tree, World, Holds, in_world}
use prog.LinkedThreads.{HasT}
use Rattle.answers.proofs.TheLink
use Rattle.answers.proofs.have_shape.Symbol as have_shape_code
use Rattle.answers.proofs.is_confirmed.Symbol as is_confirmed_code

abbrev pub table : Tree
table = TheLink.table

-- what it calls of other crates
abbrev pub Below : World → Type 0
Below W = TheLink.Below W

module _ (W : World) (here : Holds W "answers" table) (below : Below W) where
  pub has_have_shape : HasT (in_world W) true have_shape_code.code
  has_have_shape = TheLink.linked-answers::have_shape W here below

  pub has_is_confirmed : HasT (in_world W) true is_confirmed_code.code
  has_is_confirmed = TheLink.linked-answers::is_confirmed W here below

-- all of them
pub ruleset linked = (has_have_shape, has_is_confirmed)
