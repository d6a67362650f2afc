-- WHERE ITS CODE STANDS: in a world that has this crate's table, and the code that it calls of other crates, what they call here is found, with all that it
-- calls. Assumes nothing.
use mathlib.Core.Bool.{true}
use prog.Linked.{Tree, World, Holds, in_world}
use prog.LinkedThreads.{HasT}
use Rattle.tells.proofs.TheLink
use Rattle.tells.proofs.tell.Symbol as tell_code
use Rattle.tells.proofs.word.Symbol as word_code

abbrev pub table : Tree
table = TheLink.table

-- what it calls of other crates
abbrev pub Below : World → Type 0
Below W = TheLink.Below W

module _ (W : World) (here : Holds W "tells" table) (below : Below W) where
  pub has_tell : HasT (in_world W) true tell_code.code
  has_tell = TheLink.linked-tells::tell W here below

  pub has_word : HasT (in_world W) true word_code.code
  has_word = TheLink.linked-tells::word W here below

-- all of them
pub ruleset linked = (has_tell, has_word)
