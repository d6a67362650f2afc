-- WHERE ITS CODE STANDS: in a world that has this crate's table, and the code that it calls of other crates, what they call here is found, with all that it
-- calls. Assumes nothing.
use mathlib.Core.Bool.{true}
use prog.Linked.{Tree, World, Holds, in_world}
use prog.LinkedThreads.{HasT}
use Rattle.gate.proofs.TheLink
use Rattle.gate.proofs.header.Symbol as header_code
use Rattle.gate.proofs.judge.Symbol as judge_code

abbrev pub table : Tree
table = TheLink.table

-- what it calls of other crates
abbrev pub Below : World → Type 0
Below W = TheLink.Below W

module _ (W : World) (here : Holds W "gate" table) (below : Below W) where
  pub has_header : HasT (in_world W) true header_code.code
  has_header = TheLink.linked-gate::header W here below

  pub has_judge : HasT (in_world W) true judge_code.code
  has_judge = TheLink.linked-gate::judge W here below

-- all of them
pub ruleset linked = (has_header, has_judge)
