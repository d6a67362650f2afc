-- WHERE ITS CODE STANDS: in a world that has this crate's table, and the code that it calls of other crates, what they call here is found, with all that it
-- calls. Assumes nothing.
use mathlib.Core.Bool.{true}
use prog.Linked.{Tree, World, Holds, in_world}
use prog.LinkedThreads.{HasT}
use Rattle.sheet.proofs.TheLink
use Rattle.sheet.proofs.curve_of.Symbol as curve_of_code
use Rattle.sheet.proofs.first_bad.Symbol as first_bad_code
use Rattle.sheet.proofs.flag_of.Symbol as flag_of_code
use Rattle.sheet.proofs.max_of.Symbol as max_of_code
use Rattle.sheet.proofs.pause_of.Symbol as pause_of_code

abbrev pub table : Tree
table = TheLink.table

-- what it calls of other crates
abbrev pub Below : World → Type 0
Below W = TheLink.Below W

module _ (W : World) (here : Holds W "sheet" table) (below : Below W) where
  pub has_curve_of : HasT (in_world W) true curve_of_code.code
  has_curve_of = TheLink.linked-sheet::curve_of W here below

  pub has_first_bad : HasT (in_world W) true first_bad_code.code
  has_first_bad = TheLink.linked-sheet::first_bad W here below

  pub has_flag_of : HasT (in_world W) true flag_of_code.code
  has_flag_of = TheLink.linked-sheet::flag_of W here below

  pub has_max_of : HasT (in_world W) true max_of_code.code
  has_max_of = TheLink.linked-sheet::max_of W here below

  pub has_pause_of : HasT (in_world W) true pause_of_code.code
  has_pause_of = TheLink.linked-sheet::pause_of W here below

-- all of them
pub ruleset linked = (has_curve_of, has_first_bad, has_flag_of, has_max_of, has_pause_of)
