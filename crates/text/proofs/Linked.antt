-- WHERE ITS CODE STANDS: in a world that has this crate's table, and the code that it calls of other crates, what they call here is found, with all that it
-- calls. Assumes nothing.
use mathlib.Core.Bool.{true}
use prog.Linked.{Tree, World, Holds, in_world}
use prog.LinkedThreads.{HasT}
use Rattle.text.proofs.TheLink
use Rattle.text.proofs.lines.head_to.Symbol as head_to_code
use Rattle.text.proofs.is_digits.Symbol as is_digits_code
use Rattle.text.proofs.lines.is_ended.Symbol as is_ended_code
use Rattle.text.proofs.is_hex.Symbol as is_hex_code
use Rattle.text.proofs.lines.line_of.Symbol as line_of_code
use Rattle.text.proofs.lines.next_line.Symbol as next_line_code
use Rattle.text.proofs.number_of.Symbol as number_of_code
use Rattle.text.proofs.lines.start_of.Symbol as start_of_code
use Rattle.text.proofs.lines.tail_after.Symbol as tail_after_code
use Rattle.text.proofs.unhex.Symbol as unhex_code

abbrev pub table : Tree
table = TheLink.table

-- what it calls of other crates
abbrev pub Below : World → Type 0
Below W = TheLink.Below W

module _ (W : World) (here : Holds W "text" table) (below : Below W) where
  pub has_head_to : HasT (in_world W) true head_to_code.code
  has_head_to = TheLink.linked-text::lines::head_to W here below

  pub has_is_digits : HasT (in_world W) true is_digits_code.code
  has_is_digits = TheLink.linked-text::is_digits W here below

  pub has_is_ended : HasT (in_world W) true is_ended_code.code
  has_is_ended = TheLink.linked-text::lines::is_ended W here below

  pub has_is_hex : HasT (in_world W) true is_hex_code.code
  has_is_hex = TheLink.linked-text::is_hex W here below

  pub has_line_of : HasT (in_world W) true line_of_code.code
  has_line_of = TheLink.linked-text::lines::line_of W here below

  pub has_next_line : HasT (in_world W) true next_line_code.code
  has_next_line = TheLink.linked-text::lines::next_line W here below

  pub has_number_of : HasT (in_world W) true number_of_code.code
  has_number_of = TheLink.linked-text::number_of W here below

  pub has_start_of : HasT (in_world W) true start_of_code.code
  has_start_of = TheLink.linked-text::lines::start_of W here below

  pub has_tail_after : HasT (in_world W) true tail_after_code.code
  has_tail_after = TheLink.linked-text::lines::tail_after W here below

  pub has_unhex : HasT (in_world W) true unhex_code.code
  has_unhex = TheLink.linked-text::unhex W here below

-- all of them
pub ruleset linked = (has_head_to, has_is_digits, has_is_ended, has_is_hex, has_line_of, has_next_line, has_number_of, has_start_of, has_tail_after, has_unhex)
