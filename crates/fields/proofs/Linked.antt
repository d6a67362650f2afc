-- WHERE ITS CODE STANDS: in a world that has this crate's table, and the code that it calls of other crates, what they call here is found, with all that it
-- calls. Assumes nothing.
use mathlib.Core.Bool.{true}
use prog.Linked.{Tree, World, Holds, in_world}
use prog.LinkedThreads.{HasT}
use Rattle.fields.proofs.TheLink
use Rattle.fields.proofs.find.Symbol as find_code
use Rattle.fields.proofs.put_byte.Symbol as put_byte_code
use Rattle.fields.proofs.put_field.Symbol as put_field_code
use Rattle.fields.proofs.put_number.Symbol as put_number_code
use Rattle.fields.proofs.put_short.Symbol as put_short_code
use Rattle.fields.proofs.stands.Symbol as stands_code
use Rattle.fields.proofs.step_at.Symbol as step_at_code

abbrev pub table : Tree
table = TheLink.table

-- what it calls of other crates
abbrev pub Below : World → Type 0
Below W = TheLink.Below W

module _ (W : World) (here : Holds W "fields" table) (below : Below W) where
  pub has_find : HasT (in_world W) true find_code.code
  has_find = TheLink.linked-fields::find W here below

  pub has_put_byte : HasT (in_world W) true put_byte_code.code
  has_put_byte = TheLink.linked-fields::put_byte W here below

  pub has_put_field : HasT (in_world W) true put_field_code.code
  has_put_field = TheLink.linked-fields::put_field W here below

  pub has_put_number : HasT (in_world W) true put_number_code.code
  has_put_number = TheLink.linked-fields::put_number W here below

  pub has_put_short : HasT (in_world W) true put_short_code.code
  has_put_short = TheLink.linked-fields::put_short W here below

  pub has_stands : HasT (in_world W) true stands_code.code
  has_stands = TheLink.linked-fields::stands W here below

  pub has_step_at : HasT (in_world W) true step_at_code.code
  has_step_at = TheLink.linked-fields::step_at W here below

-- all of them
pub ruleset linked = (has_find, has_put_byte, has_put_field, has_put_number, has_put_short, has_stands, has_step_at)
