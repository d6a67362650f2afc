-- WHERE ITS CODE STANDS: in a world that has this crate's table, and the code that it calls of other crates, what they call here is found, with all that it
-- calls. Assumes nothing.
use mathlib.Core.Bool.{true}
use prog.Linked.{Tree, World, Holds, in_world}
use prog.LinkedThreads.{HasT}
use Rattle.request.proofs.TheLink
use Rattle.request.proofs.body.Symbol as body_code
use Rattle.request.proofs.command.Symbol as command_code
use Rattle.request.proofs.lc_of.Symbol as lc_of_code
use Rattle.request.proofs.resets.Symbol as resets_code
use Rattle.request.proofs.sent_counter.Symbol as sent_counter_code
use Rattle.request.proofs.signing.Symbol as signing_code

abbrev pub table : Tree
table = TheLink.table

-- what it calls of other crates
abbrev pub Below : World → Type 0
Below W = TheLink.Below W

module _ (W : World) (here : Holds W "request" table) (below : Below W) where
  pub has_body : HasT (in_world W) true body_code.code
  has_body = TheLink.linked-request::body W here below

  pub has_command : HasT (in_world W) true command_code.code
  has_command = TheLink.linked-request::command W here below

  pub has_lc_of : HasT (in_world W) true lc_of_code.code
  has_lc_of = TheLink.linked-request::lc_of W here below

  pub has_resets : HasT (in_world W) true resets_code.code
  has_resets = TheLink.linked-request::resets W here below

  pub has_sent_counter : HasT (in_world W) true sent_counter_code.code
  has_sent_counter = TheLink.linked-request::sent_counter W here below

  pub has_signing : HasT (in_world W) true signing_code.code
  has_signing = TheLink.linked-request::signing W here below

-- all of them
pub ruleset linked = (has_body, has_command, has_lc_of, has_resets, has_sent_counter, has_signing)
