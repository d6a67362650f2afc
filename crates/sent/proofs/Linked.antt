-- WHERE ITS CODE STANDS: in a world that has this crate's table, and the code that it calls of other crates, what they call here is found, with all that it
-- calls. Assumes nothing.
use mathlib.Core.Bool.{true}
use prog.Linked.{Tree, World, Holds, in_world}
use prog.LinkedThreads.{HasT}
use Rattle.sent.proofs.TheLink
use Rattle.sent.proofs.Sent.walk.Symbol as walk_code
use Rattle.sent.proofs.Sent.has.Symbol as has_code
use Rattle.sent.proofs.Sent.times.Symbol as times_code
use Rattle.sent.proofs.Sent.new.Symbol as new_code
use Rattle.sent.proofs.Sent.none_twice.Symbol as none_twice_code
use Rattle.sent.proofs.Sent.holds.Symbol as holds_code
use Rattle.sent.proofs.Sent.value.Symbol as value_code

abbrev pub table : Tree
table = TheLink.table

-- what it calls of other crates
abbrev pub Below : World → Type 0
Below W = TheLink.Below W

module _ (W : World) (here : Holds W "sent" table) (below : Below W) where
  pub has_has : HasT (in_world W) true has_code.code
  has_has = TheLink.linked-sent::Sent::has W here below

  pub has_holds : HasT (in_world W) true holds_code.code
  has_holds = TheLink.linked-sent::Sent::holds W here below

  pub has_new : HasT (in_world W) true new_code.code
  has_new = TheLink.linked-sent::Sent::new W here below

  pub has_none_twice : HasT (in_world W) true none_twice_code.code
  has_none_twice = TheLink.linked-sent::Sent::none_twice W here below

  pub has_times : HasT (in_world W) true times_code.code
  has_times = TheLink.linked-sent::Sent::times W here below

  pub has_value : HasT (in_world W) true value_code.code
  has_value = TheLink.linked-sent::Sent::value W here below

  pub has_walk : HasT (in_world W) true walk_code.code
  has_walk = TheLink.linked-sent::Sent::walk W here below

-- all of them
pub ruleset linked = (has_has, has_holds, has_new, has_none_twice, has_times, has_value, has_walk)
