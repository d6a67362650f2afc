-- WHERE ITS CODE STANDS: in a world that has this crate's table, and the code that it calls of other crates, what they call here is found, with all that it
-- calls. Assumes nothing.
use mathlib.Core.Bool.{true}
use prog.Linked.{Tree, World, Holds, in_world}
use prog.LinkedThreads.{HasT}
use Rattle.card.proofs.TheLink
use Rattle.card.proofs.Flags.activate.Symbol as activate_code
use Rattle.card.proofs.Counters.checked.Symbol as checked_code
use Rattle.card.proofs.Wait.counted.Symbol as counted_code
use Rattle.card.proofs.Wallet.create.Symbol as create_code
use Rattle.card.proofs.Wait.dropped.Symbol as dropped_code
use Rattle.card.proofs.Card.fresh.Symbol as fresh_code
use Rattle.card.proofs.Wait.holding.Symbol as holding_code
use Rattle.card.proofs.Wait.none.Symbol as none_code
use Rattle.card.proofs.Wallet.purge.Symbol as purge_code
use Rattle.card.proofs.Wallet.sign.Symbol as sign_code
use Rattle.card.proofs.Counters.signed.Symbol as signed_code
use Rattle.card.proofs.Counters.validated.Symbol as validated_code

abbrev pub table : Tree
table = TheLink.table

-- what it calls of other crates
abbrev pub Below : World → Type 0
Below W = TheLink.Below W

module _ (W : World) (here : Holds W "card" table) (below : Below W) where
  pub has_activate : HasT (in_world W) true activate_code.code
  has_activate = TheLink.linked-card::Flags::activate W here below

  pub has_checked : HasT (in_world W) true checked_code.code
  has_checked = TheLink.linked-card::Counters::checked W here below

  pub has_counted : HasT (in_world W) true counted_code.code
  has_counted = TheLink.linked-card::Wait::counted W here below

  pub has_create : HasT (in_world W) true create_code.code
  has_create = TheLink.linked-card::Wallet::create W here below

  pub has_dropped : HasT (in_world W) true dropped_code.code
  has_dropped = TheLink.linked-card::Wait::dropped W here below

  pub has_fresh : HasT (in_world W) true fresh_code.code
  has_fresh = TheLink.linked-card::Card::fresh W here below

  pub has_holding : HasT (in_world W) true holding_code.code
  has_holding = TheLink.linked-card::Wait::holding W here below

  pub has_none : HasT (in_world W) true none_code.code
  has_none = TheLink.linked-card::Wait::none W here below

  pub has_purge : HasT (in_world W) true purge_code.code
  has_purge = TheLink.linked-card::Wallet::purge W here below

  pub has_sign : HasT (in_world W) true sign_code.code
  has_sign = TheLink.linked-card::Wallet::sign W here below

  pub has_signed : HasT (in_world W) true signed_code.code
  has_signed = TheLink.linked-card::Counters::signed W here below

  pub has_validated : HasT (in_world W) true validated_code.code
  has_validated = TheLink.linked-card::Counters::validated W here below

-- all of them
pub ruleset linked = (has_activate, has_checked, has_counted, has_create, has_dropped, has_fresh, has_holding, has_none, has_purge, has_sign, has_signed, has_validated)
