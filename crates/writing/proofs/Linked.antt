-- WHERE ITS CODE STANDS: in a world that has this crate's table, and the code that it calls of other crates, what they call here is found, with all that it
-- calls. Assumes nothing.
use mathlib.Core.Bool.{true}
use prog.Linked.{Tree, World, Holds, in_world}
use prog.LinkedThreads.{HasT}
use Rattle.writing.proofs.TheLink
use Rattle.writing.proofs.anew.codes.Symbol as codes_code
use Rattle.writing.proofs.anew.counters.Symbol as counters_code
use Rattle.writing.proofs.anew.flags.Symbol as flags_code
use Rattle.writing.proofs.anew.issuer.Symbol as issuer_code
use Rattle.writing.proofs.anew.key.Symbol as key_code
use Rattle.writing.proofs.anew.last.Symbol as last_code
use Rattle.writing.proofs.anew.pending.Symbol as pending_code
use Rattle.writing.proofs.anew.protected.Symbol as protected_code
use Rattle.writing.proofs.anew.user.Symbol as user_code
use Rattle.writing.proofs.anew.wallet.Symbol as wallet_code
use Rattle.writing.proofs.write.Symbol as write_code

abbrev pub table : Tree
table = TheLink.table

-- what it calls of other crates
abbrev pub Below : World → Type 0
Below W = TheLink.Below W

module _ (W : World) (here : Holds W "writing" table) (below : Below W) where
  pub has_codes : HasT (in_world W) true codes_code.code
  has_codes = TheLink.linked-writing::anew::codes W here below

  pub has_counters : HasT (in_world W) true counters_code.code
  has_counters = TheLink.linked-writing::anew::counters W here below

  pub has_flags : HasT (in_world W) true flags_code.code
  has_flags = TheLink.linked-writing::anew::flags W here below

  pub has_issuer : HasT (in_world W) true issuer_code.code
  has_issuer = TheLink.linked-writing::anew::issuer W here below

  pub has_key : HasT (in_world W) true key_code.code
  has_key = TheLink.linked-writing::anew::key W here below

  pub has_last : HasT (in_world W) true last_code.code
  has_last = TheLink.linked-writing::anew::last W here below

  pub has_pending : HasT (in_world W) true pending_code.code
  has_pending = TheLink.linked-writing::anew::pending W here below

  pub has_protected : HasT (in_world W) true protected_code.code
  has_protected = TheLink.linked-writing::anew::protected W here below

  pub has_user : HasT (in_world W) true user_code.code
  has_user = TheLink.linked-writing::anew::user W here below

  pub has_wallet : HasT (in_world W) true wallet_code.code
  has_wallet = TheLink.linked-writing::anew::wallet W here below

  pub has_write : HasT (in_world W) true write_code.code
  has_write = TheLink.linked-writing::write W here below

-- all of them
pub ruleset linked = (has_codes, has_counters, has_flags, has_issuer, has_key, has_last, has_pending, has_protected, has_user, has_wallet, has_write)
