-- WHERE ITS CODE STANDS: in a world that has this crate's table, and the code that it calls of other crates, what they call here is found, with all that it
-- calls. Assumes nothing.
use mathlib.Core.Bool.{true}
use prog.Linked.{Tree, World, Holds, in_world}
use prog.LinkedThreads.{HasT}
use Rattle.image.proofs.TheLink
use Rattle.image.proofs.cid.Symbol as cid_code
use Rattle.image.proofs.counters.Symbol as counters_code
use Rattle.image.proofs.curve.Symbol as curve_code
use Rattle.image.proofs.cvc.Symbol as cvc_code
use Rattle.image.proofs.flags.Symbol as flags_code
use Rattle.image.proofs.held.Symbol as held_code
use Rattle.image.proofs.is_card.Symbol as is_card_code
use Rattle.image.proofs.key.Symbol as key_code
use Rattle.image.proofs.last.Symbol as last_code
use Rattle.image.proofs.last_count.Symbol as last_count_code
use Rattle.image.proofs.max.Symbol as max_code
use Rattle.image.proofs.note.Symbol as note_code
use Rattle.image.proofs.note_counter.Symbol as note_counter_code
use Rattle.image.proofs.note_signature.Symbol as note_signature_code
use Rattle.image.proofs.pause.Symbol as pause_code
use Rattle.image.proofs.pin1.Symbol as pin1_code
use Rattle.image.proofs.pin2.Symbol as pin2_code
use Rattle.image.proofs.protected.Symbol as protected_code
use Rattle.image.proofs.seed.Symbol as seed_code
use Rattle.image.proofs.user.Symbol as user_code
use Rattle.image.proofs.wait.Symbol as wait_code
use Rattle.image.proofs.wallet.Symbol as wallet_code

abbrev pub table : Tree
table = TheLink.table

-- what it calls of other crates
abbrev pub Below : World → Type 0
Below W = TheLink.Below W

module _ (W : World) (here : Holds W "image" table) (below : Below W) where
  pub has_cid : HasT (in_world W) true cid_code.code
  has_cid = TheLink.linked-image::cid W here below

  pub has_counters : HasT (in_world W) true counters_code.code
  has_counters = TheLink.linked-image::counters W here below

  pub has_curve : HasT (in_world W) true curve_code.code
  has_curve = TheLink.linked-image::curve W here below

  pub has_cvc : HasT (in_world W) true cvc_code.code
  has_cvc = TheLink.linked-image::cvc W here below

  pub has_flags : HasT (in_world W) true flags_code.code
  has_flags = TheLink.linked-image::flags W here below

  pub has_held : HasT (in_world W) true held_code.code
  has_held = TheLink.linked-image::held W here below

  pub has_is_card : HasT (in_world W) true is_card_code.code
  has_is_card = TheLink.linked-image::is_card W here below

  pub has_key : HasT (in_world W) true key_code.code
  has_key = TheLink.linked-image::key W here below

  pub has_last : HasT (in_world W) true last_code.code
  has_last = TheLink.linked-image::last W here below

  pub has_last_count : HasT (in_world W) true last_count_code.code
  has_last_count = TheLink.linked-image::last_count W here below

  pub has_max : HasT (in_world W) true max_code.code
  has_max = TheLink.linked-image::max W here below

  pub has_note : HasT (in_world W) true note_code.code
  has_note = TheLink.linked-image::note W here below

  pub has_note_counter : HasT (in_world W) true note_counter_code.code
  has_note_counter = TheLink.linked-image::note_counter W here below

  pub has_note_signature : HasT (in_world W) true note_signature_code.code
  has_note_signature = TheLink.linked-image::note_signature W here below

  pub has_pause : HasT (in_world W) true pause_code.code
  has_pause = TheLink.linked-image::pause W here below

  pub has_pin1 : HasT (in_world W) true pin1_code.code
  has_pin1 = TheLink.linked-image::pin1 W here below

  pub has_pin2 : HasT (in_world W) true pin2_code.code
  has_pin2 = TheLink.linked-image::pin2 W here below

  pub has_protected : HasT (in_world W) true protected_code.code
  has_protected = TheLink.linked-image::protected W here below

  pub has_seed : HasT (in_world W) true seed_code.code
  has_seed = TheLink.linked-image::seed W here below

  pub has_user : HasT (in_world W) true user_code.code
  has_user = TheLink.linked-image::user W here below

  pub has_wait : HasT (in_world W) true wait_code.code
  has_wait = TheLink.linked-image::wait W here below

  pub has_wallet : HasT (in_world W) true wallet_code.code
  has_wallet = TheLink.linked-image::wallet W here below

-- all of them
pub ruleset linked = (has_cid, has_counters, has_curve, has_cvc, has_flags, has_held, has_is_card, has_key, has_last, has_last_count, has_max, has_note, has_note_counter, has_note_signature, has_pause, has_pin1, has_pin2, has_protected, has_seed, has_user, has_wait, has_wallet)
