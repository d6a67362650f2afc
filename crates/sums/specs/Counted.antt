-- THE SUMS of a play, Ask 4: of requests and responses alone, a tap at a time. Total: a number is kept in its width, and the demands on the card see to
-- it that nothing is lost. Assumes nothing.
use Rattle.std.specs.Prelude.{ℕ, ◌+◌, true, false, cond}
use Rattle.card.specs.Values.{u32}
use Rattle.fields.specs.Fields.{View}
use Rattle.manual.specs.declared.Command.TheVariants.{CreateWallet, PurgeWallet}
use Rattle.manual.specs.Wallet.{is_new, count}
use Rattle.manual.specs.Settle.{sent_in}
use Rattle.story.specs.Sums.{Tap, did, signed_new}
use Rattle.sums.specs.declared.Sums.{Sums}

-- before any tap
abbrev pub no_sums : Sums
no_sums = record { live = false; made = 0; hashes = 0 }

-- a created wallet starts a new sum of SIGNs, a purged one lives no more
abbrev pub with_wallet : Sums → Sums
with_wallet s = record s { live = true; made = 0 }

abbrev pub with_none : Sums → Sums
with_none s = record s { live = false }

-- a SIGN over n new hashes
abbrev pub with_signed : ℕ → Sums → Sums
with_signed n s = record s { made = u32 (s.made + 1); hashes = u32 (s.hashes + n) }

-- A TAP MORE: the last signatures again are no new SIGN
unfoldable pub counted : Sums → Tap → Sums
counted s t =
    cond (did CreateWallet t) (with_wallet s)
    (cond (did PurgeWallet t) (with_none s)
    (cond (signed_new t) (with_signed (count (sent_in t.request)) s) s))

-- what the code promises on the way, of a SIGN that sent v
abbrev pub with_signing : View → Sums → Sums
with_signing v s = cond (is_new v) (with_signed (count v) s) s

-- the new SIGNs of the live wallet, none where no wallet lives
abbrev pub live_signs : Sums → ℕ
live_signs s = cond s.live s.made 0
