-- What a history shows: sums over its taps, of the sheet, the requests and the responses alone. No card is looked into. Assumes nothing.
use Rattle.std.specs.Prelude.{ℕ, ◌+◌, ◌-◌, List, [], ◌∷◌, Bool, false, cond, ◌&&◌, ◌||◌, length, get_or, take, leb, eqb}
use Rattle.wire.specs.Wire.{num16}
use Rattle.fields.specs.Fields.{View, view_of}
use Rattle.card.specs.declared.Codes.{Codes}
use Rattle.card.specs.declared.Fixed.{Fixed}
use Rattle.card.specs.declared.Flags.{Flags}
use Rattle.card.specs.Values.{after_purge}
use Rattle.manual.specs.Words.{sw_process_completed}
use Rattle.manual.specs.declared.Command.{Command}
use Rattle.manual.specs.declared.Command.TheVariants.{CreateWallet, CheckWallet, SetPin, Sign, PurgeWallet, ActivateCard}
use Rattle.manual.specs.Request.{code}
use Rattle.manual.specs.Wallet.{is_new, count, new_codes}
use Rattle.manual.specs.Activation.{activated_codes}
use Rattle.manual.specs.Settle.{sent_in}

-- what the personalisation sheet says
pub record Sheet : Type 0 where
  pub fixed : Fixed
  pub flags : Flags
  pub codes : Codes

-- A TAP: a request and the response to it, which is nothing for numbers 1 to 4. In a history the newest tap stands first
pub record Tap : Type 0 where
  pub request : List ℕ
  pub response : List ℕ

abbrev pub History : Type 0
History = List Tap

abbrev pub tap : List ℕ → List ℕ → Tap
tap q r = record { request = q; response = r }

-- a response: fields, and the status word in its last two bytes
abbrev pub body_of : List ℕ → List ℕ
body_of r = take (length r - 2) r

abbrev pub last_word : List ℕ → ℕ
last_word r = num16 r (length r - 2)

-- what the fields of a response tell
abbrev pub told_in : List ℕ → View
told_in r = view_of (body_of r)

-- 9000 to 9003
abbrev pub is_done : ℕ → Bool
is_done w = leb sw_process_completed w && leb w (sw_process_completed + 3)

unfoldable pub accepted : List ℕ → Bool
accepted r = leb 2 (length r) && is_done (last_word r)

abbrev pub ins : List ℕ → ℕ
ins q = get_or q 1 0

-- a request for this command, which was accepted
abbrev pub did : Command → Tap → Bool
did k t = accepted t.response && eqb (ins t.request) (code k)

-- a SIGN that made new signatures
abbrev pub signed_new : Tap → Bool
signed_new t = did Sign t && is_new (sent_in t.request)

-- whether the card is activated: by the sheet, or by an accepted ACTIVATE_CARD (02 Ask 1), and then for good
abbrev pub active : Sheet → History → ℕ
active sh [] = sh.flags.active
active sh (t ∷ h) = cond (did ActivateCard t) 1 (active sh h)

-- wallets made
abbrev pub wallets : History → ℕ
wallets [] = 0
wallets (t ∷ h) = cond (did CreateWallet t) (wallets h + 1) (wallets h)

-- the wallet's Status: 1 Empty, 2 Loaded, 3 Purged; it lives while Loaded
abbrev pub status : Sheet → History → ℕ
status sh [] = 1
status sh (t ∷ h) = cond (did CreateWallet t) 2 (cond (did PurgeWallet t) (after_purge sh.flags.reusable) (status sh h))

abbrev pub ever_purged : History → Bool
ever_purged [] = false
ever_purged (t ∷ h) = did PurgeWallet t || ever_purged h

-- the history since this wallet's creation
abbrev pub since : History → History
since [] = []
since (t ∷ h) = cond (did CreateWallet t) [] (t ∷ since h)

-- SIGN commands that made new signatures; and those since this wallet's creation
abbrev pub new_signs : History → ℕ
new_signs [] = 0
new_signs (t ∷ h) = cond (signed_new t) (new_signs h + 1) (new_signs h)

abbrev pub made : History → ℕ
made h = new_signs (since h)

-- all hashes newly signed
abbrev pub total : History → ℕ
total [] = 0
total (t ∷ h) = cond (signed_new t) (total h + count (sent_in t.request)) (total h)

-- the codes in force: the sheet's, then those of each accepted SET_PIN, and the default PIN1 where an accepted ACTIVATE_CARD reset it, from the next
-- command on
abbrev pub codes : Sheet → History → Codes
codes sh [] = sh.codes
codes sh (t ∷ h) =
    cond (did SetPin t) (new_codes (sent_in t.request))
    (cond (did ActivateCard t) (activated_codes (sent_in t.request) (codes sh h)) (codes sh h))

-- commands that make a wallet or a wallet signature
abbrev pub uses_wallet : ℕ → Bool
uses_wallet i = eqb i (code CreateWallet) || (eqb i (code CheckWallet) || eqb i (code Sign))
