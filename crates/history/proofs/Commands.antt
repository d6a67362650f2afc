-- THE CONDUCT OF EVERY COMMAND: one function from the command to it. Assumes nothing.
use Prim.Native.Nat.{ℕ}
use mathlib.Core.List.{List}
use Rattle.card.specs.declared.Face.{Face}
use Rattle.manual.specs.declared.Command.{Command}
use Rattle.manual.specs.declared.Command.TheVariants.{ReadCard, CreateWallet, CheckWallet, SetPin, Sign, VerifyCard, ValidateCard, PurgeWallet}
use Rattle.manual.specs.declared.Command.TheVariants.{ReadUserData, WriteUserData, WriteIssuerData, ReadIssuerData, ActivateCard}
use Rattle.manual.specs.Row.{Matched}
use Rattle.manual.specs.Commands.{row}
use Rattle.manual.specs.Settle.{sent_in}
use Rattle.history.proofs.Taps.{Passed}
use Rattle.history.proofs.Conduct.{Conduct}
use Rattle.history.proofs.Wallet.{of_read_card, of_create_wallet, of_set_pin, of_sign, of_purge_wallet}
use Rattle.history.proofs.Checking.{of_check_wallet, of_verify_card, of_validate_card}
use Rattle.history.proofs.Storage.{of_read_user_data, of_write_user_data, of_write_issuer_data, of_read_issuer_data}
use Rattle.history.proofs.Activation.{of_activate_card}

pub conduct : (k : Command) (m : Matched) (f : Face) (q d a : List ℕ) → Passed (row k) m f (sent_in q) → Conduct k f q d a
conduct ReadCard = of_read_card
conduct CreateWallet = of_create_wallet
conduct CheckWallet = of_check_wallet
conduct SetPin = of_set_pin
conduct Sign = of_sign
conduct VerifyCard = of_verify_card
conduct ValidateCard = of_validate_card
conduct PurgeWallet = of_purge_wallet
conduct ReadUserData = of_read_user_data
conduct WriteUserData = of_write_user_data
conduct WriteIssuerData = of_write_issuer_data
conduct ReadIssuerData = of_read_issuer_data
conduct ActivateCard = of_activate_card
