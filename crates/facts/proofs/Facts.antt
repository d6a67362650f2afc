-- THE FACTS OF EVERY COMMAND: one function from the command to the facts of its row. Assumes nothing.
use Rattle.manual.specs.declared.Command.{Command}
use Rattle.manual.specs.declared.Command.TheVariants.{ReadCard, CreateWallet, CheckWallet, SetPin, Sign, VerifyCard, ValidateCard, PurgeWallet}
use Rattle.manual.specs.declared.Command.TheVariants.{ReadUserData, WriteUserData, WriteIssuerData, ReadIssuerData, ActivateCard}
use Rattle.manual.specs.Commands.{row}
pub use Rattle.facts.proofs.Row.{Small, small_decode, small_shape, Facts, asks, writes, tells}
use Rattle.facts.proofs.Wallet.{of_read_card, of_create_wallet, of_set_pin, of_sign, of_purge_wallet}
use Rattle.facts.proofs.Checking.{of_check_wallet, of_verify_card, of_validate_card}
use Rattle.facts.proofs.Storage.{of_read_user_data, of_write_user_data, of_write_issuer_data, of_read_issuer_data}
use Rattle.facts.proofs.Activation.{of_activate_card}

pub facts : (k : Command) → Facts (row k)
facts ReadCard = of_read_card
facts CreateWallet = of_create_wallet
facts CheckWallet = of_check_wallet
facts SetPin = of_set_pin
facts Sign = of_sign
facts VerifyCard = of_verify_card
facts ValidateCard = of_validate_card
facts PurgeWallet = of_purge_wallet
facts ReadUserData = of_read_user_data
facts WriteUserData = of_write_user_data
facts WriteIssuerData = of_write_issuer_data
facts ReadIssuerData = of_read_issuer_data
facts ActivateCard = of_activate_card
