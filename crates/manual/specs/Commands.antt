-- One row a command: 01, "The commands", and 02 Ask 1. Assumes nothing.
use Rattle.manual.specs.declared.Command.{Command}
use Rattle.manual.specs.declared.Command.TheVariants.{ReadCard, CreateWallet, CheckWallet, SetPin, Sign, VerifyCard, ValidateCard, PurgeWallet}
use Rattle.manual.specs.declared.Command.TheVariants.{ReadUserData, WriteUserData, WriteIssuerData, ReadIssuerData, ActivateCard}
use Rattle.manual.specs.Row.{Row}
use Rattle.manual.specs.Wallet.{read_card, create_wallet, set_pin, sign, purge_wallet}
use Rattle.manual.specs.Checking.{check_wallet, verify_card, validate_card}
use Rattle.manual.specs.Storage.{read_user_data, write_user_data, write_issuer_data, read_issuer_data}
use Rattle.manual.specs.Activation.{activate_card}

abbrev pub row : Command → Row
row ReadCard = read_card
row CreateWallet = create_wallet
row CheckWallet = check_wallet
row SetPin = set_pin
row Sign = sign
row VerifyCard = verify_card
row ValidateCard = validate_card
row PurgeWallet = purge_wallet
row ReadUserData = read_user_data
row WriteUserData = write_user_data
row WriteIssuerData = write_issuer_data
row ReadIssuerData = read_issuer_data
row ActivateCard = activate_card
