-- The card that a command leaves when it is carried out, and the image of it. Assumes nothing.
use Rattle.std.specs.Prelude.{ℕ, List, [], cond, length, eqb}
use Rattle.fields.specs.Fields.{View}
use Rattle.card.specs.declared.Card.{Card}
use Rattle.card.specs.declared.Wallet.{Wallet}
use Rattle.card.specs.Layout.{image_size}
use Rattle.card.specs.Values.{spent}
use Rattle.card.specs.Image.{encode, decode}
use Rattle.manual.specs.declared.Command.{Command}
use Rattle.manual.specs.declared.Signing.{Signing}
use Rattle.manual.specs.declared.Signing.TheVariants.{New, Again}
use Rattle.manual.specs.Commands.{row}

abbrev pub carried_card : Command → Card → View → List ℕ → Card
carried_card k c v a = record { face = (row k).next c.face v a; codes = (row k).recode v c.codes }

-- its image, made from that of the card before; of other bytes, nothing
unfoldable pub carried_image : Command → List ℕ → View → List ℕ → List ℕ
carried_image k m v a = cond (eqb (length m) image_size) (encode (carried_card k (decode m) v a)) []

-- and the image as it was
unfoldable pub kept_image : List ℕ → List ℕ
kept_image m = cond (eqb (length m) image_size) m []

-- what a SIGN makes of the wallet: new signatures cost one, however many hashes; the last ones again cost nothing
abbrev pub charged : Signing → ℕ → Wallet → Wallet
charged (New n) h w = spent h w
charged Again h w = w
