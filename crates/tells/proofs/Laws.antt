-- WHO TELLS WHAT READ_CARD TELLS: READ_CARD, and ACTIVATE_CARD of the card after. They share an arm, so that its fields are told in one place. Assumes nothing.
use Prim.Native.Nat.{ℕ}
use mathlib.Core.Path.{◌≡◌, refl}
use mathlib.Core.Logic.{◌⊎◌, inl, inr}
use mathlib.Core.List.{List}
use mathlib.Core.Bool.{false}
use lib.Dec.{eqb}
use borrow.Author.Tests.{eqb-false}
use denote.Enum.Declared.{tag_of}
use Rattle.fields.specs.Fields.{View}
use Rattle.card.specs.declared.Face.{Face}
use Rattle.manual.specs.declared.Command.{Command}
use Rattle.manual.specs.declared.Command.TheVariants.{ReadCard, CreateWallet, CheckWallet, SetPin, Sign, VerifyCard, ValidateCard, PurgeWallet}
use Rattle.manual.specs.declared.Command.TheVariants.{ReadUserData, WriteUserData, WriteIssuerData, ReadIssuerData, ActivateCard}
use Rattle.manual.specs.contracts.Command as command
use Rattle.manual.specs.Wallet.{read_fields}
use Rattle.manual.specs.Commands.{row}

-- the tag of neither
neither : {A : Type 0} (n : ℕ) → eqb n 0 ≡ false → eqb n 12 ≡ false → (n ≡ 0) ⊎ (n ≡ 12) → A
neither n a b (inl e) = absurd (eqb-false n 0 a e)
neither n a b (inr e) = absurd (eqb-false n 12 b e)

pub reads_or_wakes :
    (k : Command) → (tag_of command.the_type k ≡ 0) ⊎ (tag_of command.the_type k ≡ 12) → (f : Face) (v : View) (d a : List ℕ)
    → (row k).fields_out f v d a ≡ read_fields f
reads_or_wakes ReadCard h f v d a = refl
reads_or_wakes CreateWallet h f v d a = neither 1 refl refl h
reads_or_wakes CheckWallet h f v d a = neither 2 refl refl h
reads_or_wakes SetPin h f v d a = neither 3 refl refl h
reads_or_wakes Sign h f v d a = neither 4 refl refl h
reads_or_wakes VerifyCard h f v d a = neither 5 refl refl h
reads_or_wakes ValidateCard h f v d a = neither 6 refl refl h
reads_or_wakes PurgeWallet h f v d a = neither 7 refl refl h
reads_or_wakes ReadUserData h f v d a = neither 8 refl refl h
reads_or_wakes WriteUserData h f v d a = neither 9 refl refl h
reads_or_wakes WriteIssuerData h f v d a = neither 10 refl refl h
reads_or_wakes ReadIssuerData h f v d a = neither 11 refl refl h
reads_or_wakes ActivateCard h f v d a = refl
