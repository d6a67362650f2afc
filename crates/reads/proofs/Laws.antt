-- Where no tag is marked, none of a command's list stands twice. Assumes nothing.
use Prim.Native.Nat.{ℕ}
use mathlib.Core.Path.{◌≡◌, refl}
use mathlib.Core.List.{List, [], ◌∷◌}
use mathlib.Core.Bool.{Bool, true, ◌&&◌}
use lib.Dec.{ltb}
use borrow.Author.Tests.{ltb-true}
use Rattle.wire.proofs.Laws.{both_true}
use Rattle.sent.specs.declared.Sent.{Sent}
use Rattle.sent.specs.Sent.{places, unmarked, view, view_by}
use Rattle.sent.proofs.Laws.{not_twice}
use Rattle.manual.specs.declared.Command.{Command}
use Rattle.manual.specs.declared.Command.TheVariants.{ReadCard, CreateWallet, CheckWallet, SetPin, Sign, VerifyCard, ValidateCard, PurgeWallet}
use Rattle.manual.specs.declared.Command.TheVariants.{ReadUserData, WriteUserData, WriteIssuerData, ReadIssuerData, ActivateCard}
use Rattle.manual.specs.Row.{single}
use Rattle.manual.specs.Commands.{row}

-- no tag of a list stands twice, if each has a place; and each of every command has
abbrev all_below : List ℕ → Bool
all_below [] = true
all_below (t ∷ ts) = ltb t places && all_below ts

none_single : (p l : List ℕ) → unmarked l ≡ true → (ts : List ℕ) → all_below ts ≡ true → single ts (view_by p l) ≡ true
none_single p l e [] h = refl
none_single p l e (t ∷ ts) h =
    let y = both_true (ltb t places) (all_below ts) h in
    rw (not_twice p l (ltb-true t places y.0) e) (none_single p l e ts y.1)

below : (k : Command) → all_below (row k).reads ≡ true
below ReadCard = refl
below CreateWallet = refl
below CheckWallet = refl
below SetPin = refl
below Sign = refl
below VerifyCard = refl
below ValidateCard = refl
below PurgeWallet = refl
below ReadUserData = refl
below WriteUserData = refl
below WriteIssuerData = refl
below ReadIssuerData = refl
below ActivateCard = refl

pub none_marked : (s : Sent) (k : Command) → unmarked s.places ≡ true → single (row k).reads (view s) ≡ true
none_marked s k e = none_single s.payload.now s.places e (row k).reads (below k)
