-- Hashes come in an array: where there is none they are not 1 to 10. Assumes nothing.
use Prim.Native.Nat.{ℕ}
use mathlib.Core.Path.{◌≡◌, refl}
use mathlib.Core.List.{List}
use mathlib.Core.Bool.{true}
use lib.ListN.{length}
use Rattle.std.specs.Prelude.{Some, None}
use Rattle.fields.specs.Fields.{Found, View, has, val, found, value_of}
use Rattle.manual.specs.Tags.{TransactionHash}
use Rattle.manual.specs.Wallet.{hashes_ok}

in_array : (p : List ℕ) (x : Found) → hashes_ok (length (value_of p x)) ≡ true → found x ≡ true
in_array p (Some at) e = refl
in_array p None e = e

pub has_array : (v : View) → hashes_ok (length (val TransactionHash v)) ≡ true → has TransactionHash v ≡ true
unfolding has val
has_array v e = in_array v.bytes (v.at TransactionHash) e
