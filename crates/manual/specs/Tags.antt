-- THE TAGS, by the paper's names. `manual::tag` has constants of the same names. Assumes nothing.
use Rattle.std.specs.Prelude.{ℕ}

abbrev pub CID : ℕ
CID = 0x01

abbrev pub Status : ℕ
Status = 0x02

abbrev pub CardSignature : ℕ
CardSignature = 0x04

abbrev pub CurveID : ℕ
CurveID = 0x05

abbrev pub PIN1 : ℕ
PIN1 = 0x10

abbrev pub PIN2 : ℕ
PIN2 = 0x11

abbrev pub NewPIN1 : ℕ
NewPIN1 = 0x12

abbrev pub NewPIN2 : ℕ
NewPIN2 = 0x13

abbrev pub PublicKeyChallenge : ℕ
PublicKeyChallenge = 0x14

abbrev pub PublicKeySalt : ℕ
PublicKeySalt = 0x15

abbrev pub Challenge : ℕ
Challenge = 0x16

abbrev pub Salt : ℕ
Salt = 0x17

abbrev pub CardValidationCounter : ℕ
CardValidationCounter = 0x18

abbrev pub CVC : ℕ
CVC = 0x19

abbrev pub Pause : ℕ
Pause = 0x1C

abbrev pub Mode : ℕ
Mode = 0x23

abbrev pub UserData : ℕ
UserData = 0x2A

abbrev pub UserProtectedData : ℕ
UserProtectedData = 0x2B

abbrev pub UserCounter : ℕ
UserCounter = 0x2C

abbrev pub UserProtectedCounter : ℕ
UserProtectedCounter = 0x2D

abbrev pub IssuerData : ℕ
IssuerData = 0x32

abbrev pub IssuerDataSignature : ℕ
IssuerDataSignature = 0x33

abbrev pub ActivationSignature : ℕ
ActivationSignature = 0x34

abbrev pub IssuerDataCounter : ℕ
IssuerDataCounter = 0x35

abbrev pub ResetPIN1 : ℕ
ResetPIN1 = 0x36

abbrev pub IsActivated : ℕ
IsActivated = 0x3A

abbrev pub ActivationSeed : ℕ
ActivationSeed = 0x3B

abbrev pub TransactionHash : ℕ
TransactionHash = 0x50

abbrev pub TransactionHashSize : ℕ
TransactionHashSize = 0x51

abbrev pub WalletPublicKey : ℕ
WalletPublicKey = 0x60

abbrev pub Signature : ℕ
Signature = 0x61

abbrev pub Remaining : ℕ
Remaining = 0x62

abbrev pub SignedHashes : ℕ
SignedHashes = 0x63

abbrev pub CheckWalletCounter : ℕ
CheckWalletCounter = 0x64
