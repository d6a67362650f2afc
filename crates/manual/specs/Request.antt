-- Requests, 01 "Requests and fields": CLA, INS, P1, P2, Lc, payload. Assumes nothing.
use Rattle.std.specs.Prelude.{ℕ, ◌+◌, ◌*◌, List, [], ◌∷◌, Bool, true, false, cond, length, get_or, drop, ltb, eqb, Option, Some, None, Result, Ok, Err}
use Rattle.manual.specs.Words.{least_request, most_request}
use Rattle.manual.specs.declared.Command.{Command}
use Rattle.manual.specs.declared.Unlisted.{Unlisted}
use Rattle.manual.specs.declared.Command.TheVariants.{ReadCard, CreateWallet, CheckWallet, SetPin, Sign, VerifyCard, ValidateCard, PurgeWallet}
use Rattle.manual.specs.declared.Command.TheVariants.{ReadUserData, WriteUserData, WriteIssuerData, ReadIssuerData, ActivateCard}

-- where the payload begins. 6 to 1,024 bytes; Lc is one byte 1 to 255, or 00 and two bytes with a value of at least 1; the whole ends exactly at the payload's end
unfoldable pub lc_of : List ℕ → Option ℕ
lc_of q =
    cond (ltb (length q) least_request) None
    (cond (ltb most_request (length q)) None
    (cond (eqb (get_or q 4 0) 0)
    (cond (ltb (length q) 8) None (cond (eqb (length q) (7 + (get_or q 5 0 * 256 + get_or q 6 0))) (Some 7) None))
    (cond (eqb (length q) (5 + get_or q 4 0)) (Some 5) None)))

abbrev pub fits : Option ℕ → Bool
fits (Some b) = true
fits None = false

-- nothing where check 1 refuses
abbrev pub payload_by : Option ℕ → List ℕ → List ℕ
payload_by (Some b) q = drop b q
payload_by None q = []

abbrev pub payload : List ℕ → List ℕ
payload q = payload_by (lc_of q) q

-- where it stands in a request that check 1 lets through: after an Lc of one byte, or of three
abbrev pub body_in : List ℕ → List ℕ
body_in q = drop (cond (eqb (get_or q 4 0) 0) 7 5) q

-- INS, of each command
abbrev pub code : Command → ℕ
code ReadCard = 0xF2
code CreateWallet = 0xF8
code CheckWallet = 0xF9
code SetPin = 0xFA
code Sign = 0xFB
code VerifyCard = 0xF3
code ValidateCard = 0xF4
code PurgeWallet = 0xFC
code ReadUserData = 0xE1
code WriteUserData = 0xE0
code WriteIssuerData = 0xF6
code ReadIssuerData = 0xF7
code ActivateCard = 0xFE

abbrev pub commands : List Command
commands =
    ReadCard ∷ CreateWallet ∷ CheckWallet ∷ SetPin ∷ Sign ∷ VerifyCard ∷ ValidateCard ∷ PurgeWallet
    ∷ ReadUserData ∷ WriteUserData ∷ WriteIssuerData ∷ ReadIssuerData ∷ ActivateCard ∷ []

-- the command with this INS, among some
abbrev pub listed_in : List Command → ℕ → Result Command Unlisted
listed_in [] i = Err (record { 0 = i })
listed_in (k ∷ ks) i = cond (eqb i (code k)) (Ok k) (listed_in ks i)

unfoldable pub ins_of : ℕ → Result Command Unlisted
ins_of i = listed_in commands i

abbrev pub listed : Result Command Unlisted → Bool
listed (Ok k) = true
listed (Err e) = false

-- the command of a request that is refused by check 3 does not matter
abbrev pub command_of : Result Command Unlisted → Command
command_of (Ok k) = k
command_of (Err e) = ReadCard

abbrev pub command : List ℕ → Command
command q = command_of (ins_of (get_or q 1 0))
