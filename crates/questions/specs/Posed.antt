-- A question about the card's wallet, its kind by number, and the parts of its message. Assumes nothing.
use Rattle.std.specs.Prelude.{ℕ, List, [], ◌∷◌}
use Rattle.std.specs.Borrow.{Bor}
use Rattle.card.specs.declared.Face.{Face}
use Rattle.manual.specs.Row.{Question, question}
use Rattle.questions.specs.declared.Kind.{Kind}
use Rattle.questions.specs.declared.Kind.TheVariants.{MakeKey, SignHash, SignByWallet, SignByCard, SignedByIssuer, ConfirmedByIssuer}

abbrev pub code : Kind → ℕ
code MakeKey = 1
code SignHash = 2
code SignByWallet = 3
code SignByCard = 4
code SignedByIssuer = 5
code ConfirmedByIssuer = 6

abbrev pub of_wallet : Kind → Face → List (List ℕ) → Question
of_wallet k f m = question (code k) f.front.wallet.number f.front.fixed.curve m

abbrev pub parts_of : List (Bor (List ℕ)) → List (List ℕ)
parts_of [] = []
parts_of (p ∷ ps) = p.now ∷ parts_of ps
