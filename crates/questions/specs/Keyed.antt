-- F9 with tag 14: the question on the key. Assumes nothing.
use Rattle.std.specs.Prelude.{ℕ, List}
use Rattle.fields.specs.Fields.{View}
use Rattle.card.specs.declared.Face.{Face}
use Rattle.manual.specs.Row.{Question, question}
use Rattle.manual.specs.Checking.{key_message}

abbrev pub key_question : Face → View → List ℕ → Question
key_question f v d = question 4 f.front.wallet.number f.front.fixed.curve (key_message f v d)
