-- The checks of a whole card c, of the view v of a payload: what the longer ones ask, and the groups. Assumes nothing.
use Rattle.std.specs.Prelude.{ℕ, List, Bool, not, ◌||◌, Result, Ok}
use Rattle.fields.specs.Fields.{View, holds}
use Rattle.card.specs.declared.Card.{Card}
use Rattle.manual.specs.declared.Command.{Command}
use Rattle.manual.specs.declared.Needs.{Needs}
use Rattle.manual.specs.declared.Refusal.{Refusal}
use Rattle.manual.specs.Tags.{CID, PIN2, CVC}
use Rattle.manual.specs.Row.{asks_cvc, gate_of, head_rules, form_rules, entry_rules, own_rules, passed, Verdict}
use Rattle.manual.specs.Commands.{row}
use Rattle.manual.specs.Settle.{matched, judged_by}

-- check 7
abbrev pub cid_ok : Needs → Card → View → Bool
cid_ok n c v = not n.cid || holds CID v c.face.front.fixed.cid

-- check 10
abbrev pub pin2_ok : Command → Card → View → Bool
pin2_ok k c v = not ((row k).pin2 v) || holds PIN2 v c.codes.pin2

abbrev pub cvc_ok : Command → Card → View → Bool
cvc_ok k c v = not (asks_cvc (row k) c.face) || holds CVC v c.face.front.fixed.cvc

-- checks 4 and 5 of a request q, 6 to 9, and 10 to 12, each with what is handed over where they hold
abbrev pub form_of : {A : Type 0} → Command → Bool → Card → View → List ℕ → Result A Refusal → Result A Refusal
form_of k formed c v q g = gate_of (form_rules (row k) c.face formed v q) g

abbrev pub entry_of : {A : Type 0} → Command → Card → View → Result A Refusal → Result A Refusal
entry_of k c v g = gate_of (entry_rules (row k) (matched c.codes v) c.face v) g

abbrev pub own_of : {A : Type 0} → Command → Card → View → Result A Refusal → Result A Refusal
own_of k c v g = gate_of (own_rules (row k) (matched c.codes v) c.face v) g

-- checks 1 to 3 of a request q, then 4 to 12 of a command k, and all of them
abbrev pub head_of : List ℕ → Verdict
head_of q = gate_of (head_rules q) (passed q)

abbrev pub later_of : Command → Bool → Card → View → List ℕ → Verdict
later_of k formed c v q = form_of k formed c v q (entry_of k c v (own_of k c v (Ok k)))

abbrev pub judged_of : Bool → Card → View → List ℕ → Verdict
judged_of formed c v q = judged_by formed v (matched c.codes v) c.face q
