-- A WORLD that has the code of the C face, with all that it calls. So each of its three functions is linked alone too. Assumes nothing.
use mathlib.Core.Path.{refl}
use mathlib.Core.List.{[], ◌∷◌}
use lib.Chars.{codes}
use prog.Wired.{Wired}
use prog.Linked.{World, in_world}
use prog.LinkedThreads.{tie_t}
use Rattle.wire.proofs.Linked as wire
use Rattle.fields.proofs.Linked as fields
use Rattle.reader.proofs.Linked as reader
use Rattle.sent.proofs.Linked as sent
use Rattle.text.proofs.Linked as text
use Rattle.card.proofs.Linked as card
use Rattle.image.proofs.Linked as image
use Rattle.writing.proofs.Linked as writing
use Rattle.sheet.proofs.Linked as sheet
use Rattle.personalise.proofs.Linked as personalise
use Rattle.manual.proofs.Linked as manual
use Rattle.request.proofs.Linked as request
use Rattle.reads.proofs.Linked as reads
use Rattle.checks.proofs.Linked as checks
use Rattle.gate.proofs.Linked as gate
use Rattle.delay.proofs.Linked as delay
use Rattle.questions.proofs.Linked as questions
use Rattle.answers.proofs.Linked as answers
use Rattle.changes.proofs.Linked as changes
use Rattle.tells.proofs.Linked as tells
use Rattle.practice.proofs.Linked as practice
use Rattle.practice.proofs.practice_ask.Symbol as practice_ask
use Rattle.practice.proofs.practice_power_off.Symbol as practice_power_off
use Rattle.practice.proofs.practice_settle.Symbol as practice_settle
use Rattle.computed.specs.Computes.{look_in}
use Rattle.computed.proofs.Wired.{wired_alone}

abbrev world : World
world =
    (codes "wire", wire.table)
    ∷ (codes "fields", fields.table)
    ∷ (codes "reader", reader.table)
    ∷ (codes "sent", sent.table)
    ∷ (codes "text", text.table)
    ∷ (codes "card", card.table)
    ∷ (codes "image", image.table)
    ∷ (codes "writing", writing.table)
    ∷ (codes "sheet", sheet.table)
    ∷ (codes "personalise", personalise.table)
    ∷ (codes "manual", manual.table)
    ∷ (codes "request", request.table)
    ∷ (codes "reads", reads.table)
    ∷ (codes "checks", checks.table)
    ∷ (codes "gate", gate.table)
    ∷ (codes "delay", delay.table)
    ∷ (codes "questions", questions.table)
    ∷ (codes "answers", answers.table)
    ∷ (codes "changes", changes.table)
    ∷ (codes "tells", tells.table)
    ∷ (codes "practice", practice.table) ∷ []

-- what a crate calls outside of it stands in the world; wire, card and manual call nothing there
fields_below : fields.Below world
fields_below = search (wire.linked)

reader_below : reader.Below world
reader_below = search (wire.linked, fields.linked, fields_below)

sent_below : sent.Below world
sent_below = search (wire.linked, fields.linked, reader.linked, fields_below, reader_below)

text_below : text.Below world
text_below = search (wire.linked)

image_below : image.Below world
image_below = search (wire.linked)

writing_below : writing.Below world
writing_below = search (wire.linked)

sheet_below : sheet.Below world
sheet_below = search (wire.linked, text.linked, text_below)

personalise_below : personalise.Below world
personalise_below = search (wire.linked, text.linked, card.linked, writing.linked, sheet.linked, text_below, writing_below, sheet_below)

request_below : request.Below world
request_below = search (wire.linked, sent.linked, manual.linked, sent_below)

reads_below : reads.Below world
reads_below = search (sent.linked, sent_below)

checks_below : checks.Below world
checks_below = search (wire.linked, sent.linked, image.linked, request.linked, sent_below, image_below, request_below)

gate_below : gate.Below world
gate_below = search (wire.linked, sent.linked, image.linked, request.linked, reads.linked, checks.linked, sent_below, image_below, request_below, reads_below, checks_below)

delay_below : delay.Below world
delay_below = search (wire.linked, sent.linked, card.linked, image.linked, checks.linked, sent_below, image_below, checks_below)

questions_below : questions.Below world
questions_below = search (wire.linked, sent.linked, image.linked, request.linked, sent_below, image_below, request_below)

answers_below : answers.Below world
answers_below = search (wire.linked, sent.linked, image.linked, request.linked, sent_below, image_below, request_below)

changes_below : changes.Below world
changes_below = search (wire.linked, sent.linked, card.linked, image.linked, writing.linked, request.linked, sent_below, image_below, writing_below, request_below)

tells_below : tells.Below world
tells_below = search (wire.linked, fields.linked, sent.linked, image.linked, fields_below, sent_below, image_below)

practice_below : practice.Below world
practice_below = search (wire.linked, fields.linked, sent.linked, card.linked, image.linked, writing.linked, personalise.linked, request.linked, gate.linked, delay.linked, questions.linked, answers.linked, changes.linked, tells.linked, fields_below, sent_below, image_below, writing_below, personalise_below, request_below, gate_below, delay_below, questions_below, answers_below, changes_below, tells_below)

pub ask_wired : Wired (tie_t (look_in practice_ask.code)) practice_ask.code
ask_wired = wired_alone (in_world world) practice_ask.code (practice.has_practice_ask world refl practice_below)

pub settle_wired : Wired (tie_t (look_in practice_settle.code)) practice_settle.code
settle_wired = wired_alone (in_world world) practice_settle.code (practice.has_practice_settle world refl practice_below)

pub off_wired : Wired (tie_t (look_in practice_power_off.code)) practice_power_off.code
off_wired = wired_alone (in_world world) practice_power_off.code (practice.has_practice_power_off world refl practice_below)
