use native.Mathlib.Omega.{arith}
use mathlib.Core.Path.{refl, sym, ap, ◌∙◌}
use mathlib.Core.Bool.{false}
use Rattle.manual.specs.declared.Pace.TheVariants.{Refused}
use Rattle.manual.specs.Row.{asked}
use Rattle.manual.specs.Commands.{row}
use Rattle.manual.specs.Words.{sw_process_completed}
use Rattle.manual.specs.Settle.{word_of, reason_of, posed, posed_by, outcome}
use Rattle.gate.proofs.Laws.{head_command}
use Rattle.practice.specs.Whole.{card_in}
use Rattle.practice.proofs.Laws.{stopped, stopped_pace, read_view, judged_read, pace_read, asked_waits, asked_stop, asked_pass, sent_fields}
use Rattle.practice.proofs.Laws.{posed_front, poses}
use Rattle.practice.proofs.ask_card.Goals as goal

pub returns-in_default : goal.returns-in_default
returns-in_default c = let x = c.args in
    let m = card_in x.img in
    let q = x.request.now in
    let e = c.says.ensures ∙ ap (λ z. outcome 0 (reason_of z) (word_of z) 0) c.in_default.is in
    ap (λ r. posed_by r x.questions.now) e
    ∙ sym (asked_stop m q x.draw.now x.questions.now (Refused false) refl (stopped_pace m q c.header-h.ensures c.in_default.is)
    (stopped m q c.header-h.ensures c.in_default.is))

pub returns-then-is_waiting : goal.returns-then-is_waiting
returns-then-is_waiting c = let x = c.args in
    let m = card_in x.img in
    let q = x.request.now in
    let s = pace_read q c.header-h.ensures c.in-Ok.is c.body.ensures c.new-sent.ensures c.walk.ensures m c.judge-v.ensures c.pace_of-pace.ensures in
    ap (λ r. posed_by r x.questions.now) c.told.ensures
    ∙ sym (asked_waits m q x.draw.now x.questions.now c.pace_of-pace.result (sym c.is_waiting.ensures ∙ c.if-is_waiting.true) (sym s))

pub returns-in_default-v : goal.returns-in_default-v
returns-in_default-v c = let x = c.args in
    let m = card_in x.img in
    let q = x.request.now in
    let e = c.says-in_default-v.ensures ∙ ap (λ z. outcome 0 (reason_of z) (word_of z) 0) c.in_default-v.is in
    let g = judged_read q c.header-h.ensures c.in-Ok.is c.body.ensures c.new-sent.ensures c.walk.ensures m c.judge-v.ensures in
    let s = pace_read q c.header-h.ensures c.in-Ok.is c.body.ensures c.new-sent.ensures c.walk.ensures m c.judge-v.ensures c.pace_of-pace.ensures in
    ap (λ r. posed_by r x.questions.now) e
    ∙ sym (asked_stop m q x.draw.now x.questions.now c.pace_of-pace.result (sym c.is_waiting.ensures ∙ c.if-is_waiting.false) (sym s)
    (sym g ∙ c.in_default-v.is))

pub overflow_cast-n : goal.overflow_cast-n
overflow_cast-n c = let x = c.args in
    let m = x.img.bytes.now in
    let q = x.request.now in
    let cmd = c.in-Ok.cmd in
    let g = judged_read q c.header-h.ensures c.in-Ok.is c.body.ensures c.new-sent.ensures c.walk.ensures (card_in x.img) c.judge-v.ensures in
    let v = read_view q c.header-h.ensures c.in-Ok.is c.body.ensures c.new-sent.ensures c.walk.ensures in
    let ok = sent_fields (card_in x.img) q cmd (head_command q c.header-h.ensures c.in-Ok.is) (sym g ∙ c.in-Ok-v.is) in
    let z = posed_front cmd m _ x.draw.now (ap ((row cmd).fields (card_in x.img).face) v ∙ ok) c.pose-n.ensures c.requires in
    omega (arith, z.1)

pub returns : goal.returns
returns c = let x = c.args in
    let m = x.img.bytes.now in
    let q = x.request.now in
    let d = x.draw.now in
    let u = x.questions.now in
    let cmd = c.in-Ok.cmd in
    let g = judged_read q c.header-h.ensures c.in-Ok.is c.body.ensures c.new-sent.ensures c.walk.ensures (card_in x.img) c.judge-v.ensures in
    let s = pace_read q c.header-h.ensures c.in-Ok.is c.body.ensures c.new-sent.ensures c.walk.ensures (card_in x.img) c.judge-v.ensures c.pace_of-pace.ensures in
    let v = read_view q c.header-h.ensures c.in-Ok.is c.body.ensures c.new-sent.ensures c.walk.ensures in
    let ek = head_command q c.header-h.ensures c.in-Ok.is in
    let ok = sent_fields (card_in x.img) q cmd ek (sym g ∙ c.in-Ok-v.is) in
    let z = (posed_front cmd m _ d (ap ((row cmd).fields (card_in x.img).face) v ∙ ok) c.pose-n.ensures c.requires).0 in
    poses 0 sw_process_completed (c.says-2.ensures ∙ ap (λ y. outcome 0 (reason_of y) (word_of y) c.pose-n.result) c.in-Ok-v.is) z
    ∙ ap (λ y. posed 0 sw_process_completed (asked ((row cmd).questions (card_in x.img).face y d)) u) v
    ∙ sym (asked_pass (card_in x.img) q d u c.pace_of-pace.result (sym c.is_waiting.ensures ∙ c.if-is_waiting.false) (sym s) cmd ek
    (sym g ∙ c.in-Ok-v.is))
