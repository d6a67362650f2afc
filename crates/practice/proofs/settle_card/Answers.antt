use mathlib.Core.Path.{◌≡◌, sym, ap, ◌∙◌}
use mathlib.Core.Bool.{false}
use Rattle.std.specs.Prelude.{Ok}
use Rattle.manual.specs.declared.Command.{Command}
use Rattle.manual.specs.declared.Pace.TheVariants.{Refused, Goes}
use Rattle.gate.proofs.Laws.{head_command}
use Rattle.practice.specs.Whole.{card_in}
use Rattle.practice.specs.Carried.{held_in, answered_in}
use Rattle.practice.proofs.Laws.{stopped, stopped_pace, read_view, judged_read, pace_read, settled_stop, settled_held, settled_pass}
use Rattle.practice.proofs.settle_card.Goals as goal
use Rattle.practice.proofs.settle_card.Goals.{in_default-2-via-in-Goes+in_default, in_default-2-via-in_default}

pub returns-in_default : goal.returns-in_default
returns-in_default c = let x = c.args in
    let m = card_in x.img in
    let q = x.request.now in
    let e = c.in_default.is in
    c.hold.ensures ∙ ap (λ z. held_in (Refused false) z m q x.response.now x.next.now) e
    ∙ sym (settled_stop m q x.draw.now x.answers.now x.response.now x.next.now (Refused false)
    (stopped_pace m q c.header-h.ensures e) (stopped m q c.header-h.ensures e))

pub returns-in_default-2 : goal.returns-in_default-2
returns-in_default-2 c = let x = c.args in
    let m = card_in x.img in
    let q = x.request.now in
    let g = judged_read q c.header-h.ensures c.in-Ok.is c.body.ensures c.new-sent.ensures c.walk.ensures m c.judge-v.ensures in
    let s = pace_read q c.header-h.ensures c.in-Ok.is c.body.ensures c.new-sent.ensures c.walk.ensures m c.judge-v.ensures c.pace_of-pace.ensures in
    let h : (k : Command) → c.pace_of-pace.result ≡ Goes → c.judge-v.result ≡ Ok k → ⊥ =
    λ k p v. elim c.in_default-2.branch [
      | in_default-2-via-in-Goes+in_default w ↦ cc (v, w.in_default-2.is-1)
      | in_default-2-via-in_default w ↦ w.in_default-2.not-Goes-0 p
    ] in
    c.hold-in_default-2.ensures
    ∙ sym (settled_held m q x.draw.now x.answers.now x.response.now x.next.now c.pace_of-pace.result c.judge-v.result h (sym s) (sym g))

pub returns : goal.returns
returns c = let x = c.args in
    let m = card_in x.img in
    let q = x.request.now in
    let cmd = c.in-Ok.cmd in
    let g = judged_read q c.header-h.ensures c.in-Ok.is c.body.ensures c.new-sent.ensures c.walk.ensures m c.judge-v.ensures in
    let s = pace_read q c.header-h.ensures c.in-Ok.is c.body.ensures c.new-sent.ensures c.walk.ensures m c.judge-v.ensures c.pace_of-pace.ensures in
    let v = read_view q c.header-h.ensures c.in-Ok.is c.body.ensures c.new-sent.ensures c.walk.ensures in
    c.answer.ensures ∙ ap (λ z. answered_in cmd m z x.draw.now x.answers.now x.response.now x.next.now) v
    ∙ sym (settled_pass m q x.draw.now x.answers.now x.response.now x.next.now cmd (head_command q c.header-h.ensures c.in-Ok.is)
    (sym s ∙ c.in-Goes-Ok.is-0) (sym g ∙ c.in-Goes-Ok.is-1))
