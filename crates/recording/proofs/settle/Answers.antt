use mathlib.Core.Path.{ap, ◌∙◌}
use lib.ListN.{replicate}
use Rattle.text.specs.Text.{unhex}
use Rattle.card.specs.Layout.{image_room}
use Rattle.manual.specs.Settle.{holding, settle_call, settled}
use Rattle.recording.specs.Step.{renewed}
use Rattle.recording.proofs.Laws.{draw_fits, answers_fits}
use Rattle.recording.proofs.settle.Goals as goal

pub bytes_of-draw-requires : goal.bytes_of-draw-requires
bytes_of-draw-requires c = rw c.draw.ensures (draw_fits c.args.l.now c.requires)

pub bytes_of-answers-requires : goal.bytes_of-answers-requires
bytes_of-answers-requires c = rw c.answers.ensures (answers_fits c.args.l.now c.requires)

pub returns : goal.returns
returns c = let x = c.args in
    let m = x.img.now in
    let d = c.bytes_of-draw.ensures ∙ ap unhex c.draw.ensures in
    let a = c.bytes_of-answers.ensures ∙ ap unhex c.answers.ensures in
    let e = c.settle-o.ensures ∙ (λ j. settled (holding m) (settle_call x.request.now (d j) (a j) x.response.now (replicate image_room 0))) in
    let i = c.renew.ensures ∙ ap (λ z. renewed z.result.number z.next m) e in
    record { result = ap (λ z. z.result) e; response = ap (λ z. z.response) e; image = i }
