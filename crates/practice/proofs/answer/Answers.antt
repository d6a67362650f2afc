use mathlib.Core.Path.{sym, ap, ◌∙◌}
use lib.ListN.{drop}
use Rattle.sent.specs.Sent.{view}
use Rattle.card.specs.Layout.{image_size}
use Rattle.card.specs.Values.{no_pending}
use Rattle.card.specs.Image.{decode}
use Rattle.manual.specs.Words.{sw_error_processing_command}
use Rattle.manual.specs.Settle.{waiting}
use Rattle.practice.specs.Whole.{card_in}
use Rattle.practice.specs.Carried.{answered_in, confirmed_in}
use Rattle.practice.proofs.Ends.{refuses}
use Rattle.practice.proofs.Laws.{made_by_lem, spelled, carries}
use Rattle.practice.proofs.answer.Goals as goal

pub returns-then-not-confirmed : goal.returns-then-not-confirmed
unfolding answered_in confirmed_in
returns-then-not-confirmed c = let x = c.args in
    let m = card_in x.img in
    let v = view x.sent.now in
    let d = x.next.now in
    let n = c.if-not-confirmed.true in
    rw (sym (c.have_shape.ensures x.draw.now) ∙ c.if-not-have_shape.false, sym c.is_confirmed-confirmed.ensures ∙ n)
    (refuses (waiting no_pending m) m.face 13 sw_error_processing_command x.response.now d c.word_alone.ensures.0 c.word_alone.ensures.1
    (made_by_lem m v x.answers.now (drop image_size d) x.cmd c.made.ensures n c.renew.ensures))

pub returns : goal.returns
unfolding answered_in confirmed_in
returns c = let x = c.args in
    let m = x.img.bytes.now in
    let v = view x.sent.now in
    let a = x.answers.now in
    let d = x.next.now in
    let n = c.if-not-confirmed.false in
    let e = made_by_lem (decode m) v a (drop image_size d) x.cmd c.made.ensures n c.renew.ensures in
    let f = ap decode c.part-after.ensures ∙ spelled x.cmd m v a d x.img.sized (drop image_size d) e in
    rw (sym (c.have_shape.ensures x.draw.now) ∙ c.if-not-have_shape.false, sym c.is_confirmed-confirmed.ensures ∙ n)
    (carries x.cmd (decode m) v x.draw.now a x.response.now d c.told.ensures f c.word-word.ensures c.respond-length.ensures e)
