use mathlib.Core.Path.{ap, ◌∙◌}
use mathlib.Core.List.{◌++◌}
use lib.ListN.{length, drop}
use Rattle.card.specs.declared.Wait.{Wait}
use Rattle.card.specs.Layout.{image_size}
use Rattle.card.specs.Values.{u16, held_for, held_request}
use Rattle.card.specs.Image.{encode, decode}
use Rattle.manual.specs.Settle.{waiting}
use Rattle.practice.proofs.Ends.{pauses}
use Rattle.practice.proofs.ending.pause.Goals as goal

pub returns : goal.returns
returns c = let x = c.args in
    let m = decode x.img.bytes.now in
    let q = x.request.now in
    let e = c.holding.ensures ∙ ap (held_for x.seconds (u16 (length q))) c.wait-wait.ensures in
    pauses x.seconds m q x.response.now x.next.now c.told.ensures c.put_short-at.ensures c.put16.ensures c.requires.0
    (c.keep.ensures ∙ ap (λ (y : Wait). encode (waiting (held_request y q) m) ++ drop image_size x.next.now) e)
