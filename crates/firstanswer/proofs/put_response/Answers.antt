use native.Mathlib.Omega.{arith}
use mathlib.Core.Path.{sym}
use Rattle.std.proofs.Common.{length-take-le}
use Rattle.card.specs.Layout.{image_size}
use Rattle.firstanswer.proofs.Laws.{response_is, response_line, at_front}
use Rattle.firstanswer.proofs.put_response.Goals as goal

pub slice_bounds-image-end-2 : goal.slice_bounds-image-end-2
slice_bounds-image-end-2 c =
    sym (length-take-le image_size c.write.new.out (omega (arith, c.write.auto.out)))

pub returns : goal.returns
returns c =
    let m = at_front c.write.ensures.0 c.write.ensures.1 in
    response_line (response_is _ _ m c.request-request.ensures c.settle-o.ensures c.part.ensures) c.put_hex-at.ensures c.put8.ensures
