use native.Mathlib.Omega.{arith}
use lib.ListN.{drop}
use Rattle.card.specs.Layout.{image_size}
use Rattle.card.specs.Image.{decode}
use Rattle.cards.proofs.Round.{shape_decode}
use Rattle.practice.proofs.Ends.{kept, waited}
use Rattle.practice.proofs.ending.keep.Goals as goal

pub returns : goal.returns
returns c = let x = c.args in
    let m = x.img.now in
    waited (decode m) (drop image_size x.next.now) x.wait x.held.now (shape_decode m c.requires.1)
    (kept m x.next.now c.requires.1 (λ j. omega (arith, c.type_inv.img j)) c.keep.ensures c.requires.0) c.pending.ensures
