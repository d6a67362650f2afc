use Prim.Native.Nat.{◌≤◌}
use native.Mathlib.Omega.{arith}
use mathlib.Core.Path.{sym}
use lib.ListN.{length}
use lib.Seq.{length-take-le, take_all}
use Rattle.card.specs.Layout.{image_size}
use Rattle.practice.proofs.whole.Whole.sized.Goals as goal

pub slice_bounds-result-end : goal.slice_bounds-result-end
slice_bounds-result-end c = let m = c.args.self.bytes.now in
    let h : image_size ≤ length m = omega (arith, c.args.self.sized) in
    sym (length-take-le image_size m h)

pub returns : goal.returns
returns c = let m = c.args.self.bytes.now in
    let h : length m ≤ image_size = omega (arith, c.args.self.sized) in
    take_all image_size m h
