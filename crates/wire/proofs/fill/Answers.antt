use mathlib.Core.Path.{ap, ap₂, sym, ◌∙◌}
use Prim.Native.Nat.{◌-◌, ◌≤◌, ◌<◌}
use native.Mathlib.Omega.{arith}
use lib.ListN.{length, replicate}
use Rattle.wire.specs.Wire.{put}
use Rattle.wire.proofs.Laws.{put_pad, pad_none}
use Rattle.wire.proofs.fill.Goals as goal

pub returns-then-v-n : goal.returns-then-v-n
returns-then-v-n c = let x = c.args in
    let h : length x.v.now ≤ x.n = c.if-v-n.true in (
      c.wipe.ensures.0 ∙ ap₂ (λ d e. put d e (replicate (x.n - length x.v.now) 0)) c.copy-end.ensures.0 c.copy-end.ensures.1
          ∙ put_pad x.out.now x.at x.n x.v.now h c.requires,
      omega (arith, h, c.wipe.ensures.1, c.copy-end.ensures.1),
    )

pub returns : goal.returns
returns c = let x = c.args in
    let h : x.n < length x.v.now = omega (arith, c.if-v-n.false) in
    (c.wipe-2.ensures.0 ∙ ap (put x.out.now x.at) (sym (pad_none x.n x.v.now h)), c.wipe-2.ensures.1)
