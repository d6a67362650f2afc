use Prim.Native.Nat.{ℕ}
use native.Mathlib.Omega.{arith}
use mathlib.Core.Path.{ap, ◌∙◌}
use Rattle.wire.specs.Wire.{put, be1}
use Rattle.wire.proofs.Laws.{runs}
use Rattle.card.specs.Layout.{pause_at}
use Rattle.recording.proofs.pause.Goals as goal

pub returns : goal.returns
returns c = let m = c.args.img.now in
    (rw c.requires at c.quiet.ensures, (runs c.pause.ensures (omega (arith, c.told-img))).bytes ∙ ap (λ (n : ℕ). put m pause_at (be1 n)) c.pause_in.ensures)
