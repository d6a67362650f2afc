use native.Mathlib.Omega.{arith}
use mathlib.Core.Path.{refl}
use Rattle.printing.specs.Printing.{bad_text}
use Rattle.recording.proofs.Laws.{says}
use Rattle.recording.proofs.stop.Goals as goal

pub returns : goal.returns
unfolding bad_text
returns c = let z = says refl c.put_bad-length.ensures.0 (omega (arith, c.put_bad-length.ensures.1)) c.requires in
    (λ i. record { play = c.end.ensures i; length = z.size i }, z.bytes)
