use native.Mathlib.Omega.{arith}
use mathlib.Core.Path.{refl, sym}
use Rattle.printing.specs.Printing.{sums_text}
use Rattle.recording.proofs.Laws.{says}
use Rattle.recording.proofs.print_sums.Goals as goal

pub returns : goal.returns
unfolding sums_text
returns c = let z = says refl c.put_sums.ensures.0 (omega (arith, c.put_sums.ensures.1)) c.requires in
    rw (sym c.wallet-wallet.ensures, sym c.live_signs.ensures) z
