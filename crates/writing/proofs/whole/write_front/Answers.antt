use Rattle.wire.proofs.Laws.{runs, then}
use Rattle.card.specs.Image.{enc_front}
use Rattle.writing.proofs.whole.write_front.Goals as goal

pub returns : goal.returns
unfolding enc_front
returns c = then (then (then (then c.write_fixed-at.ensures (runs c.write_flags-at.ensures)) c.write_wallet-at.ensures) c.write_key-at.ensures) c.write_counters.ensures
