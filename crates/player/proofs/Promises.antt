-- NO TWO OUTCOMES MEET A PROMISE of player: a theorem about each public function's own contract. Assumes nothing.
use Rattle.wire.specs.OneOutcome.{OneOutcome, plain}
use Rattle.wire.proofs.Unique.{one_equal}
use Rattle.player.proofs.Unique.{one_feeding}
use Rattle.player.specs.contracts.feed as feed
use Rattle.player.specs.contracts.close as close
use Rattle.player.specs.contracts.new as new

pub feed_one : OneOutcome feed.ended (λ M 𝓤. feed.clauses {𝓤 = 𝓤})
feed_one M 𝓤 𝓛 m r κs a g z z' ws ws' =
    plain 𝓤 (λ p q. let e = one_feeding p q in (e.0, λ i. (tt, (tt, (e.1 i, (e.2 i, (e.3 i, tt)))))))

pub close_one : OneOutcome close.ended (λ M 𝓤. close.clauses {𝓤 = 𝓤})
close_one M 𝓤 𝓛 m r κs a g z z' ws ws' = plain 𝓤 (λ p q. let e = one_feeding p q in (e.0, λ i. (tt, (tt, (e.2 i, (e.3 i, tt))))))

pub new_one : OneOutcome new.ended (λ M 𝓤. new.clauses {𝓤 = 𝓤})
new_one M 𝓤 𝓛 m r κs a g z z' ws ws' = plain 𝓤 (λ p q. one_equal p q)
