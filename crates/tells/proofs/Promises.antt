-- NO TWO OUTCOMES MEET A PROMISE of tells: a theorem about each public function's own contract. Assumes nothing.
use Rattle.wire.specs.OneOutcome.{OneOutcome, plain}
use Rattle.wire.proofs.Unique.{one_equal, one_page}
use Rattle.tells.specs.contracts.tell as tell
use Rattle.tells.specs.contracts.word as word

pub tell_one : OneOutcome tell.ended (λ M 𝓤. tell.clauses {𝓤 = 𝓤})
tell_one M 𝓤 𝓛 m r κs a g z z' ws ws' = plain 𝓤 (λ p q. let e = one_page p q in (e.1, λ i. (tt, (tt, (tt, (tt, (tt, (e.0 i, tt))))))))

pub word_one : OneOutcome word.ended (λ M 𝓤. word.clauses {𝓤 = 𝓤})
word_one M 𝓤 𝓛 m r κs a g z z' ws ws' = plain 𝓤 (λ p q. one_equal p q)
