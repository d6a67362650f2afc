-- NO TWO OUTCOMES MEET A PROMISE of notes: a theorem about each public function's own contract. Assumes nothing.
use Rattle.wire.specs.OneOutcome.{OneOutcome, plain}
use Rattle.wire.proofs.Unique.{one_equal}
use Rattle.notes.specs.contracts.Note.order_of as note_order_of
use Rattle.notes.specs.contracts.Note.is_good as note_is_good
use Rattle.notes.specs.contracts.Note.follows as note_follows

pub note_order_of_one : OneOutcome note_order_of.ended (λ M 𝓤. note_order_of.clauses {𝓤 = 𝓤})
note_order_of_one M 𝓤 𝓛 m r κs a g z z' ws ws' = plain 𝓤 (λ p q. one_equal p q)

pub note_is_good_one : OneOutcome note_is_good.ended (λ M 𝓤. note_is_good.clauses {𝓤 = 𝓤})
note_is_good_one M 𝓤 𝓛 m r κs a g z z' ws ws' = plain 𝓤 (λ p q. one_equal p q)

pub note_follows_one : OneOutcome note_follows.ended (λ M 𝓤. note_follows.clauses {𝓤 = 𝓤})
note_follows_one M 𝓤 𝓛 m r κs a g z z' ws ws' = plain 𝓤 (λ p q. one_equal p q)
