-- NO TWO OUTCOMES MEET A PROMISE of book, the last content of the lent list or buffer included: a theorem about each public function's own contract.
-- Those of read, write and join stand with booktext and union. Assumes nothing.
use mathlib.Core.Path.{sym, ◌∙◌}
use Rattle.wire.specs.OneOutcome.{OneOutcome, plain}
use Rattle.book.specs.contracts.book_read as book_read
use Rattle.book.specs.contracts.book_write as book_write
use Rattle.book.specs.contracts.book_join as book_join

pub book_read_one : OneOutcome book_read.ended (λ M 𝓤. book_read.clauses {𝓤 = 𝓤})
book_read_one M 𝓤 𝓛 m r κs a g z z' ws ws' = plain 𝓤 (λ p q. (p.0 ∙ sym q.0, λ i. (tt, ((p.1 ∙ sym q.1) i, tt))))

pub book_write_one : OneOutcome book_write.ended (λ M 𝓤. book_write.clauses {𝓤 = 𝓤})
book_write_one M 𝓤 𝓛 m r κs a g z z' ws ws' = plain 𝓤 (λ p q. (p.0 ∙ sym q.0, λ i. (tt, ((p.1 ∙ sym q.1) i, tt))))

pub book_join_one : OneOutcome book_join.ended (λ M 𝓤. book_join.clauses {𝓤 = 𝓤})
book_join_one M 𝓤 𝓛 m r κs a g z z' ws ws' = plain 𝓤 (λ p q. (p.0 ∙ sym q.0, λ i. (tt, (tt, ((p.1 ∙ sym q.1) i, tt)))))
