-- NO TWO OUTCOMES MEET A PROMISE of booktext, the last content of the lent list or buffer included: a theorem about each public function's own contract.
-- Assumes nothing.
use mathlib.Core.Path.{sym, ap, ◌∙◌}
use Rattle.wire.specs.OneOutcome.{OneOutcome, plain}
use Rattle.wire.proofs.Unique.{one_page}
use Rattle.shelf.specs.Outcome.{Outcome, after_of}
use Rattle.booktext.specs.BookText.{meaning, notes_of, text_of}
use Rattle.booktext.specs.contracts.read_as as read_as
use Rattle.booktext.specs.contracts.read as read
use Rattle.booktext.specs.contracts.put_lines as put_lines
use Rattle.booktext.specs.contracts.write as write

pub read_as_one : OneOutcome read_as.ended (λ M 𝓤. read_as.clauses {𝓤 = 𝓤})
read_as_one M 𝓤 𝓛 m r κs a g z z' ws ws' = plain 𝓤 (λ p q.
    let e = p.0 ∙ sym q.0 in
    let d = p.1 ∙ ap (λ (o : Outcome). after_of o (notes_of (meaning a.0.now)) a.1.1.0.now) e ∙ sym q.1 in
    (e, λ i. (tt, (tt, (d i, tt)))))

pub read_one : OneOutcome read.ended (λ M 𝓤. read.clauses {𝓤 = 𝓤})
read_one M 𝓤 𝓛 m r κs a g z z' ws ws' = plain 𝓤 (λ p q.
    let e = p.0 ∙ sym q.0 in
    let d = p.1 ∙ ap (λ (o : Outcome). after_of o (notes_of (meaning a.0.now)) a.1.0.now) e ∙ sym q.1 in
    (e, λ i. (tt, (d i, tt))))

pub put_lines_one : OneOutcome put_lines.ended (λ M 𝓤. put_lines.clauses {𝓤 = 𝓤})
put_lines_one M 𝓤 𝓛 m r κs a g z z' ws ws' = plain 𝓤 (λ p q. let e = one_page p.0 q.0 in (e.1, λ i. (e.0 i, (tt, tt))))

pub write_one : OneOutcome write.ended (λ M 𝓤. write.clauses {𝓤 = 𝓤})
write_one M 𝓤 𝓛 m r κs a g z z' ws ws' = plain 𝓤 (λ p q.
    let e = p.0 ∙ sym q.0 in
    let d = p.1 ∙ ap (λ (o : Outcome). after_of o (text_of a.0.now) a.1.0.now) e ∙ sym q.1 in
    (e, λ i. (tt, (d i, tt))))
