use Rattle.booktext.proofs.Laws.{Lined}
use Rattle.booktext.proofs.put_lines.Given as goal

abbrev pub invariant-loop-note : goal.invariant-loop-note
invariant-loop-note l = Lined l.fn.out l.notes l.note-index l.out l.at
