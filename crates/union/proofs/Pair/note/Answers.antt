use mathlib.Core.Logic.{inl, inr}
use Rattle.union.specs.Union.{note_in}
use Rattle.union.proofs.Pair.note.Goals as goal

pub returns-in-First : goal.returns-in-First
unfolding note_in
returns-in-First c = elim c.in-First.is [ inl e ↦ rw e | inr e ↦ rw e.1 ]

pub returns-in-Second : goal.returns-in-Second
unfolding note_in
returns-in-Second c = rw c.in-Second.is
