use mathlib.Core.Path.{sym, ◌∙◌}
use borrow.Author.Rules.{rules}
use Rattle.wire.proofs.Laws.{runs, filled}
use Rattle.sheet.specs.Sheet.{some_line}
use Rattle.recording.specs.Step.{started}
use Rattle.recording.proofs.fresh_card.Goals as goal

pub returns-in-None : goal.returns-in-None
unfolding started some_line
returns-in-None c = rw (filled (runs c.write.ensures.0) (c.write.ensures.1 ∙ sym c.told-img)) (search rules)
