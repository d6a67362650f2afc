use mathlib.Core.Path.{◌≡◌}
use lib.ListN.{drop}
use Rattle.sent.specs.Sent.{view}
use Rattle.manual.specs.Row.{single}
use Rattle.reads.proofs.all_single.Given as goal

abbrev pub invariant-loop-tag : goal.invariant-loop-tag
invariant-loop-tag l = single l.tags (view l.sent) ≡ single (drop l.tag-index l.tags) (view l.sent)
