use Rattle.std.proofs.Common.{sym, ◌∙◌}
use Rattle.wire.proofs.Laws.{wrote_none}
use Rattle.manual.specs.Row.{each_asked}
use Rattle.request.proofs.Laws.{asks_new, asks_again}
use Rattle.questions.proofs.pose_sign.Goals as goal

pub returns-in-New : goal.returns-in-New
returns-in-New c = λ d. rw (asks_new _ (sym c.signing.ensures ∙ c.in-New.is)).0 (rw c.value.ensures at c.pose_hashes.ensures)

pub returns-in-Again : goal.returns-in-Again
unfolding each_asked
returns-in-Again c = λ d. rw (asks_again _ (sym c.signing.ensures ∙ c.in-Again.is)) wrote_none
