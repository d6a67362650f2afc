use Rattle.std.proofs.Common.{sym, ◌∙◌}
use Rattle.request.proofs.Laws.{asks_new, asks_again}
use Rattle.answers.proofs.Laws.{none, hashes_signed, exactly_shaped}
use Rattle.answers.proofs.sign_answers.Goals as goal

pub returns-in-New : goal.returns-in-New
returns-in-New c = let e = asks_new _ (sym c.signing.ensures ∙ c.in-New.is) in
    λ f d. rw (e.0, ← e.1) (c.are_signatures.ensures ∙ exactly_shaped (hashes_signed _ _ _ _) _)

pub returns-in-Again : goal.returns-in-Again
returns-in-Again c = λ f d. rw (asks_again _ (sym c.signing.ensures ∙ c.in-Again.is)) (c.are_signatures-in-Again.ensures ∙ exactly_shaped none _)
