use Rattle.std.proofs.Common.{sym, refl, ap, ◌∙◌, ◌≡◌, ◌/◌}
use Rattle.manual.specs.Wallet.{count}
use Rattle.manual.specs.Words.{hash_size}
use Rattle.sent.specs.Sent.{view}
use Rattle.sums.specs.Counted.{with_signing}
use Rattle.request.proofs.Laws.{asks_new, asks_again}
use Rattle.sums.proofs.Laws.{walked_once, whole_count}
use Rattle.sums.proofs.signed.Goals as goal

pub returns-in-New : goal.returns-in-New
returns-in-New c =
    let q = c.args.request.now in
    let v = view c.walk.new.self in
    let new = asks_new v (sym c.signing.ensures ∙ c.in-New.is) in
    let n : c.in-New.n / hash_size ≡ count v = ap (λ k. k / hash_size) new.1 in
    rw (n, whole_count (count v) c.args.s) at c.with_signed.ensures
    ∙ rw new.0 refl
    ∙ ap (λ x. with_signing x c.args.s) (walked_once q c.payload.ensures c.new-sent.ensures c.walk.ensures)

pub returns-in-Again : goal.returns-in-Again
returns-in-Again c =
    let v = view c.walk.new.self in
    rw (sym (walked_once c.args.request.now c.payload.ensures c.new-sent.ensures c.walk.ensures), asks_again v (sym c.signing.ensures ∙ c.in-Again.is)) refl
