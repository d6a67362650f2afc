use Rattle.std.proofs.Common.{sym, ◌∙◌}
use Rattle.request.proofs.Laws.{asks_new, asks_again}
use Rattle.writing.proofs.Renewed.{anew_wallet}
use Rattle.changes.proofs.Laws.{kept_once}
use Rattle.changes.proofs.signed.Goals as goal

pub returns-in-New : goal.returns-in-New
returns-in-New c = let new = c.in-New.is in
    λ rest h.
    rw (asks_new _ (sym c.signing-s.ensures ∙ new)).0
    (c.signed_anew.ensures _ rest
    (anew_wallet _ (rw (c.charged.ensures, c.wallet.ensures, new, c.value-array.ensures, kept_once) at c.wallet-2.ensures) h))

-- the last signatures again: the wallet is written as it was
pub returns-in-Again : goal.returns-in-Again
returns-in-Again c = let again = c.in-Again.is in
    λ rest h.
    rw (asks_again _ (sym c.signing-s.ensures ∙ again))
    (anew_wallet _ (rw (c.charged.ensures, c.wallet.ensures, again) at c.wallet-2.ensures) h)
