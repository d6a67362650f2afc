use Rattle.writing.proofs.Renewed.{anew_wallet, anew_key}
use Rattle.changes.proofs.created.Goals as goal

pub returns : goal.returns
returns c = λ rest h.
    anew_key _ c.key.ensures (anew_wallet _ (rw (c.create.ensures, c.max.ensures, c.wallet.ensures) at c.wallet-2.ensures) h)
