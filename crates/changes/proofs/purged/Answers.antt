use Rattle.std.proofs.Common.{[]}
use Rattle.writing.proofs.Renewed.{anew_wallet, anew_key, anew_last}
use Rattle.changes.proofs.purged.Goals as goal

pub returns : goal.returns
returns c = λ rest h.
    anew_last [] c.last.ensures
    (anew_key [] c.key.ensures
    (anew_wallet _ (rw (c.purge-wallet.ensures, c.flags.ensures, c.wallet.ensures) at c.wallet-2.ensures) h))
