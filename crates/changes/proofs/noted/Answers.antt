use Rattle.writing.proofs.Renewed.{anew_issuer}
use Rattle.changes.proofs.noted.Goals as goal

pub returns : goal.returns
returns c = λ rest h. anew_issuer _ _ _ (rw (c.value.ensures, c.value-2.ensures, c.kept_counter-counter.ensures) at c.issuer.ensures) h
