use Rattle.writing.proofs.Renewed.{anew_codes}
use Rattle.changes.proofs.recoded.Goals as goal

pub returns : goal.returns
returns c = λ t rest h. anew_codes _ _ (rw (c.value.ensures, c.value-2.ensures) at c.codes.ensures) h
