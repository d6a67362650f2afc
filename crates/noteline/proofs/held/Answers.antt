use Rattle.std.proofs.Common.{arith}
use Rattle.std.proofs.lemmas.Bool.Decides.{nat_tests}
use Rattle.noteline.specs.NoteLine.{held}
use Rattle.noteline.proofs.held.Goals as goal

pub returns-then-text-gt60 : goal.returns-then-text-gt60
unfolding held
returns-then-text-gt60 c = grind (arith, nat_tests)

pub returns-in_err-ok : goal.returns-in_err-ok
unfolding held
returns-in_err-ok c = grind (arith, nat_tests)

pub returns-in_err-ok-2 : goal.returns-in_err-ok-2
unfolding held
returns-in_err-ok-2 c = grind (arith, nat_tests)

pub returns : goal.returns
unfolding held
returns c = let h = c.in_ok-ok.ensures in let k = c.in_ok-ok-2.ensures in grind (arith, nat_tests, c.padded.ensures.0, h, k)
