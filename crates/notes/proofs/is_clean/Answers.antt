use Rattle.std.proofs.Common.{◌&&◌, not, eqb, rules}
use Rattle.std.proofs.lemmas.Iterator.{YieldsList-from_slice}
use Rattle.std.proofs.lemmas.Iterator.Search.{all_from_yields_List}
use borrow.Author.Tests.{tests}
use Rattle.notes.specs.Notes.{clean_of}
use Rattle.notes.proofs.is_clean.Goals as goal

pub returns : goal.returns
unfolding clean_of
returns c = all_from_yields_List (λ b. not (eqb b 9) && not (eqb b 10)) _ _ _ c.all.ensures.ran (YieldsList-from_slice c.args.text.now cc) (λ x b q k. search (rules, tests))
