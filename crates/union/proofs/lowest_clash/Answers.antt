use Rattle.std.proofs.Common.{refl, ◌∙◌, rules}
use Rattle.std.proofs.lemmas.Iterator.Consumers.{YieldsList-from_first}
use Rattle.std.proofs.lemmas.Iterator.Search.{find_from_yields_List}
use borrow.Author.Tests.{tests}
use Rattle.union.specs.Aside.{pairs_left}
use Rattle.union.specs.Union.{aside, clashes}
use Rattle.union.proofs.Laws.{no_clash, clash_at}
use Rattle.union.proofs.lowest_clash.Goals as goal

pub returns-in_err-find : goal.returns-in_err-find
returns-in_err-find c =
    let ps = aside c.args.first.now c.args.second.now in
    let f = find_from_yields_List clashes c.find.new.self _ c.find.result c.find.ensures.ran (YieldsList-from_first (λ x. x) pairs_left ps refl) (λ x b q k. search (rules, tests)) in
    c.from_residual.ensures ∙ no_clash ps f c.in_err-find.was

pub returns : goal.returns
returns c =
    let ps = aside c.args.first.now c.args.second.now in
    let f = find_from_yields_List clashes c.find.new.self _ c.find.result c.find.ensures.ran (YieldsList-from_first (λ x. x) pairs_left ps refl) (λ x b q k. search (rules, tests)) in
    clash_at ps f c.in_ok-find.was c.note-clash.ensures
