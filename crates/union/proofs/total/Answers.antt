use Rattle.std.proofs.Common.{refl, sym, ◌∙◌, inl, arith}
use Rattle.std.proofs.lemmas.Iterator.Consumers.{YieldsList-from_first, count_from_yields_List}
use Rattle.union.specs.Aside.{pairs_left}
use Rattle.union.specs.Union.{aside, merged}
use Rattle.union.proofs.Laws.{notes_length, aside_short}
use Rattle.union.proofs.total.Goals as goal

pub count-requires-clause-fits : goal.count-requires-clause-fits
count-requires-clause-fits c = let h = aside_short c.args.first.now c.args.second.now in inl (omega arith)

pub returns : goal.returns
unfolding merged
returns c = count_from_yields_List _ _ c.count.ensures.ran (YieldsList-from_first (λ x. x) pairs_left (aside c.args.first.now c.args.second.now) refl) ∙ sym (notes_length _)
