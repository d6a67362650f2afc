use Rattle.std.proofs.Common.{sym, ◌∙◌}
use Rattle.std.proofs.lemmas.List.{nil_from_length}
use Rattle.union.proofs.Laws.{aside_none, aside_first, aside_second, aside_less, aside_equal, aside_greater, taken}
use Rattle.union.proofs.AsideIterator.next.Goals as goal

pub returns-in_err-y-clause-steps : goal.returns-in_err-y-clause-steps
returns-in_err-y-clause-steps c = let e = aside_none (nil_from_length _ c.in_default.ensures.cases) (nil_from_length _ c.in_err-y.ensures.cases) in rw c.from_residual.ensures (e, e)

pub returns-in_default : goal.returns-in_default
returns-in_default c = let e = aside_second (nil_from_length _ c.in_default.ensures.cases) c.in_ok-y.ensures.cases.0 in record { steps = e; goes = taken e }

pub returns-in_default-split_first : goal.returns-in_default-split_first
returns-in_default-split_first c = let e = aside_first c.in-Some.ensures.cases.0 (nil_from_length _ c.in_default-split_first.ensures.cases) in record { steps = e; goes = taken e }

pub returns-in-Less : goal.returns-in-Less
returns-in-Less c = let e = aside_less c.in-Some.ensures.cases.0 c.in-Some-split_first.ensures.cases.0 (sym c.order_of.ensures ∙ c.in-Less.is) in record { steps = e; goes = taken e }

pub returns-in-Equal : goal.returns-in-Equal
returns-in-Equal c = let e = aside_equal c.in-Some.ensures.cases.0 c.in-Some-split_first.ensures.cases.0 (sym c.order_of.ensures ∙ c.in-Equal.is) in record { steps = e; goes = taken e }

pub returns-in-Greater : goal.returns-in-Greater
returns-in-Greater c = let e = aside_greater c.in-Some.ensures.cases.0 c.in-Some-split_first.ensures.cases.0 (sym c.order_of.ensures ∙ c.in-Greater.is) in record { steps = e; goes = taken e }
