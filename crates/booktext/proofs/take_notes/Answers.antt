use Rattle.std.proofs.Common.{sym, ap, arith}
use borrow.Author.Tests.{eqb-true}
use Rattle.notes.proofs.Laws.{blank_is}
use Rattle.booktext.proofs.Laws.{taken_none, taken_full, taken_bad, taken_more, taken_all, some_left, tail_less}
use Rattle.booktext.specs.BookText.{read_outcome}
use Rattle.booktext.proofs.take_notes.Goals as goal

pub loop-rest-init : goal.loop-rest-init
loop-rest-init c = rw blank_is (taken_none _ _ (omega arith))

pub returns-then-n-eq-MOST : goal.returns-then-n-eq-MOST
unfolding read_outcome
returns-then-n-eq-MOST c = ap (read_outcome c.args.number) (taken_full c.loop-rest.invariant c.if-n-eq-MOST.true (some_left _ c.loop-rest-test.ensures))

pub returns-in_default : goal.returns-in_default
unfolding read_outcome
returns-in_default c =
    let f = c.loop-rest.invariant.few in
    ap (read_outcome c.args.number) (taken_bad c.loop-rest.invariant (omega arith) (some_left _ c.loop-rest-test.ensures) (sym c.in_default.ensures))

pub loop-rest-smaller : goal.loop-rest-smaller
loop-rest-smaller c = rw c.tail_after-rest.ensures (tail_less _ (some_left _ c.loop-rest-test.ensures))

pub loop-rest-preserved : goal.loop-rest-preserved
loop-rest-preserved c =
    let f = c.loop-rest.invariant.few in
    rw c.tail_after-rest.ensures (taken_more c.loop-rest.invariant (omega arith) (some_left _ c.loop-rest-test.ensures) (sym c.in-Some.ensures))

pub returns : goal.returns
returns c = (c.loop-rest.invariant.few, taken_all c.loop-rest.invariant (eqb-true _ _ (sym c.loop-rest-test.ensures)))
