use Rattle.std.proofs.Common.{refl, sym, ◌∙◌, arith}
use Rattle.notes.specs.Notes.{blank}
use Rattle.shelf.specs.Shelf.{first_bad}
use Rattle.shelf.proofs.Laws.{bad_here, bad_on, bad_full, bad_none}
use Rattle.shelf.proofs.first_bad.Goals as goal
use Rattle.shelf.proofs.first_bad.Goals.{then-i-eq-MOST-via-then-i-eq-MOST, then-i-eq-MOST-via-else-i-eq-MOST+then-not-follows}

pub loop-i-init : goal.loop-i-init
unfolding first_bad blank
loop-i-init c = (omega arith, refl)

pub returns-then-i-eq-MOST : goal.returns-then-i-eq-MOST
returns-then-i-eq-MOST c = sym (c.loop-i.invariant.1 ∙ elim c.then-i-eq-MOST.branch [
  | then-i-eq-MOST-via-then-i-eq-MOST w ↦ bad_full _ _ _ c.loop-i-test.true w.if-i-eq-MOST.true
  | then-i-eq-MOST-via-else-i-eq-MOST+then-not-follows w ↦ bad_here _ _ _ c.loop-i-test.true (omega arith) (sym w.follows.ensures ∙ w.if-not-follows.true)
])

pub loop-i-preserved : goal.loop-i-preserved
loop-i-preserved c = (omega arith, c.loop-i.invariant.1 ∙ bad_on _ _ _ c.loop-i-test.true (omega arith) (sym c.follows.ensures ∙ c.if-not-follows.false))

pub returns : goal.returns
returns c = sym (c.loop-i.invariant.1 ∙ bad_none _ _ _ (omega arith))
