use Rattle.std.proofs.Common.{refl, sym, arith, le-ltb, lt-ltb}
use Rattle.shelf.proofs.Laws.{book_fits}
use Rattle.shelf.specs.Outcome.{after_of}
use Rattle.union.specs.Union.{fitting_of, matched_of, unless_bad, decided, join_of}
use Rattle.union.proofs.join.Goals as goal

pub returns-then-joined-lt-MOST : goal.returns-then-joined-lt-MOST
unfolding join_of decided after_of
returns-then-joined-lt-MOST c = (rw (lt-ltb _ _ c.if-joined-lt-MOST.true), refl, tt)

pub returns-in-Some : goal.returns-in-Some
unfolding join_of decided unless_bad after_of
returns-in-Some c = (rw (le-ltb _ _ c.if-joined-lt-MOST.false, ← c.in-Some.ensures), refl, tt)

pub returns-in-Some-first_bad : goal.returns-in-Some-first_bad
unfolding join_of decided unless_bad after_of
returns-in-Some-first_bad c = (rw (le-ltb _ _ c.if-joined-lt-MOST.false, ← c.in_default.ensures, ← c.in-Some-first_bad.ensures), refl, tt)

pub returns-in-Some-lowest_clash : goal.returns-in-Some-lowest_clash
unfolding join_of decided unless_bad matched_of after_of
returns-in-Some-lowest_clash c =
    (rw (le-ltb _ _ c.if-joined-lt-MOST.false, ← c.in_default.ensures, ← c.in_default-first_bad.ensures, ← c.in-Some-lowest_clash.ensures), refl, tt)

pub total-total-requires : goal.total-total-requires
total-total-requires c =
    let f = book_fits c.args.first.now (sym c.in_default.ensures) in
    let s = book_fits c.args.second.now (sym c.in_default-first_bad.ensures) in
    omega arith

pub returns-then-total-gt-MOST : goal.returns-then-total-gt-MOST
unfolding join_of decided unless_bad matched_of fitting_of after_of
returns-then-total-gt-MOST c =
    (rw (le-ltb _ _ c.if-joined-lt-MOST.false, ← c.in_default.ensures, ← c.in_default-first_bad.ensures, ← c.in_default-lowest_clash.ensures, ← c.total-total.ensures, lt-ltb _ _ c.if-total-gt-MOST.true), refl, tt)

pub returns : goal.returns
unfolding join_of decided unless_bad matched_of fitting_of after_of
returns c =
    let few = c.if-total-gt-MOST.false in
    (rw (le-ltb _ _ c.if-joined-lt-MOST.false, ← c.in_default.ensures, ← c.in_default-first_bad.ensures, ← c.in_default-lowest_clash.ensures, ← c.total-total.ensures, le-ltb _ _ few), c.merge.ensures, few)
