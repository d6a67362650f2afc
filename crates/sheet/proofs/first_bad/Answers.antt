use Rattle.std.proofs.Common.{◌≡◌, arith, refl, ne_eqb}
use Rattle.std.proofs.lemmas.Grind.{common_steps}
use Rattle.text.specs.Lines.{start_of, from_line}
use Rattle.text.proofs.LineLaws.{start_next}
use Rattle.sheet.specs.Sheet.{first_bad, some_line, bad_from}
use Rattle.sheet.proofs.Laws.{bad_here, bad_on}
use Rattle.sheet.proofs.first_bad.Goals as goal

pub loop-line-init : goal.loop-line-init
unfolding first_bad start_of
loop-line-init c = (omega arith, omega arith, refl, refl)

pub loop-line-preserved : goal.loop-line-preserved
unfolding from_line
loop-line-preserved c = (omega arith, omega arith, grind (arith, common_steps, start_next), grind (arith, common_steps, bad_on))

pub returns-then-line-gt-LINES : goal.returns-then-line-gt-LINES
unfolding bad_from
returns-then-line-gt-LINES c = grind (arith, common_steps)

pub returns-then-not-good_line : goal.returns-then-not-good_line
unfolding some_line from_line
returns-then-not-good_line c = let e : first_bad c.args.sheet.now ≡ c.loop-line.line = grind (arith, common_steps, bad_here) in
    rw (e, ne_eqb c.loop-line.line 0 (λ z. omega arith))
