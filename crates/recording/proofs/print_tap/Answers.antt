use native.Mathlib.Omega.{arith}
use mathlib.Core.Path.{refl, sym, ap, ◌∙◌}
use lib.ListN.{length}
use Rattle.printing.specs.Printing.{told_as, tap_text}
use Rattle.recording.proofs.Laws.{read_back, says}
use Rattle.recording.proofs.print_tap.Goals as goal

pub returns : goal.returns
unfolding tap_text
returns c = let v = told_as c.args.number c.args.response.now in
    let e = c.part-told.ensures ∙ read_back c.put_told-t.ensures.0 (omega (arith, c.put_told-t.ensures.1, c.requires.0)) in
    let z = says refl c.put_tap.ensures.0 (omega (arith, c.put_tap.ensures.1, c.put_told-t.ensures.1, c.requires.0, ap length e)) c.requires.1 in
    rw (sym e, sym c.is_same.ensures) z
