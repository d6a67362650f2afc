use Rattle.std.proofs.Common.{◌≡◌, arith, cond, ltb, length}
use Prim.Native.Nat.{suc}
use mathlib.Core.Path.{sym, ap, ◌∙◌}
use lib.ListN.{drop}
use Rattle.text.specs.Lines.{next_line, from_line}
use Rattle.text.proofs.LineLaws.{start_next}
use Rattle.sheet.specs.Sheet.{sheet_lines, is_pause_line, some_line, bad_from}
use Rattle.sheet.proofs.Laws.{bad_paused}
use Rattle.sheet.proofs.after_required.Goals as goal

pub returns-then-is_pause_line : goal.returns-then-is_pause_line
unfolding bad_from from_line
returns-then-is_pause_line c = let s = c.args.sheet.now in
    let p = c.is_pause_line.ensures ∙ ap is_pause_line (c.rest.ensures ∙ ap (λ n. drop n s) c.requires) in
    let n = c.next_line.ensures ∙ ap (next_line s) c.requires ∙ sym (start_next (suc sheet_lines) s (omega arith)) in
    c.line_at.ensures
    ∙ ap (λ k. some_line (cond (ltb k (length s)) (suc (suc sheet_lines)) 0)) n
    ∙ sym (ap some_line (bad_paused (suc sheet_lines) s (sym p ∙ c.if-is_pause_line.true)))
