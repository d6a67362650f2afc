use Rattle.std.proofs.Common.{◌≡◌, ◌-◌, ◌≤◌, suc}
use Rattle.text.specs.Lines.{start_of}
use Rattle.sheet.specs.Sheet.{sheet_lines, bad_from, first_bad}
use Rattle.sheet.proofs.first_bad.Given as goal

abbrev pub invariant-loop-line : goal.invariant-loop-line
invariant-loop-line l = (1 ≤ l.line) × (l.line ≤ suc sheet_lines) × (l.at ≡ start_of l.line l.sheet) × (first_bad l.sheet ≡ bad_from (suc sheet_lines - l.line) l.line l.sheet)

abbrev pub decreases-loop-line : goal.decreases-loop-line
decreases-loop-line l = suc sheet_lines - l.line
