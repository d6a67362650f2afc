-- NO TWO OUTCOMES MEET A PROMISE of sheet: a theorem about each public function's own contract. Assumes nothing.
use Rattle.wire.specs.OneOutcome.{OneOutcome, plain}
use Rattle.wire.proofs.Unique.{one_equal}
use Rattle.sheet.specs.contracts.curve_of as curve_of
use Rattle.sheet.specs.contracts.max_of as max_of
use Rattle.sheet.specs.contracts.flag_of as flag_of
use Rattle.sheet.specs.contracts.pause_of as pause_of
use Rattle.sheet.specs.contracts.is_pause_line as is_pause_line
use Rattle.sheet.specs.contracts.pause_in as pause_in
use Rattle.sheet.specs.contracts.first_bad as first_bad
use Rattle.sheet.specs.contracts.has_pause as has_pause
use Rattle.sheet.specs.contracts.belongs as belongs
use Rattle.sheet.specs.contracts.line_after as line_after

pub curve_of_one : OneOutcome curve_of.ended (λ M 𝓤. curve_of.clauses {𝓤 = 𝓤})
curve_of_one M 𝓤 𝓛 m r κs a g z z' ws ws' = plain 𝓤 (λ p q. one_equal p q)

pub max_of_one : OneOutcome max_of.ended (λ M 𝓤. max_of.clauses {𝓤 = 𝓤})
max_of_one M 𝓤 𝓛 m r κs a g z z' ws ws' = plain 𝓤 (λ p q. one_equal p q)

pub flag_of_one : OneOutcome flag_of.ended (λ M 𝓤. flag_of.clauses {𝓤 = 𝓤})
flag_of_one M 𝓤 𝓛 m r κs a g z z' ws ws' = plain 𝓤 (λ p q. one_equal p q)

pub pause_of_one : OneOutcome pause_of.ended (λ M 𝓤. pause_of.clauses {𝓤 = 𝓤})
pause_of_one M 𝓤 𝓛 m r κs a g z z' ws ws' = plain 𝓤 (λ p q. one_equal p q)

pub is_pause_line_one : OneOutcome is_pause_line.ended (λ M 𝓤. is_pause_line.clauses {𝓤 = 𝓤})
is_pause_line_one M 𝓤 𝓛 m r κs a g z z' ws ws' = plain 𝓤 (λ p q. one_equal p q)

pub pause_in_one : OneOutcome pause_in.ended (λ M 𝓤. pause_in.clauses {𝓤 = 𝓤})
pause_in_one M 𝓤 𝓛 m r κs a g z z' ws ws' = plain 𝓤 (λ p q. one_equal p q)

pub first_bad_one : OneOutcome first_bad.ended (λ M 𝓤. first_bad.clauses {𝓤 = 𝓤})
first_bad_one M 𝓤 𝓛 m r κs a g z z' ws ws' = plain 𝓤 (λ p q. one_equal p q)

pub has_pause_one : OneOutcome has_pause.ended (λ M 𝓤. has_pause.clauses {𝓤 = 𝓤})
has_pause_one M 𝓤 𝓛 m r κs a g z z' ws ws' = plain 𝓤 (λ p q. one_equal p q)

pub belongs_one : OneOutcome belongs.ended (λ M 𝓤. belongs.clauses {𝓤 = 𝓤})
belongs_one M 𝓤 𝓛 m r κs a g z z' ws ws' = plain 𝓤 (λ p q. one_equal p q)

pub line_after_one : OneOutcome line_after.ended (λ M 𝓤. line_after.clauses {𝓤 = 𝓤})
line_after_one M 𝓤 𝓛 m r κs a g z z' ws ws' = plain 𝓤 (λ p q. one_equal p q)
