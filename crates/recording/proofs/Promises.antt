-- NO TWO OUTCOMES MEET A PROMISE of recording: a theorem about each public function's own contract. Assumes nothing.
use Rattle.wire.specs.OneOutcome.{OneOutcome, plain}
use Rattle.wire.proofs.Unique.{one_equal}
use Rattle.recording.proofs.Unique.{one_turn}
use Rattle.recording.specs.contracts.begin as begin
use Rattle.recording.specs.contracts.step as step
use Rattle.recording.specs.contracts.finish as finish
use Rattle.recording.specs.contracts.has_place as has_place
use Rattle.recording.specs.contracts.new_play as new_play

pub begin_one : OneOutcome begin.ended (λ M 𝓤. begin.clauses {𝓤 = 𝓤})
begin_one M 𝓤 𝓛 m r κs a g z z' ws ws' = plain 𝓤 (λ p q. let e = one_turn p q in (e.0, λ i. (tt, (e.1 i, (e.2 i, tt)))))

pub step_one : OneOutcome step.ended (λ M 𝓤. step.clauses {𝓤 = 𝓤})
step_one M 𝓤 𝓛 m r κs a g z z' ws ws' = plain 𝓤 (λ p q. let e = one_turn p q in (e.0, λ i. (tt, (tt, (e.1 i, (e.2 i, tt))))))

pub finish_one : OneOutcome finish.ended (λ M 𝓤. finish.clauses {𝓤 = 𝓤})
finish_one M 𝓤 𝓛 m r κs a g z z' ws ws' = plain 𝓤 (λ p q. let e = one_turn p q in (e.0, λ i. (tt, (tt, (e.2 i, tt)))))

pub has_place_one : OneOutcome has_place.ended (λ M 𝓤. has_place.clauses {𝓤 = 𝓤})
has_place_one M 𝓤 𝓛 m r κs a g z z' ws ws' = plain 𝓤 (λ p q. one_equal p q)

pub new_play_one : OneOutcome new_play.ended (λ M 𝓤. new_play.clauses {𝓤 = 𝓤})
new_play_one M 𝓤 𝓛 m r κs a g z z' ws ws' = plain 𝓤 (λ p q. one_equal p q)
