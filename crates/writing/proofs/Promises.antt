-- NO TWO OUTCOMES MEET A PROMISE of writing: a theorem about each public function's own contract. Assumes nothing.
use Rattle.wire.specs.OneOutcome.{OneOutcome, plain}
use Rattle.wire.proofs.Unique.{one_write}
use Rattle.writing.specs.contracts.write as write
use Rattle.writing.specs.contracts.anew.issuer as anew_issuer
use Rattle.writing.specs.contracts.anew.codes as anew_codes
use Rattle.writing.specs.contracts.anew.flags as anew_flags
use Rattle.writing.specs.contracts.anew.wallet as anew_wallet
use Rattle.writing.specs.contracts.anew.key as anew_key
use Rattle.writing.specs.contracts.anew.counters as anew_counters
use Rattle.writing.specs.contracts.anew.user as anew_user
use Rattle.writing.specs.contracts.anew.protected as anew_protected
use Rattle.writing.specs.contracts.anew.pause as anew_pause
use Rattle.writing.specs.contracts.anew.pending as anew_pending
use Rattle.writing.specs.contracts.anew.last as anew_last

pub write_one : OneOutcome write.ended (λ M 𝓤. write.clauses {𝓤 = 𝓤})
write_one M 𝓤 𝓛 m r κs a g z z' ws ws' = plain 𝓤 (λ p q. let e = one_write p.0 q.0 in (e.1, λ i. (tt, (e.0 i, tt))))

pub anew_issuer_one : OneOutcome anew_issuer.ended (λ M 𝓤. anew_issuer.clauses {𝓤 = 𝓤})
anew_issuer_one M 𝓤 𝓛 m r κs a g z z' ws ws' = plain 𝓤 (λ p q. let e = one_write p q in (e.1, λ i. (e.0 i, (tt, (tt, (tt, tt))))))

pub anew_codes_one : OneOutcome anew_codes.ended (λ M 𝓤. anew_codes.clauses {𝓤 = 𝓤})
anew_codes_one M 𝓤 𝓛 m r κs a g z z' ws ws' = plain 𝓤 (λ p q. let e = one_write p q in (e.1, λ i. (e.0 i, (tt, (tt, tt)))))

pub anew_flags_one : OneOutcome anew_flags.ended (λ M 𝓤. anew_flags.clauses {𝓤 = 𝓤})
anew_flags_one M 𝓤 𝓛 m r κs a g z z' ws ws' = plain 𝓤 (λ p q. let e = one_write p q in (e.1, λ i. (e.0 i, (tt, tt))))

pub anew_wallet_one : OneOutcome anew_wallet.ended (λ M 𝓤. anew_wallet.clauses {𝓤 = 𝓤})
anew_wallet_one M 𝓤 𝓛 m r κs a g z z' ws ws' = plain 𝓤 (λ p q. let e = one_write p q in (e.1, λ i. (e.0 i, (tt, tt))))

pub anew_key_one : OneOutcome anew_key.ended (λ M 𝓤. anew_key.clauses {𝓤 = 𝓤})
anew_key_one M 𝓤 𝓛 m r κs a g z z' ws ws' = plain 𝓤 (λ p q. let e = one_write p q in (e.1, λ i. (e.0 i, (tt, tt))))

pub anew_counters_one : OneOutcome anew_counters.ended (λ M 𝓤. anew_counters.clauses {𝓤 = 𝓤})
anew_counters_one M 𝓤 𝓛 m r κs a g z z' ws ws' = plain 𝓤 (λ p q. let e = one_write p q in (e.1, λ i. (e.0 i, (tt, tt))))

pub anew_user_one : OneOutcome anew_user.ended (λ M 𝓤. anew_user.clauses {𝓤 = 𝓤})
anew_user_one M 𝓤 𝓛 m r κs a g z z' ws ws' = plain 𝓤 (λ p q. let e = one_write p q in (e.1, λ i. (e.0 i, (tt, tt))))

pub anew_protected_one : OneOutcome anew_protected.ended (λ M 𝓤. anew_protected.clauses {𝓤 = 𝓤})
anew_protected_one M 𝓤 𝓛 m r κs a g z z' ws ws' = plain 𝓤 (λ p q. let e = one_write p q in (e.1, λ i. (e.0 i, (tt, tt))))

pub anew_pause_one : OneOutcome anew_pause.ended (λ M 𝓤. anew_pause.clauses {𝓤 = 𝓤})
anew_pause_one M 𝓤 𝓛 m r κs a g z z' ws ws' = plain 𝓤 (λ p q. let e = one_write p q in (e.1, λ i. (e.0 i, (tt, tt))))

pub anew_pending_one : OneOutcome anew_pending.ended (λ M 𝓤. anew_pending.clauses {𝓤 = 𝓤})
anew_pending_one M 𝓤 𝓛 m r κs a g z z' ws ws' = plain 𝓤 (λ p q. let e = one_write p q in (e.1, λ i. (e.0 i, (tt, (tt, tt)))))

pub anew_last_one : OneOutcome anew_last.ended (λ M 𝓤. anew_last.clauses {𝓤 = 𝓤})
anew_last_one M 𝓤 𝓛 m r κs a g z z' ws ws' = plain 𝓤 (λ p q. let e = one_write p q in (e.1, λ i. (e.0 i, (tt, tt))))
