use Rattle.changes.proofs.stored_counters.Goals as goal

pub returns : goal.returns
returns c = let old = c.args.old in
    λ i. record { checks = old.checks; validations = old.validations; user = c.stored_number.ensures i; protected = c.stored_number-2.ensures i }
