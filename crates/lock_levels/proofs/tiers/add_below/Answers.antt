use Rattle.lock_levels.proofs.tiers.add_below.Goals as goal

pub close-requires-clause-all : goal.close-requires-clause-all
close-requires-clause-all g c = rw c.in-Err.ensures.high c.in-Err.ensures.returned
