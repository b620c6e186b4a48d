use Rattle.fresh_root.proofs.fresh.Fresh.record.Given as goal

abbrev pub ghosts-append : goal.ghosts-append
ghosts-append g a = record { caller = a.caller }
