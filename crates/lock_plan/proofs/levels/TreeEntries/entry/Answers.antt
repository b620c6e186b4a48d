use Rattle.lock_plan.proofs.Named.{unnamed}
use Rattle.lock_plan.proofs.levels.TreeEntries.entry.Goals as goal

pub returns-clause-empty : goal.returns-clause-empty
returns-clause-empty c = unnamed c.args.self.now
