use Rattle.std.proofs.Common.{rules}
use Rattle.placed_runner.proofs.Spreads.{spread_all}
use Rattle.placed_runner.proofs.spreading.spread.Goals as goal

pub returns-clause-bytes : goal.returns-clause-bytes
returns-clause-bytes g c = spread_all _ c.place_all.result c.args.sections.now _ (search rules) c.place_all.ensures.placed
