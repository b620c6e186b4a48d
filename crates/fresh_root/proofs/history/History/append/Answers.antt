use Rattle.std.proofs.Common.{rules}
use Rattle.fresh_root.proofs.Kept.{appends}
use Rattle.fresh_root.proofs.history.History.append.Goals as goal

pub fetch_add-requires : goal.fetch_add-requires
fetch_add-requires g c = (c.self.invariant.own, search rules, appends _ _ _ _ c.self.invariant.home (search rules))
