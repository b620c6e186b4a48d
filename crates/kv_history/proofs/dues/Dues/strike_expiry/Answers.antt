use Rattle.std.proofs.Common.{subst}
use Rattle.kv_history.specs.Dues.{ListsAt}
use Rattle.kv_history.proofs.Listed.{relists-none, relists-struck}
use Rattle.kv_history.proofs.dues.Dues.strike_expiry.Goals as goal

pub returns-in-Never : goal.returns-in-Never
returns-in-Never c =
    relists-none c.args.key.items c.args.self.now (subst (ListsAt c.args.self.now c.args.key.items) c.in-Never.is c.requires)

pub returns-in-At : goal.returns-in-At
returns-in-At c =
    relists-struck c.args.key.items c.in-At.time c.args.self.now c.strike.new.self
    (subst (ListsAt c.args.self.now c.args.key.items) c.in-At.is c.requires) c.strike.ensures
