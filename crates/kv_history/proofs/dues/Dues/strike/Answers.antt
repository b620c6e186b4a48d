use Rattle.std.proofs.Common.{false}
use Rattle.kv_history.proofs.Listed.{listed_after}
use Rattle.kv_history.proofs.dues.Dues.strike.Goals as goal

pub returns : goal.returns
returns c =
    let updates = c.remove.ensures.updates in
    listed_after c.args.due false c.args.self.now.order.keys c.remove.new.self.keys updates.3 updates.1
