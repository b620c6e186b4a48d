use Rattle.std.proofs.Common.{true}
use Rattle.kv_history.proofs.Listed.{listed_after}
use Rattle.kv_history.proofs.dues.Dues.list.Goals as goal

pub returns-clause-ok : goal.returns-clause-ok
returns-clause-ok c =
    let updates = c.in_ok-insert.ensures.updates in
    listed_after c.args.due true c.args.self.now.order.keys c.insert.new.self.keys updates.3 updates.1
