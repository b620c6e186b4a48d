use Rattle.std.proofs.Common.{◌≡◌}
use Rattle.kv_history.specs.Contents.{left_at}
use Rattle.kv_history.specs.Dues.{Agrees, due_count}
use Rattle.kv_history.proofs.items.Items.expire.Given as goal

abbrev pub invariant-loop-due : goal.invariant-loop-due
invariant-loop-due l = record {
  agrees : Agrees l.self-inside.dues l.self-inside.table;
  left : left_at l.moment l.self-inside.table ≡ left_at l.moment l.fn.self;
}

abbrev pub decreases-loop-due : goal.decreases-loop-due
decreases-loop-due l = due_count l.self-inside.dues
