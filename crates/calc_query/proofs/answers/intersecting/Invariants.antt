use Rattle.std.proofs.Common.{◌≡◌}
use Rattle.std.specs.List.{filter, range_with_len}
use Rattle.cpu_set.specs.Tests.{meets}
use Rattle.topo_tree.specs.Coverage.{set_of}
use Rattle.calc_query.proofs.answers.intersecting.Given as goal

abbrev pub invariant-loop-index : goal.invariant-loop-index
invariant-loop-index g l = l.indexes.items ≡ filter (λ index. meets (set_of l.tree l.layer index) l.set) (range_with_len 0 l.index)
