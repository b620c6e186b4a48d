use Rattle.std.proofs.Common.{◌≡◌, ◌-◌, take}
use Rattle.std.specs.List.{range_with_len}
use Rattle.topo_tree.specs.Objects.{depth_count}
use Rattle.distrib_rules.specs.Shares.{shared, in_order}
use Rattle.distrib_rules.specs.Expansion.{expansion}
use Rattle.distrib_rules.specs.Masks.{with_pairs}
use Rattle.distrib_rules.proofs.sharing.Distribution.+share_out.Given as goal

abbrev pub decreases-share_out : goal.decreases-share_out
decreases-share_out l = depth_count l.self.now.tree.now - l.depth

abbrev pub invariant-loop-place : goal.invariant-loop-place
invariant-loop-place l =
    l.masks.items ≡ with_pairs l.self.tree.now l.fn.masks.items
    (expansion l.self.tree.now (record { to = l.self.to; backwards = l.self.reverse })
    (take l.place (shared l.self.tree.now l.n l.depth (in_order l.self.reverse (range_with_len l.objects.first l.objects.count)))))
