use Rattle.std.proofs.Common.{◌≡◌, ◌-◌, ◌≤◌}
use Rattle.std.specs.List.{slice_get}
use Rattle.synth_text.specs.Kinds.{same_kind}
use Rattle.topo_tree.specs.Objects.{depth_count, kind_at}
use Rattle.topo_tree.specs.Naming.{depths_of}
use Rattle.topo_tree.proofs.Depths.{passing_from}
use Rattle.topo_tree.proofs.tree.Tree.numbered_depth.Given as goal

abbrev pub invariant-loop-depth : goal.invariant-loop-depth
invariant-loop-depth l =
    record {
      few : l.above ≤ l.number;
      rest : slice_get (passing_from (λ depth. same_kind (kind_at l.self depth) l.kind) l.depth (depth_count l.self))
          (l.number - l.above) ≡ slice_get (depths_of l.self l.kind) l.number;
    }
