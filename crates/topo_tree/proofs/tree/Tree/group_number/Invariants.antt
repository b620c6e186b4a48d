use Rattle.std.proofs.Common.{◌≡◌, ◌≤◌, take, count_by}
use Rattle.synth_text.specs.declared.kind.Kind.TheVariants.{Group}
use Rattle.synth_text.specs.Kinds.{same_kind}
use Rattle.topo_tree.specs.Objects.{kinds}
use Rattle.topo_tree.proofs.tree.Tree.group_number.Given as goal

abbrev pub invariant-loop-above : goal.invariant-loop-above
invariant-loop-above l =
    record {
      few : l.number ≤ l.above;
      number : l.number ≡ count_by (λ kind. same_kind kind Group) (take l.above (kinds l.self));
    }
