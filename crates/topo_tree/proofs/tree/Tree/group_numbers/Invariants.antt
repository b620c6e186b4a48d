use Rattle.std.proofs.Common.{◌≡◌, ◌≤◌, map, take, count_by}
use Rattle.std.specs.List.{range_with_len}
use Rattle.synth_text.specs.declared.kind.Kind.TheVariants.{Group}
use Rattle.synth_text.specs.Kinds.{same_kind}
use Rattle.topo_tree.specs.Objects.{kinds}
use Rattle.topo_tree.specs.Lines.{group_number}
use Rattle.topo_tree.proofs.tree.Tree.group_numbers.Given as goal

abbrev pub invariant-loop-depth : goal.invariant-loop-depth
invariant-loop-depth l =
    record {
      few : l.number ≤ l.depth;
      number : l.number ≡ count_by (λ kind. same_kind kind Group) (take l.depth (kinds l.self));
      numbers : l.numbers.items ≡ map (group_number l.self) (range_with_len 0 l.depth);
    }
