use Rattle.std.proofs.Common.{◌≡◌, ◌+◌, drop, length, reverse}
use Rattle.clof_compose.specs.Nodes.{AreFilled, locks_of}
use Rattle.clof_compose.proofs.closing.take_passes.Given as goal

-- the passes of the first contexts are in the lists of their nodes, and the others are left, the last one first
abbrev pub invariant-loop-node : goal.invariant-loop-node
invariant-loop-node g l = record {
  locks : locks_of l.nodes.items ≡ locks_of l.fn.nodes.items;
  filled : AreFilled g.B.Basic.name g.B.Basic.tag g.B.Basic.count g.B.Pass.Placed.place l.parents l.node-index l.nodes.items;
  left : drop l.node-index l.fn.passes.items ≡ reverse l.passes.items;
  counted : length l.passes.items + l.node-index ≡ length l.parents;
}
