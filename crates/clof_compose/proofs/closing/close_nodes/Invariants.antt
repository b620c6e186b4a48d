use Rattle.std.proofs.Common.{◌≡◌, ◌+◌, length, reverse, vec_capacity, vec_len}
use Rattle.clof_compose.specs.Nodes.{AreFull, AreLocks, locks_of}
use Rattle.clof_compose.specs.Passes.{AreFrom}
use Rattle.clof_compose.proofs.closing.close_nodes.Given as goal

-- the nodes that were taken apart have given their passes to the list
abbrev pub invariant-loop-pass : goal.invariant-loop-pass
invariant-loop-pass g l = record {
  locks : AreLocks g.B.Basic.tag (g.H.Composed.has l.high) (g.H.Composed.level l.high) (g.H.Composed.tag l.high) (locks_of l.nodes.items);
  full : AreFull g.B.Basic.name g.B.Basic.tag g.B.Basic.count g.B.Pass.Placed.place l.nodes.items;
  behind : AreFrom (λ p. (g.H.Pass.Resting.rest p).context) (g.H.Composed.has l.high) (g.H.Composed.level l.high) (g.H.Composed.tag
      l.high) (length l.nodes.items) (reverse l.passes.items);
  counted : length l.nodes.items + length l.passes.items ≡ length l.fn.nodes.items + length l.fn.passes.items;
  room : vec_capacity l.passes ≡ vec_capacity l.fn.passes;
}

abbrev pub decreases-loop-pass : goal.decreases-loop-pass
decreases-loop-pass g l = vec_len l.nodes
