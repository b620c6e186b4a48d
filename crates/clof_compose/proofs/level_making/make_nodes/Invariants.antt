use Rattle.std.proofs.Common.{◌≡◌, ◌+◌, length, reverse, vec_capacity, vec_len}
use Rattle.std.specs.Prelude.{All}
use Rattle.clof_compose.specs.Nodes.{AreFilled, AreLocks, AreMade, locks_of}
use Rattle.clof_compose.specs.Passes.{AreFrom}
use Rattle.clof_compose.proofs.level_making.make_nodes.Given as goal

-- the passes that have left the list are in the nodes
abbrev pub invariant-loop-pass : goal.invariant-loop-pass
invariant-loop-pass g l = record {
  locks : AreLocks g.B.Basic.tag (g.H.Composed.has l.high) (g.H.Composed.level l.high) (g.H.Composed.tag l.high) (locks_of l.nodes.items);
  made : AreMade g.B.Basic.made l.recipe l.nodes.items;
  filled : AreFilled g.B.Basic.name g.B.Basic.tag g.B.Basic.count g.B.Pass.Placed.place l.parents (length l.parents) l.nodes.items;
  behind : AreFrom (λ p. (g.H.Pass.Resting.rest p).context) (g.H.Composed.has l.high) (g.H.Composed.level l.high) (g.H.Composed.tag
      l.high) (length l.nodes.items) (reverse l.passes.items);
  fresh : All (λ p. (g.H.Pass.Resting.rest p).report.tests ≡ 0) (reverse l.passes.items);
  counted : length l.nodes.items + length l.passes.items ≡ length l.fn.passes.items;
  room : vec_capacity l.passes ≡ vec_capacity l.fn.passes;
  nodes_room : vec_capacity l.nodes ≡ vec_capacity l.fn.nodes;
}

abbrev pub decreases-loop-pass : goal.decreases-loop-pass
decreases-loop-pass g l = vec_len l.passes
