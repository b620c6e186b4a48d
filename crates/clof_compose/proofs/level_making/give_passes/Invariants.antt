use Rattle.std.proofs.Common.{◌≡◌, ℕ, ◌+◌, length, reverse, vec_capacity, Some}
use Rattle.std.specs.Prelude.{slice_get}
use Rattle.clof_compose.specs.Nodes.{AreFilled, IsGiven, locks_of}
use Rattle.clof_compose.proofs.level_making.give_passes.Given as goal

-- the contexts from `number` on have their passes, the last one first, and the lists have those of the contexts before
abbrev pub invariant-loop-number : goal.invariant-loop-number
invariant-loop-number g l = record {
  locks : locks_of l.nodes.items ≡ locks_of l.fn.nodes.items;
  filled : AreFilled g.B.Basic.name g.B.Basic.tag g.B.Basic.count g.B.Pass.Placed.place l.parents l.number l.nodes.items;
  given : (k : ℕ) (p : _) → slice_get (reverse l.passes.items) k ≡ Some p → IsGiven g.B.Basic.name g.B.Basic.tag g.B.Pass.Placed.place
      l.level l.parents (locks_of l.fn.nodes.items) (l.number + k) p;
  counted : l.number + length l.passes.items ≡ length l.parents;
  room : vec_capacity l.passes ≡ vec_capacity l.fn.passes;
}
