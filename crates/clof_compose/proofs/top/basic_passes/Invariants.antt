use Rattle.std.proofs.Common.{◌≡◌, ◌+◌, ◌≤◌, ◌++◌, length, map, reverse, vec_len, vec_capacity}
use Rattle.clof_compose.proofs.top.basic_passes.Given as goal

-- the passes that have left the one list are in the other, the last one first
abbrev pub invariant-loop-pass : goal.invariant-loop-pass
invariant-loop-pass g l = record {
  all : map (λ p. p.low) l.fn.passes.items ≡ map (λ p. p.low) l.passes.items ++ reverse l.list.items;
  room : length l.passes.items + length l.list.items ≤ vec_capacity l.list;
}

abbrev pub decreases-loop-pass : goal.decreases-loop-pass
decreases-loop-pass g l = vec_len l.passes
