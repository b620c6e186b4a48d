use Rattle.std.proofs.Common.{◌≡◌, ◌+◌, ◌≤◌, ◌++◌, length, map, reverse, vec_len, vec_capacity}
use Rattle.clof_compose.specs.Tops.{fresh_pass}
use Rattle.clof_compose.proofs.making.top_passes.Given as goal

-- the passes that have left the one list are in the other, the last one first
abbrev pub invariant-loop-low : goal.invariant-loop-low
invariant-loop-low g l = record {
  all : map (fresh_pass l.level) l.fn.lows.items ≡ map (fresh_pass l.level) l.lows.items ++ reverse l.list.items;
  room : length l.lows.items + length l.list.items ≤ vec_capacity l.list;
}

abbrev pub decreases-loop-low : goal.decreases-loop-low
decreases-loop-low g l = vec_len l.lows
