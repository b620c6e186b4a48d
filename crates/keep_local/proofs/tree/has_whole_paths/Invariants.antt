use Rattle.std.proofs.Common.{◌≡◌, ℕ, ◌+◌, ◌<◌, [], length}
use Rattle.std.specs.Prelude.{slice_index_or}
use Rattle.keep_local.specs.Shapes.{top_of}
use Rattle.keep_local.proofs.tree.has_whole_paths.Given as goal

abbrev pub invariant-loop-path : goal.invariant-loop-path
invariant-loop-path l = (w : ℕ) → w < l.path-index → length (slice_index_or l.shape.paths w []) ≡ top_of l.shape + 1
