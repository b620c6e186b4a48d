use Rattle.std.proofs.Common.{◌≡◌, ◌++◌}
use Rattle.std.specs.List.{flat_map}
use Rattle.drill_text.specs.Drill.{below}
use Rattle.drill_text.specs.Sums.{line_in}
use Rattle.drill_text.proofs.text.push_keys.Given as goal

-- the lines of the keys so far have been appended
abbrev pub invariant-loop-key : goal.invariant-loop-key
invariant-loop-key l = l.text.items ≡ l.fn.text.items ++ flat_map (line_in l.store) (below l.key)
