use Rattle.std.proofs.Common.{◌≡◌, ◌++◌}
use Rattle.std.specs.List.{flat_map}
use Rattle.drill_text.specs.Drill.{below, opening}
use Rattle.drill_text.proofs.commands.push_openings.Given as goal

-- the keys so far are opened
abbrev pub invariant-loop-key : goal.invariant-loop-key
invariant-loop-key l = l.section.items ≡ l.fn.section.items ++ flat_map opening (below l.key)
