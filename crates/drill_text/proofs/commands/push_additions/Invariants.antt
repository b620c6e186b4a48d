use Rattle.std.proofs.Common.{◌≡◌, ◌++◌, ◌-◌, ◌<◌, ◌%◌}
use Rattle.std.specs.List.{flat_map}
use Rattle.drill_text.specs.Drill.{addition}
use Rattle.drill_text.proofs.Strides.{with_rest}
use Rattle.drill_text.proofs.commands.push_additions.Given as goal

-- the caller's additions below the next one have been appended
abbrev pub invariant-loop-number : goal.invariant-loop-number
invariant-loop-number l = record {
  rest : l.number % 64 ≡ l.caller;
  near : l.number < 20064;
  items : l.section.items ≡ l.fn.section.items ++ flat_map (addition l.drill) (with_rest l.caller l.number);
}

abbrev pub decreases-loop-number : goal.decreases-loop-number
decreases-loop-number l = 20000 - l.number
