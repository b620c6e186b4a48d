use Rattle.std.proofs.Common.{◌≡◌, map}
use Rattle.drill_text.specs.Drill.{below, drill_section}
use Rattle.drill_text.proofs.commands.sections.Given as goal

-- the sections of the callers so far
abbrev pub invariant-loop-caller : goal.invariant-loop-caller
invariant-loop-caller l = map (λ section. section.items) l.sections.items ≡ map (drill_section l.drill) (below l.caller)
