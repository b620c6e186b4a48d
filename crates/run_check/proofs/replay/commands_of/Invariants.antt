use Rattle.std.proofs.Common.{◌≡◌, map, take}
use Rattle.mc_text.specs.Commands.{commands_left}
use Rattle.mc_text.specs.Reading.{commands_of}
use Rattle.run_check.proofs.replay.commands_of.Given as goal

-- the commands of the sections so far
abbrev pub invariant-loop-section : goal.invariant-loop-section
invariant-loop-section l =
    map commands_left l.left.items ≡ map (λ section. commands_of section.bytes.now) (take l.section-index l.sections)
