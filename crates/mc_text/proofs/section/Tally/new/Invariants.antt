use Rattle.std.proofs.Common.{◌≡◌, ◌+◌, length}
use Rattle.mc_text.specs.Commands.{commands_left, rest_left}
use Rattle.mc_text.specs.Reading.{commands_of, rest_of}
use Rattle.mc_text.proofs.section.Tally.new.Given as goal

-- the commands so far are those that are not left, and what stands behind all of them stays
abbrev pub invariant-loop-number : goal.invariant-loop-number
invariant-loop-number l = record {
  counted : l.number + length (commands_left l.commands) ≡ length (commands_of l.section);
  rest : rest_left l.commands ≡ rest_of l.section;
}

abbrev pub decreases-loop-number : goal.decreases-loop-number
decreases-loop-number l = length (commands_left l.commands)
