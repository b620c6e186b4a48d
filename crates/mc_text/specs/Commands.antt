-- The commands of a section that are still to be given.
use Rattle.std.specs.Prelude.{ℕ, Bool, List, [], if◌then◌else◌}
use Rattle.mc_text.specs.declared.commands.Commands.{Commands}
use Rattle.mc_text.specs.Request.{WholeCommand}
use Rattle.mc_text.specs.Reading.{commands_of, rest_of}

-- the bytes that are left: what stands behind the commands that were given
abbrev pub left : Commands → List ℕ
left commands = commands.rest.now

-- the last command that was given is `quit`
abbrev pub has_quit : Commands → Bool
has_quit commands = commands.ended

-- the commands still to come: none behind `quit`
abbrev pub commands_left : Commands → List WholeCommand
commands_left commands = if commands.ended then [] else commands_of commands.rest.now

-- what stands behind them
abbrev pub rest_left : Commands → List ℕ
rest_left commands = if commands.ended then commands.rest.now else rest_of commands.rest.now
