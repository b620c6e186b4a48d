use Rattle.std.proofs.Common.{◌≡◌, map, take}
use Rattle.clap.specs.Words.{app_of}
use Rattle.command_words.specs.Commands.{command_of, rule_of}
use Rattle.command_words.proofs.command.command.Given as goal

-- the command so far has the arguments so far
abbrev pub invariant-loop-argument : goal.invariant-loop-argument
invariant-loop-argument l = app_of l.command ≡ command_of l.fn.name (map rule_of (take l.argument-index l.arguments))
