use Rattle.std.proofs.Common.{◌≡◌, length, map, take}
use Rattle.mc_text.specs.Reading.{commands_of}
use Rattle.threaded_runner.proofs.roots.quotas_of.Given as goal

-- the counts of the sections so far
abbrev pub invariant-loop-caller : goal.invariant-loop-caller
invariant-loop-caller l = l.quotas.items ≡ map (λ section. length (commands_of section)) (take l.caller l.journal.sections)
