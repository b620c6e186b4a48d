use Rattle.std.proofs.Common.{◌≡◌, ◌-◌}
use Rattle.run_check.specs.Readings.{behind_spaces}
use Rattle.run_check.proofs.reading.behind_spaces.Given as goal

-- behind the spaces that are left stands what stands behind all
abbrev pub invariant-loop : goal.invariant-loop
invariant-loop l = behind_spaces l.fn.spaces l.fn.text ≡ behind_spaces (l.fn.spaces - l.counter) l.rest
