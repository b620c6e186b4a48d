use Rattle.std.proofs.Common.{◌≡◌, ◌^◌, ◌<◌, length, take}
use Rattle.std.specs.List.{sum_by}
use Rattle.runner_trials.proofs.tests.checks.fit.Given as goal

-- the bytes of the sections so far
abbrev pub invariant-loop-section : goal.invariant-loop-section
invariant-loop-section l = record {
  total : l.total ≡ sum_by (λ section. length section.bytes.now) (take l.section-index l.sections);
  small : l.total < 2 ^ 32;
}
