use Rattle.std.proofs.Common.{◌≡◌, map, take}
use Rattle.level_harness.proofs.walks.tests_of.Given as goal

-- the tests of the passes so far
abbrev pub invariant-loop-pass : goal.invariant-loop-pass
invariant-loop-pass g l = l.told.items ≡ map (λ p. (g.P.Resting.rest p).report.tests) (take l.pass-index l.passes)
