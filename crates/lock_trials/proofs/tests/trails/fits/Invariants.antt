use Rattle.std.proofs.Common.{◌≡◌, ◌^◌, ◌<◌, take}
use Rattle.std.specs.Prelude.{sum}
use Rattle.lock_trials.proofs.tests.trails.fits.Given as goal

abbrev pub invariant-loop-quota : goal.invariant-loop-quota
invariant-loop-quota l = (l.total ≡ sum (take l.quota-index l.quotas)) × (l.total < 2 ^ 32)
