use Rattle.std.proofs.Common.{◌≡◌}
use Rattle.keep_local.proofs.Noting.{IsReleasing}
use Rattle.lock_trials.proofs.tests.trails.release.Given as goal

abbrev pub invariant-loop-level : goal.invariant-loop-level
invariant-loop-level l = record {
  name : l.trail.name ≡ l.fn.trail.name;
  receipts : l.trail.receipts ≡ l.fn.trail.receipts;
  shape : l.trail.shape ≡ l.fn.trail.shape;
  recorded : l.trail.recorded ≡ l.fn.trail.recorded;
  releasing : IsReleasing l.trail l.level;
}
