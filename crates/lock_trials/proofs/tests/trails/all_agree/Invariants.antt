use Rattle.std.proofs.Common.{◌≡◌}
use Rattle.std.specs.Prelude.{All}
use Rattle.lock_trials.proofs.tests.trails.all_agree.Given as goal

abbrev pub invariant-loop-share : goal.invariant-loop-share
invariant-loop-share l = record {
  same : l.trail ≡ l.fn.trail;
  own : All (λ share. share.name ≡ l.trail.name) l.shares;
}
