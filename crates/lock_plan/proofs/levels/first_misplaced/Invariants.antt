use Rattle.std.proofs.Common.{◌≡◌, ◌<◌, ℕ, false}
use Rattle.lock_plan.specs.Plans.{is_misplaced}
use Rattle.lock_plan.proofs.levels.first_misplaced.Given as goal

-- none before is misplaced
abbrev pub invariant-loop-place : goal.invariant-loop-place
invariant-loop-place l = (k : ℕ) → k < l.place → is_misplaced l.depths k ≡ false
