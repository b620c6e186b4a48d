use Rattle.std.proofs.Common.{◌≡◌, sym, subst}
use Rattle.std.specs.Prelude.{All}
use Rattle.keep_local.proofs.Splits.{shares_named}
use Rattle.lock_trials.proofs.tests.trails.plays_unrecorded.Goals as goal

pub loop-turn-init : goal.loop-turn-init
loop-turn-init c = subst (All (λ share. share.name ≡ c.in_ok-trail.trail.name)) (sym c.in_ok-trail.ensures.shares) (shares_named _ _)
