use Rattle.std.proofs.Common.{◌≡◌}
use Rattle.lock_rules.specs.Tokens.{badge_place}
use Rattle.example_counter.proofs.AdderWorksPass.work.Given as goal

-- the pass stays the same one
abbrev pub invariant-loop : goal.invariant-loop
invariant-loop g l = badge_place l.pass.badge ≡ badge_place l.fn.pass.badge
