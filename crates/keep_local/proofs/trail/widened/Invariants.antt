use Rattle.std.proofs.Common.{◌≡◌, take}
use Rattle.keep_local.proofs.trail.widened.Given as goal

-- the quotas so far
abbrev pub invariant-loop-quota : goal.invariant-loop-quota
invariant-loop-quota l = l.wide.items ≡ take l.quota-index l.quotas
