use Rattle.std.proofs.Common.{◌≡◌}
use Rattle.lock_harness.proofs.holds.hold_often.Given as goal

-- the pass stays the same one
abbrev pub invariant-loop : goal.invariant-loop
invariant-loop g l = g.B.Pass.Placed.place l.pass ≡ g.B.Pass.Placed.place l.fn.pass
