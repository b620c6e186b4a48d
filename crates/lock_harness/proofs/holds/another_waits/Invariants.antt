use Rattle.std.proofs.Common.{◌≡◌}
use Rattle.lock_harness.proofs.holds.another_waits.Given as goal

-- the token is of the same pass, with the same value
abbrev pub invariant-loop : goal.invariant-loop
invariant-loop g l = record {
  place : (g.B.Held.Holding.holder l.held).place ≡ (g.B.Held.Holding.holder l.initial.held).place;
  value : (g.B.Held.Holding.holder l.held).value ≡ (g.B.Held.Holding.holder l.initial.held).value;
}
