use Rattle.std.specs.Prelude.{IsSome}
use Rattle.fresh_root.specs.States.{AreAll}
use Rattle.lock_trials.proofs.tests.tokens.is_played.Given as goal

-- the payload is in, and the tokens are those of the Fresh
abbrev pub invariant-loop-caller : goal.invariant-loop-caller
invariant-loop-caller l = record {
  home : IsSome l.fresh.payload;
  tokens : AreAll l.fresh.name l.fresh.tokens l.tokens.items;
}
