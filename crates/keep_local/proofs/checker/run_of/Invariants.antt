use Rattle.std.proofs.Common.{◌≡◌, ◌≤◌, take}
use Rattle.keep_local.specs.Turns.{run}
use Rattle.keep_local.proofs.checker.run_of.Given as goal

abbrev pub invariant-loop-turn : goal.invariant-loop-turn
invariant-loop-turn l = record {
  few : l.count ≤ l.turn-index;
  run : l.count ≡ run l.level (take l.turn-index l.turns);
}
