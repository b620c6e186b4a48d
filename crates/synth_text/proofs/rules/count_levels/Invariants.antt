use Rattle.std.proofs.Common.{◌≡◌, ◌≤◌, ◌+◌, drop, length}
use Rattle.synth_text.specs.Rules.{levels_of}
use Rattle.synth_text.proofs.rules.count_levels.Given as goal

abbrev pub invariant-loop-item : goal.invariant-loop-item
invariant-loop-item l = record {
  counted : l.count + length (levels_of (drop l.item-index l.parts)) ≡ length (levels_of l.parts);
  bound : l.count ≤ l.item-index;
}
