use Rattle.std.proofs.Common.{◌≡◌, ◌++◌, length}
use Rattle.std.specs.Vec.Iter.{into_iter_items}
use Rattle.synth_text.specs.Rules.{levels_of, memory_in}
use Rattle.synth_text.proofs.RuleLaws.{or_memory}
use Rattle.synth_text.proofs.rules.describe.Given as goal

-- what was described so far, and what the items that are left describe
abbrev pub invariant-loop-item : goal.invariant-loop-item
invariant-loop-item l = record {
  levels : l.levels.items ++ levels_of (into_iter_items l.item-iterator) ≡ levels_of l.fn.parts.items;
  memory : or_memory l.memory (memory_in (length l.levels.items) (into_iter_items l.item-iterator)) ≡ memory_in 0 l.fn.parts.items;
}
