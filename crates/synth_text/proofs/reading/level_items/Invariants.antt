use Rattle.std.proofs.Common.{◌≡◌, ◌≤◌, ◌+◌, drop}
use Rattle.synth_text.specs.Descriptions.{level_items}
use Rattle.synth_text.proofs.reading.level_items.Given as goal

abbrev pub invariant-loop-item : goal.invariant-loop-item
invariant-loop-item l = record {
  counted : l.count + level_items (drop l.item-index l.items) ≡ level_items l.items;
  bound : l.count ≤ l.item-index;
}
