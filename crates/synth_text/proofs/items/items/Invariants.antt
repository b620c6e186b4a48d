use Rattle.std.proofs.Common.{◌≤◌, ◌-◌, List, ◌++◌, length}
use Rattle.synth_text.specs.Items.{AreItems}
use Rattle.synth_text.specs.declared.items.Item.{Item}
use Rattle.synth_text.proofs.items.items.Given as goal

-- what follows the items so far completes the items of the text
abbrev pub invariant-loop-item : goal.invariant-loop-item
invariant-loop-item l = record {
  within : l.from ≤ length l.text;
  completed : (rest : List Item) → AreItems l.text l.from rest → AreItems l.text 0 (l.items.items ++ rest);
}

abbrev pub decreases-loop-item : goal.decreases-loop-item
decreases-loop-item l = length l.text - l.from
