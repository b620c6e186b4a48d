use Rattle.std.proofs.Common.{◌≡◌, ℕ, drop}
use Rattle.synth_text.specs.Items.{AreItems}
use Rattle.synth_text.specs.Descriptions.{level_items, parts_of}
use Rattle.synth_text.proofs.PartLaws.{with_front}
use Rattle.synth_text.proofs.reading.read_parts.Given as goal

-- what was said so far, and what the items that are left say
abbrev pub invariant-loop-item : goal.invariant-loop-item
invariant-loop-item l = record {
  behind : l.behind ≡ level_items (drop l.item-index l.items);
  cut : (from : ℕ) × AreItems l.text from (drop l.item-index l.items);
  said : with_front l.parts.items (parts_of l.text (drop l.item-index l.items)) ≡ parts_of l.text l.items;
}
