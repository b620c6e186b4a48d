use Rattle.std.proofs.Common.{◌≡◌, ◌≤◌, cond, drop}
use Rattle.std.specs.List.{list_any}
use Rattle.synth_text.specs.Rules.{is_level, from_last}
use Rattle.synth_text.proofs.rules.from_last_level.Given as goal

-- where no level item is left, the items from the last one so far on are those that are sought
abbrev pub invariant-loop-place : goal.invariant-loop-place
invariant-loop-place l = record {
  passed : l.last ≤ l.place;
  found : cond (list_any is_level (drop l.place l.parts)) (from_last (drop l.place l.parts)) (drop l.last l.parts) ≡ from_last l.parts;
}
