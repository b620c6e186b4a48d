use Rattle.std.proofs.Common.{◌≡◌, ◌++◌, ◌<◌, ◌/◌, ◌%◌, length, map, take}
use Rattle.std.specs.List.{zip}
use Rattle.run_texts.specs.Text.{line_front, turn_lines, caller_lines}
use Rattle.run_texts.specs.Views.{section_view}
use Rattle.run_texts.proofs.Texts.{told_pair}
use Rattle.run_texts.proofs.printing.text.Given as goal

-- the lines of the turns so far have been appended, and the front of the next is the last one's, but for each tenth
abbrev pub invariant-loop-number : goal.invariant-loop-number
invariant-loop-number l = record {
  within : l.number-end ≡ length l.journal.entries;
  lines : l.out.items ≡ turn_lines (map section_view l.sections) (map told_pair (take l.number (zip l.turns l.journal.entries)));
  front : 0 < l.number % 10 → l.front.items ≡ line_front (l.number / 10);
}

-- and then those of the callers so far
abbrev pub invariant-loop-caller : goal.invariant-loop-caller
invariant-loop-caller l =
    l.out.items
    ≡ turn_lines (map section_view l.sections) (map told_pair (zip l.turns l.journal.entries))
    ++ caller_lines (map section_view (take l.caller l.sections))
