use Rattle.std.proofs.Common.{◌≡◌, ◌+◌, map}
use Rattle.run_texts.specs.Views.{section_view}
use Rattle.run_check.proofs.Passing.{Passed}
use Rattle.run_check.proofs.checking.check_callers.Given as goal

-- the lines of the callers so far stand in front of the rest
abbrev pub invariant-loop-caller : goal.invariant-loop-caller
invariant-loop-caller l = record {
  passed : Passed (map section_view l.sections) l.text l.rest l.caller;
  number : l.line ≡ l.first + l.caller;
}
