use Rattle.std.proofs.Common.{◌≡◌, ◌++◌, take}
use Rattle.fresh_runner.specs.Receipts.{marks_lines}
use Rattle.fresh_runner.proofs.receipts.push_lines.Given as goal

-- the lines of the callers so far have been appended
abbrev pub invariant-loop-caller : goal.invariant-loop-caller
invariant-loop-caller l = l.out.items ≡ l.fn.out.items ++ marks_lines (take l.caller l.marks)
