use Rattle.std.proofs.Common.{◌≡◌, ◌++◌, length}
use Rattle.run_texts.specs.Text.{escaped}
use Rattle.run_texts.proofs.escape.push_escaped.Given as goal

-- what has been appended, and what is still to be
abbrev pub invariant-loop-plain : goal.invariant-loop-plain
invariant-loop-plain l = l.out.items ++ escaped l.rest ≡ l.fn.out.items ++ escaped l.text

abbrev pub decreases-loop-plain : goal.decreases-loop-plain
decreases-loop-plain l = length l.rest
