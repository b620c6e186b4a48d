use Rattle.std.proofs.Common.{◌≡◌, ◌++◌, take}
use Rattle.fresh_runner.specs.Receipts.{spaced}
use Rattle.fresh_runner.proofs.receipts.push_spaced.Given as goal

-- the numbers so far have been appended
abbrev pub invariant-loop-number : goal.invariant-loop-number
invariant-loop-number l = l.out.items ≡ l.fn.out.items ++ spaced (take l.number-index l.numbers)
