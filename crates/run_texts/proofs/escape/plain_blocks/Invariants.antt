use Rattle.std.proofs.Common.{◌≡◌, ◌++◌, ℕ, List, length}
use Rattle.run_texts.specs.Text.{escaped}
use Rattle.run_texts.proofs.escape.plain_blocks.Given as goal

-- the blocks so far, which stand for themselves, and what stands behind them
abbrev pub invariant-loop-block : goal.invariant-loop-block
invariant-loop-block l = (front : List ℕ) × (l.text ≡ front ++ l.rest) × (escaped front ≡ front)

abbrev pub decreases-loop-block : goal.decreases-loop-block
decreases-loop-block l = length l.rest
