use Rattle.std.proofs.Common.{◌≡◌, []}
use Rattle.lock_select.proofs.Searches.{CheapestUpTo}
use Rattle.lock_select.proofs.question.Question.cheapest.Given as goal

-- the lists of as many levels at most were tried
abbrev pub invariant-loop-more : goal.invariant-loop-more
invariant-loop-more l = record {
  best_is : CheapestUpTo l.self.tree.now l.self.weights.now l.self.keep l.self.trace.now l.more l.best;
  none : l.levels.items ≡ [];
}
