use Rattle.std.proofs.Common.{◌≡◌}
use Rattle.lock_select.specs.Search.{asked_cost, GoesOn, IsBestOf}
use Rattle.lock_select.proofs.question.Question.+search.Given as goal

abbrev pub decreases-search : goal.decreases-search
decreases-search l = l.more

-- the lists whose next depth is less were tried
abbrev pub invariant-loop-depth : goal.invariant-loop-depth
invariant-loop-depth l = record {
  levels_are : l.levels.items ≡ l.initial.levels.items;
  best_is : IsBestOf (asked_cost l.self) (GoesOn l.initial.levels.items l.more l.depth) l.initial.best l.best;
}
