use Rattle.std.proofs.Common.{ℕ, List, [], ◌∙◌, subst, arith}
use Rattle.topo_tree.specs.Objects.{depth_count}
use Rattle.lock_select.specs.Search.{asked_cost, GoesOn, IsBestOf}
use Rattle.lock_select.proofs.Searches.{cheapest_of_more}
use Rattle.lock_select.proofs.question.Question.cheapest.Goals as goal

pub loop-more-preserved : goal.loop-more-preserved
loop-more-preserved c =
    let q = c.args.self.now in
    let more = c.loop-more.more in
    let none = c.loop-more.invariant.none in
    let cost : List ℕ → ℕ = asked_cost q in
    let best : IsBestOf cost (GoesOn [] more (depth_count q.tree.now)) c.loop-more.best c.search.new.best =
    subst (λ (n : ℕ). IsBestOf cost (GoesOn [] more n) c.loop-more.best c.search.new.best) c.depths.ensures.count
    (subst (λ (xs : List ℕ). IsBestOf cost (GoesOn xs more c.depths.result) c.loop-more.best c.search.new.best) none
    c.in_ok-search.ensures.best) in
    record {
      best_is = cheapest_of_more q.tree.now q.weights.now q.keep q.trace.now more c.loop-more.best c.search.new.best (omega arith)
          c.loop-more.invariant.best_is best;
      none = c.in_ok-search.ensures.levels ∙ none;
    }
