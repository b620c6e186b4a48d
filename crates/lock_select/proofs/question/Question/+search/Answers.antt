use Rattle.std.proofs.Common.{◌≡◌, ◌+◌, ◌-◌, ℕ, suc, List, [], ◌∷◌, ◌++◌, length, take, sym, ap, ◌∙◌, subst, arith, length-append, vec_len}
use Rattle.std.proofs.Math.Seq.{take-append_seam}
use Rattle.lock_select.specs.Search.{asked_cost, GoesOn, IsBestOf}
use Rattle.lock_select.proofs.Searches.{best_one_more}
use Rattle.lock_select.proofs.question.Question.+search.Goals as goal

-- a list without the element behind it
popped : (front pushed after : List ℕ) (size depth : ℕ) → size ≡ length pushed → pushed ≡ front ++ depth ∷ []
    → after ≡ take (size - 1) pushed → after ≡ front
popped front pushed after long depth same is rest =
    let size : long - 1 ≡ length front = omega (arith, same, ap length is, length-append front (depth ∷ [])) in
    rest ∙ ap (λ (n : ℕ). take n pushed) size ∙ ap (take (length front)) is ∙ take-append_seam front (depth ∷ [])

pub loop-depth-preserved : goal.loop-depth-preserved
loop-depth-preserved t c =
    let front = c.args.levels.now.items in
    let depth = c.loop-depth.depth in
    let more = c.args.more in
    let some : more ≡ suc (more - 1) = let other = c.if-more-eq0.false in omega arith in
    let pushed : c.push-in-loop-depth.new.self.items ≡ front ++ depth ∷ [] =
    c.in_ok-push-2.ensures.items ∙ ap (λ (xs : List ℕ). xs ++ depth ∷ []) c.loop-depth.invariant.levels_are in
    let cost : List ℕ → ℕ = asked_cost c.args.self.now in
    let so_far : IsBestOf cost (GoesOn front (suc (more - 1)) depth) c.args.best.now c.loop-depth.best =
    subst (λ (n : ℕ). IsBestOf cost (GoesOn front n depth) c.args.best.now c.loop-depth.best) some c.loop-depth.invariant.best_is in
    let next : IsBestOf cost (GoesOn (front ++ depth ∷ []) (more - 1) depth) c.loop-depth.best c.search.new.best =
    subst (λ (xs : List ℕ). IsBestOf cost (GoesOn xs (more - 1) depth) c.loop-depth.best c.search.new.best) pushed
    c.in_ok-search.ensures.best in
    let low = c.loop-depth.auto.depth in
    let both = best_one_more cost front (more - 1) depth c.args.best.now c.loop-depth.best c.search.new.best low so_far next in
    record {
      levels_are = popped front c.search.new.levels.items c.pop-in-loop-depth.new.self.items (vec_len c.search.new.levels) depth
          (omega arith) (c.in_ok-search.ensures.levels ∙ pushed) c.pop-in-loop-depth.ensures.rest;
      best_is = subst (λ (n : ℕ). IsBestOf cost (GoesOn front n (depth + 1)) c.args.best.now c.search.new.best) (sym some) both;
    }
