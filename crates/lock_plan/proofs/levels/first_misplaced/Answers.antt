use Rattle.std.proofs.Common.{◌≡◌, ℕ, false, arith, sym, ◌∙◌, length, below_more}
use Rattle.topo_tree.proofs.Faults.{find_first, find_none}
use Rattle.lock_plan.specs.Plans.{is_misplaced, first_misplaced}
use Rattle.lock_plan.proofs.levels.first_misplaced.Goals as goal

pub loop-place-preserved : goal.loop-place-preserved
loop-place-preserved c =
    below_more (λ (k : ℕ). is_misplaced c.args.depths.now k ≡ false) c.loop-place.place c.loop-place.invariant
    (sym c.is_misplaced.ensures ∙ c.if-is_misplaced.false)

pub returns-then-is_misplaced : goal.returns-then-is_misplaced
unfolding first_misplaced
returns-then-is_misplaced c =
    let depths = c.args.depths.now in
    sym (find_first (is_misplaced depths) (length depths) 0 c.loop-place.place (omega arith) (omega arith)
    (sym c.is_misplaced.ensures ∙ c.if-is_misplaced.true) (λ k from to. c.loop-place.invariant k to))

pub returns : goal.returns
unfolding first_misplaced
returns c =
    let depths = c.args.depths.now in
    sym (find_none (is_misplaced depths) (length depths) 0 (λ k from to. c.loop-place.invariant k (omega arith)))
