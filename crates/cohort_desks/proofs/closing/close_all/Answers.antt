use Rattle.std.proofs.Common.{◌≡◌, ◌<◌, ◌∙◌, arith, rules, subst, sym, length}
use Rattle.cohort_desks.proofs.Items.{no_items}
use Rattle.cohort_desks.proofs.Kept.{all_full}
use Rattle.cohort_desks.proofs.closing.close_all.Goals as goal

pub close_one-hall-requires-clause-some : goal.close_one-hall-requires-clause-some
close_one-hall-requires-clause-some g c =
    let counted = c.loop.invariant.counted in
    let below = c.loop-test.true in omega (arith, counted, below)

pub loop-preserved : goal.loop-preserved
loop-preserved g c =
    let inv = c.loop.invariant in
    let counted = inv.counted in
    let fewer = c.close_one-hall.ensures.fewer in
    record {
      hall = c.close_one-hall.ensures.hall;
      slots = c.close_one-hall.ensures.slots ∙ inv.slots;
      counted = omega (arith, counted, fewer);
    }

pub returns-clause-full : goal.returns-clause-full
returns-clause-full g c =
    let done : c.loop.counter ≡ length c.args.hall.cohorts.items = search rules in
    let counted = c.loop.invariant.counted in
    λ x within. all_full _ _ (g.T.Tells.told c.args.roll.now) c.loop.hall c.loop.invariant.hall
    (no_items c.loop.hall.cohorts.items (omega (arith, done, counted))) x (subst (λ n. x < n) (sym c.loop.invariant.slots) within)
