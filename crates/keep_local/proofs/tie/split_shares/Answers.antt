use Rattle.std.proofs.Common.{[], ◌∷◌, ◌++◌, slice_index, arith, sym, ◌∙◌, rules}
use Rattle.std.proofs.lemmas.Grind.{common_steps}
use Rattle.keep_local.specs.States.{new_share}
use Rattle.keep_local.proofs.Tied.{splits}
use Rattle.keep_local.proofs.Splits.{home_split, shares_split}
use Rattle.keep_local.proofs.tie.split_shares.Goals as goal

pub split_seat-requires : goal.split_seat-requires
split_seat-requires c = (c.loop-caller.invariant.own, search rules, splits _ _ _)

pub loop-caller-preserved : goal.loop-caller-preserved
loop-caller-preserved c =
    let name = c.into_badge-badge.ensures.0 ∙ c.split_seat.ensures.3 ∙ c.loop-caller.invariant.own in record {
      own = c.split_seat.ensures.0 ∙ c.loop-caller.invariant.own;
      seat = home_split _ _ _ _ c.loop-caller-test.true c.loop-caller.invariant.seat c.split_seat.ensures.2;
      listed = rw c.push_reserved.ensures.items
          ((λ k. c.loop-caller.invariant.listed k ++ new_share (name k)
          (c.loop-caller.caller, slice_index c.args.quotas.now c.loop-caller.caller) ∷ [])
          ∙ sym (shares_split _ _ _ c.loop-caller-test.true));
      count = rw c.push_reserved.ensures.items (grind (arith, common_steps, c.loop-caller.invariant.count));
      room = grind (arith, common_steps);
    }
