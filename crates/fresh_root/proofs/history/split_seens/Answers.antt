use Rattle.std.proofs.Common.{◌∙◌, arith, rules}
use Rattle.std.proofs.lemmas.Grind.{common_steps}
use Rattle.fresh_root.proofs.Kept.{copies}
use Rattle.fresh_root.proofs.Tokens.{none_given, one_more_given, new_token}
use Rattle.fresh_root.proofs.history.split_seens.Goals as goal

pub loop-caller-init : goal.loop-caller-init
loop-caller-init c = record {
  own = c.requires.own;
  seat = c.requires.seat;
  given = none_given _ _ c.requires.room.0;
  room = c.requires.room.1;
}

pub split_seat-requires : goal.split_seat-requires
split_seat-requires c = (c.loop-caller.invariant.own, search rules, copies _ _)

pub loop-caller-preserved : goal.loop-caller-preserved
loop-caller-preserved c = record {
  own = c.split_seat.ensures.0 ∙ c.loop-caller.invariant.own;
  seat = c.split_seat.ensures.2 ∙ c.loop-caller.invariant.seat;
  given = rw c.push_reserved.ensures.items (one_more_given _ _ _ _ c.loop-caller.invariant.given
      (new_token _ _ c.into_badge-badge.result c.split_seat.result.me c.loop-caller.home.me
      (c.into_badge-badge.ensures.0 ∙ c.split_seat.ensures.3 ∙ c.loop-caller.invariant.own) c.into_badge-badge.ensures.2
      c.split_seat.ensures.4 c.loop-caller.invariant.seat));
  room = grind (arith, common_steps);
}
