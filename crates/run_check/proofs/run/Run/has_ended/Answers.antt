use Rattle.std.proofs.Common.{◌≡◌, List, sym, ap, subst}
use Rattle.std.specs.Prelude.{IfSome}
use Rattle.keep_local.specs.declared.turn.Turn.{Turn}
use Rattle.keep_local.specs.Shapes.{top_of}
use Rattle.keep_local.specs.Turns.{last_turn}
use Rattle.run_check.specs.Replays.{AllGiven}
use Rattle.run_check.specs.Runs.{Course}
use Rattle.run_check.proofs.Moves.{all_given, have_ended, last_left}
use Rattle.run_check.proofs.run.Run.has_ended.Goals as goal

pub returns-then-has_ended : goal.returns-then-has_ended
returns-then-has_ended c = λ sections under.
    let shape = c.args.shape.now in
    let now = c.args.self.now in
    let log = ap (λ (s : Course). s.log) c.self.view_is in
    let turns = ap (λ (s : Course). s.turns) c.self.view_is in (
      λ ended. have_ended sections shape now under (subst AllGiven log (c.has_ended.ensures.0 c.if-has_ended.true))
          (subst (λ (ts : List Turn). IfSome (last_turn ts) (λ t. t.left ≡ top_of shape)) turns
          (c.has_ended-then-has_ended.ensures.0 ended)),
      λ ended. c.has_ended-then-has_ended.ensures.1
          (subst (λ (ts : List Turn). IfSome (last_turn ts) (λ t. t.left ≡ top_of shape)) (sym turns)
          (last_left sections shape now under ended)),
    )

pub returns-else-has_ended : goal.returns-else-has_ended
returns-else-has_ended c = λ sections under.
    let log = ap (λ (s : Course). s.log) c.self.view_is in
    let more = c.if-has_ended.false in (
      λ ended. cc,
      λ ended. c.has_ended.ensures.1
          (subst AllGiven (sym log) (all_given sections c.args.shape.now c.args.self.now under ended.each_own)),
    )
