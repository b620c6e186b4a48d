use Rattle.std.proofs.Common.{sym, ap, subst, ◌∙◌}
use Rattle.crossbeam_queue.specs.Passes.{view}
use Rattle.cohort_queue.proofs.Kept.{puts_back, leaves_room}
use Rattle.cohort_queue.proofs.Giving.{live_one}
use Rattle.cohort_queue.specs.Numbers.{IsIn}
use Rattle.cohort_queue.specs.States.{SeatState}
use Rattle.cohort_queue.specs.Views.{tagged_by}
use Rattle.cohort_queue.proofs.cohort.Cohort.put.Goals as goal

pub push_as-requires-clause-rule : goal.push_as-requires-clause-rule
push_as-requires-clause-rule g c =
    let live = live_one (view c.seat.inside.place) c.seat.invariant.one in (
      puts_back _ _ _ _ _ _ live
          (subst (λ (s : SeatState). IsIn (g.J.Numbered.number c.args.job) s.outs) (sym c.seat.view_is) c.requires.out)
          (c.seat.invariant.tagged
          ∙ ap tagged_by (ap (λ (s : SeatState). s.tag) c.seat.view_is ∙ c.requires.seat.tag_is ∙ sym c.requires.tagged)),
      leaves_room _ _ _ _ live,
    )
