use Rattle.std.proofs.Common.{rules, ◌≡◌, ◌≤◌, ◌∙◌, ap, sym, subst, [], ◌++◌}
use Rattle.crossbeam_queue.specs.Passes.{view}
use Rattle.cohort_queue.proofs.Kept.{joins}
use Rattle.cohort_queue.proofs.Closing.{none_taken, one_taken, closed, live_closing, last_is_of, last_seat}
use Rattle.cohort_queue.specs.States.{CohortState, SeatState, outs_of}
use Rattle.cohort_queue.proofs.cohort.Cohort.close.Goals as goal

pub loop-seat-init : goal.loop-seat-init
loop-seat-init g c = none_taken c.args.self c.args.seats.items c.pop.new.self.items c.in-Some.seat c.seat.inside.place c.requires.all
    c.in-Some.ensures.items c.seat.view_is c.seat.invariant

pub absorb-requires-clause-queue : goal.absorb-requires-clause-queue
absorb-requires-clause-queue g c =
    let had = c.loop-seat.invariant in
    let own = c.self.invariant.own in
    let name = sym (ap (λ (s : CohortState). s.name) c.self.view_is) in
    let first = last_seat c.args.self c.args.seats.items c.pop.new.self.items c.in-Some.seat c.requires.all c.in-Some.ensures.items in
    let of = last_is_of _ _ _ _ _ _ _ had c.in-Some-pop.ensures.items in (
      (had.pass.0 ∙ ap (λ (s : SeatState). s.name) c.seat.view_is ∙ first.0.name_is ∙ name ∙ own.0, had.pass.2 ∙ c.seat.invariant.empty),
      (ap (λ (s : SeatState). s.name) c.seat-in-Some-pop.view_is ∙ of.name_is ∙ name ∙ own.0, c.seat-in-Some-pop.invariant.empty),
    )

pub absorb-requires-clause-rule : goal.absorb-requires-clause-rule
absorb-requires-clause-rule g c =
    let had = c.loop-seat.invariant in
    let first = last_seat c.args.self c.args.seats.items c.pop.new.self.items c.in-Some.seat c.requires.all c.in-Some.ensures.items in
    let zero_is = ap (λ (s : SeatState). s.seat) c.seat.view_is ∙ first.1 in
    joins _ _ _ _ _ _ (had.pass.1 ∙ c.seat.invariant.first zero_is) (live_closing _ _ _ _ _ had)

pub loop-seat-preserved : goal.loop-seat-preserved
loop-seat-preserved g c = one_taken _ _ _ _ _ _ _ _ _ c.loop-seat.invariant c.in-Some-pop.ensures.items c.seat-in-Some-pop.view_is
    c.seat-in-Some-pop.invariant c.absorb.ensures.queue c.absorb.ensures.rule

pub invariant_of-result : goal.invariant_of-result
invariant_of-result g c =
    let none : c.loop-seat.seats.items ≡ [] = search rules in
    let own = c.self.invariant.own in
    let name = sym (ap (λ (s : CohortState). s.name) c.self.view_is) in
    let first = last_seat c.args.self c.args.seats.items c.pop.new.self.items c.in-Some.seat c.requires.all c.in-Some.ensures.items in
    let zero_is = ap (λ (s : SeatState). s.seat) c.seat.view_is ∙ first.1 in
    let some : 1 ≤ c.args.self.seats = subst (λ (s : CohortState). 1 ≤ s.seats) c.self.view_is c.self.invariant.counts in
    closed _ _ _ _ _ _ (ap (λ (s : SeatState). s.name) c.seat.view_is ∙ first.0.name_is ∙ name ∙ own.0, c.seat.invariant.empty)
    (c.seat.invariant.first zero_is) c.loop-seat.invariant some none

pub returns-clause-numbers : goal.returns-clause-numbers
returns-clause-numbers g c = c.loop-seat.invariant.numbers

pub returns-clause-tag : goal.returns-clause-tag
returns-clause-tag g c = search rules

pub returns-clause-outs : goal.returns-clause-outs
returns-clause-outs g c =
    let none : c.loop-seat.seats.items ≡ [] = search rules in
    sym (c.loop-seat.invariant.outs ∙ ap (λ l. outs_of l ++ (view c.loop-seat.first).outs) none)
