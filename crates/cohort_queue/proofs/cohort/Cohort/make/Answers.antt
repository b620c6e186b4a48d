use Rattle.std.proofs.Common.{rules, ◌≡◌, sym, subst, ◌∷◌, ◌++◌, ◌-◌, [], All, List}
use Rattle.crossbeam_queue.specs.Passes.{Pass}
use Rattle.cohort_queue.proofs.Kept.{begins}
use Rattle.cohort_queue.proofs.Giving.{given_tag}
use Rattle.cohort_queue.proofs.Splitting.{AllSplit, all_empty, all_seats, first_seat, opened}
use Rattle.cohort_queue.specs.Seats.{IsOpen, cohort_at, seat_at}
use Rattle.cohort_queue.specs.States.{AreAll, SeatState}
use Rattle.cohort_queue.specs.declared.view.View.{View}
use Rattle.cohort_queue.proofs.cohort.Cohort.make.Goals as goal

pub ruled-requires-clause-rule : goal.ruled-requires-clause-rule
ruled-requires-clause-rule g c = begins _ _

pub split-list-requires-clause-tag : goal.split-list-requires-clause-tag
split-list-requires-clause-tag g c = given_tag _ _ _ _ c.requires.some c.give_all-first.ensures.given

pub invariant_of-push_reserved : goal.invariant_of-push_reserved
invariant_of-push_reserved g c =
    let e = c.split-list.ensures in
    let given = c.give_all-first.ensures.given in
    let all : AllSplit c.give_all-first.result c.split-list.new.first (c.args.seats - 1) c.split-list.result.items =
    record { pass = e.queue; view_is = e.first; many = e.count; each = e.each } in
    first_seat c.give_all-first.result c.split-list.new.first _ _ all given.unsplit (given_tag _ _ _ _ c.requires.some given) (search rules)
    (search rules)

pub invariant_of-result : goal.invariant_of-result
invariant_of-result g c =
    let e = c.split-list.ensures in
    let all : AllSplit c.give_all-first.result c.split-list.new.first (c.args.seats - 1) c.split-list.result.items =
    record { pass = e.queue; view_is = e.first; many = e.count; each = e.each } in
    subst (λ (p : Pass g.row.J.Denot View). IsOpen c.in-Ok.queue p) (sym c.of-told.ensures)
    (opened c.in-Ok.queue c.give_all-first.result c.split-list.new.first g.J.Numbered.number g.J.Numbered.tag c.args.jobs.items
    (c.args.seats - 1) c.split-list.result.items (search rules) (search rules) c.requires.some c.give_all-first.ensures.given all)

pub returns-clause-seats : goal.returns-clause-seats
returns-clause-seats g c =
    let e = c.split-list.ensures in
    let all : AllSplit c.give_all-first.result c.split-list.new.first (c.args.seats - 1) c.split-list.result.items =
    record { pass = e.queue; view_is = e.first; many = e.count; each = e.each } in
    let first = c.split-list.new.first in
    subst (AreAll (cohort_at c.of-told.result.value)) (sym c.push_reserved.ensures.items)
    (subst (λ (p : Pass g.row.J.Denot View). AreAll (cohort_at p) (c.split-list.result.items ++ seat_at first ∷ [])) (sym c.of-told.ensures)
    (all_seats c.give_all-first.result first (c.args.seats - 1) c.split-list.result.items all c.give_all-first.ensures.given.unsplit))

pub returns-clause-none_out : goal.returns-clause-none_out
returns-clause-none_out g c =
    let e = c.split-list.ensures in
    let all : AllSplit c.give_all-first.result c.split-list.new.first (c.args.seats - 1) c.split-list.result.items =
    record { pass = e.queue; view_is = e.first; many = e.count; each = e.each } in
    let first = c.split-list.new.first in
    subst (λ (l : List SeatState). All (λ s. s.outs ≡ []) l) (sym c.push_reserved.ensures.items)
    (all_empty c.give_all-first.result first (c.args.seats - 1) c.split-list.result.items all c.give_all-first.ensures.given.unsplit)
