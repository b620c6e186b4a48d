use Rattle.std.proofs.Common.{◌≡◌, ◌≤◌, ◌⊎◌, ℕ, [], length, refl, subst, sym, vec_capacity}
use Rattle.cohort_queue.specs.Numbers.{IsIn}
use Rattle.cohort_desks.specs.Desks.{AreDesks}
use Rattle.cohort_desks.specs.Slots.{AreOwn, IsFull}
use Rattle.cohort_desks.proofs.Items.{at_end}
use Rattle.cohort_desks.proofs.Kept.{last_cohort, one_cohort_less}
use Rattle.cohort_desks.proofs.closing.close_one.Goals as goal

pub close_last-desks-requires-clause-cohort : goal.close_last-desks-requires-clause-cohort
close_last-desks-requires-clause-cohort g c =
    let is = last_cohort _ _ (g.T.Tells.told c.args._roll.now) c.args.hall c.pop.new.self.items c.in-Some.cohort c.requires.hall
    c.in-Some.ensures.items in
    record { tag_is = refl; seats_are = is.seats_are; within = is.within }

pub close_last-desks-requires-clause-empty : goal.close_last-desks-requires-clause-empty
close_last-desks-requires-clause-empty g c =
    (at_end (λ i v. (v.items ≡ []) × (length c.args.hall.desks.items ≤ vec_capacity v)) c.args.hall.emptied.items c.pop-2.new.self.items
    c.in-Some-pop.seats c.in-Some-pop.ensures.items c.requires.hall.lists_empty).0

pub close_last-desks-requires-clause-room : goal.close_last-desks-requires-clause-room
close_last-desks-requires-clause-room g c =
    (at_end (λ i v. (v.items ≡ []) × (length c.args.hall.desks.items ≤ vec_capacity v)) c.args.hall.emptied.items c.pop-2.new.self.items
    c.in-Some-pop.seats c.in-Some-pop.ensures.items c.requires.hall.lists_empty).1

pub close_last-desks-requires-clause-own : goal.close_last-desks-requires-clause-own
close_last-desks-requires-clause-own g c =
    let is = last_cohort _ _ (g.T.Tells.told c.args._roll.now) c.args.hall c.pop.new.self.items c.in-Some.cohort c.requires.hall
    c.in-Some.ensures.items in
    subst (λ t. AreOwn g.J.Numbered.number g.J.Numbered.tag t c.args.hall.slots.items) (sym is.tag_is) c.requires.hall.own

pub returns-clause-hall : goal.returns-clause-hall
returns-clause-hall g c =
    let is = last_cohort _ _ (g.T.Tells.told c.args._roll.now) c.args.hall c.pop.new.self.items c.in-Some.cohort c.requires.hall
    c.in-Some.ensures.items in
    one_cohort_less _ _ (g.T.Tells.told c.args._roll.now) c.args.hall c.in-Some.cohort c.pop.new.self c.close_last-desks.result.0
    c.pop-2.new.self c.in-Some-pop.seats
    c.close_last-desks.result.1 c.requires.hall c.in-Some.ensures.items c.in-Some-pop.ensures.items
    (subst (λ l. AreDesks g.J.Numbered.number g.J.Numbered.tag l (length c.args.hall.desks.items) c.close_last-desks.result.0.items)
    c.deref.ensures.value c.close_last-desks.ensures.desks)
    c.close_last-desks.ensures.slots_many
    (subst (λ t. AreOwn g.J.Numbered.number g.J.Numbered.tag t c.close_last-desks.result.1.items) is.tag_is c.close_last-desks.ensures.own)
    (subst (λ t. (x : ℕ) → IsFull g.J.Numbered.number g.J.Numbered.tag t c.args.hall.slots.items x ⊎ IsIn x c.in-Some.cohort.numbers
    → IsFull g.J.Numbered.number g.J.Numbered.tag t c.close_last-desks.result.1.items x) is.tag_is c.close_last-desks.ensures.there)
