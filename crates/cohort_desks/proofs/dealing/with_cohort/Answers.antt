use Rattle.std.proofs.Common.{◌≤◌, ◌++◌, ◌∷◌, [], subst, sym}
use Rattle.cohort_desks.specs.Desks.{AreDesks}
use Rattle.cohort_desks.proofs.Kept.{one_cohort_more}
use Rattle.cohort_desks.proofs.dealing.with_cohort.Goals as goal

pub returns-clause-hall : goal.returns-clause-hall
returns-clause-hall g c = one_cohort_more _ _ (g.T.Tells.told c.args._roll.now) c.args.hall c.args.making.cohort c.push_reserved.new.self
    c.sit-desks.result.0
    c.push_reserved-2.new.self c.sit-desks.result.1 c.requires.hall c.requires.cohort c.push_reserved.ensures.items
    (subst (λ l. AreDesks g.J.Numbered.number g.J.Numbered.tag (l ++ c.args.making.cohort ∷ []) c.args.making.cohort.seats
    c.sit-desks.result.0.items) c.deref.ensures.value c.sit-desks.ensures.desks)
    c.push_reserved-2.ensures.items c.sit-desks.ensures.emptied c.sit-desks.ensures.seats_room

pub returns-clause-room : goal.returns-clause-room
returns-clause-room g c = λ room had. record {
  for_cohorts = subst (λ n. room ≤ n) (sym c.push_reserved.ensures.capacity) had.for_cohorts;
  for_lists = subst (λ n. room ≤ n) (sym c.push_reserved-2.ensures.capacity) had.for_lists;
  at_desks = c.sit-desks.ensures.room room had.at_desks;
}
