use Rattle.std.proofs.Common.{refl, ◌≡◌, Some, length, subst, sym}
use Rattle.std.proofs.lemmas.Option.{IfSome_then, slice_get_read}
use Rattle.cohort_desks.proofs.Seated.{none_there, taken_there}
use Rattle.cohort_desks.proofs.taking.take_from.Goals as goal

pub take_at-requires : goal.take_at-requires
take_at-requires g c =
    let there = slice_get_read c.args.cohorts.now (length c.args.cohorts.now) c.args.at c.index-cohorts-at.result refl c.requires.at
    c.index-cohorts-at.is in
    let within = subst (λ n. Rattle.std.proofs.Common.◌<◌ c.args.at n) (sym c.requires.desk.many) c.requires.at in
    let place = slice_get_read c.args.desk.now.places.items (length c.args.desk.now.places.items) c.args.at c.index_mut.result.now refl
    within
    c.index_mut.ensures.value in
    record { place = (c.requires.desk.each c.args.at c.index-cohorts-at.result c.index_mut.result.now there place).0 }

pub returns-clause-taken : goal.returns-clause-taken
returns-clause-taken g c =
    let there = slice_get_read c.args.cohorts.now (length c.args.cohorts.now) c.args.at c.index-cohorts-at.result refl c.requires.at
    c.index-cohorts-at.is in
    let within = subst (λ n. Rattle.std.proofs.Common.◌<◌ c.args.at n) (sym c.requires.desk.many) c.requires.at in
    let place = slice_get_read c.args.desk.now.places.items (length c.args.desk.now.places.items) c.args.at c.index_mut.result.now refl
    within
    c.index_mut.ensures.value in
    IfSome_then c.take_at.result c.take_at.ensures.taken (λ job taken. taken_there _ _ c.args.cohorts.now c.args.desk.now c.args.at
    c.index-cohorts-at.result
    c.index_mut.result.now c.take_at.new.place there place c.take_at.ensures.same _ _ c.requires.desk taken)

pub returns-clause-none : goal.returns-clause-none
returns-clause-none g c = λ none.
    let there = slice_get_read c.args.cohorts.now (length c.args.cohorts.now) c.args.at c.index-cohorts-at.result refl c.requires.at
    c.index-cohorts-at.is in
    let within = subst (λ n. Rattle.std.proofs.Common.◌<◌ c.args.at n) (sym c.requires.desk.many) c.requires.at in
    let place = slice_get_read c.args.desk.now.places.items (length c.args.desk.now.places.items) c.args.at c.index_mut.result.now refl
    within
    c.index_mut.ensures.value in
    none_there _ _ c.args.cohorts.now c.args.desk.now c.args.at c.index-cohorts-at.result c.index_mut.result.now c.take_at.new.place
    there place
    c.take_at.ensures.same c.requires.desk (c.take_at.ensures.none none)
