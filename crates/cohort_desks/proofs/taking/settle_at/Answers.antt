use Rattle.std.proofs.Common.{refl, ◌≡◌, Some, length, subst, sym}
use Rattle.std.proofs.lemmas.Option.{slice_get_read}
use Rattle.cohort_desks.proofs.Seated.{settled_there}
use Rattle.cohort_desks.proofs.taking.settle_at.Goals as goal

pub settle-requires : goal.settle-requires
settle-requires g c =
    let there = slice_get_read c.args.cohorts.now (length c.args.cohorts.now) c.args.at c.index-cohorts-at.result refl c.requires.at
    c.index-cohorts-at.is in
    let within = subst (λ n. Rattle.std.proofs.Common.◌<◌ c.args.at n) (sym c.requires.taken.many) c.requires.at in
    let place = slice_get_read c.args.desk.now.places.items (length c.args.desk.now.places.items) c.args.at c.index_mut.result.now refl
    within
    c.index_mut.ensures.value in
    record { taken = (c.requires.taken.here c.index-cohorts-at.result c.index_mut.result.now there place).0 }

pub returns-clause-desk : goal.returns-clause-desk
returns-clause-desk g c =
    let there = slice_get_read c.args.cohorts.now (length c.args.cohorts.now) c.args.at c.index-cohorts-at.result refl c.requires.at
    c.index-cohorts-at.is in
    let within = subst (λ n. Rattle.std.proofs.Common.◌<◌ c.args.at n) (sym c.requires.taken.many) c.requires.at in
    let place = slice_get_read c.args.desk.now.places.items (length c.args.desk.now.places.items) c.args.at c.index_mut.result.now refl
    within
    c.index_mut.ensures.value in
    settled_there _ _ c.args.cohorts.now c.args.desk.now c.args.at c.index-cohorts-at.result c.index_mut.result.now c.settle.new.place
    there place
    c.settle.ensures.same _ _ c.requires.taken c.settle.ensures.place
