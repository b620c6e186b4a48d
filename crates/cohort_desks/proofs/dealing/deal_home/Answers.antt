use Rattle.std.proofs.Common.{◌+◌, length, subst, sym}
use Rattle.cohort_desks.specs.Halls.{HasRoomFor}
use Rattle.cohort_desks.proofs.dealing.deal_home.Goals as goal

pub returns-then-is_empty-clause-room : goal.returns-then-is_empty-clause-room
returns-then-is_empty-clause-room g c = λ room had. c.with_jobs.ensures.room room (c.without_home-hall.ensures.room room had)

pub add_cohort-requires-clause-room : goal.add_cohort-requires-clause-room
add_cohort-requires-clause-room g c = subst (λ n. HasRoomFor (n + 1) c.without_home-hall.result.0) (sym c.without_home-hall.ensures.as_many)
    (c.without_home-hall.ensures.room _ c.requires.room)

pub returns-clause-room : goal.returns-clause-room
returns-clause-room g c = λ room had. c.add_cohort.ensures.room room (c.without_home-hall.ensures.room room had)
