use Rattle.std.proofs.Common.{◌≡◌, ◌≤◌, ℕ, List, Some, ap, arith, length, rules, sym, ◌∙◌, subst, vec_capacity}
use Rattle.std.specs.Prelude.{slice_get}
use Rattle.threaded_runner.specs.declared.job.Job.{Job}
use Rattle.cohort_runner.specs.Callers.{IsCaller}
use Rattle.cohort_runner.specs.Rolls.{IsRoll, contexts_of}
use Rattle.cohort_runner.proofs.Rolls.{on_roll, roll_is}
use Rattle.cohort_runner.proofs.opening.begin.Goals as goal

pub seat_all-slots-requires-clause-jobs : goal.seat_all-slots-requires-clause-jobs
seat_all-slots-requires-clause-jobs g c =
    let rest = g.C.Pass.Resting.rest in
    let jobs = c.args.prepared.jobs.items in
    subst (λ (l : List (Job g.row.C-Pass.Denot)). (k : ℕ) (j : Job g.row.C-Pass.Denot) → slice_get jobs k ≡ Some j
    → IsCaller rest (contexts_of rest l) j × (j.share.caller ≡ k)) (sym (ap (λ v. v.items) c.of-roll.ensures))
    (on_roll rest (g.C.Composed.has c.args._lock.now) (g.C.Composed.level c.args._lock.now) (g.C.Composed.tag c.args._lock.now) jobs
    c.requires.each)

pub deal-hall-requires-clause-room : goal.deal-hall-requires-clause-room
deal-hall-requires-clause-room g c = c.seat.ensures.room (length c.args.homes.now) c.requires.room

pub returns : goal.returns
returns g c =
    let rest = g.C.Pass.Resting.rest in
    let has = g.C.Composed.has c.args._lock.now in
    let level = g.C.Composed.level c.args._lock.now in
    let tag = g.C.Composed.tag c.args._lock.now in
    let jobs = c.args.prepared.jobs in
    let many = c.requires.many in
    let kept = c.seat_all-slots.ensures.jobs_room in
    let fits : length jobs.items ≤ vec_capacity jobs = search rules in
    record {
      opened = record {
        roll_is = subst (λ (l : List (Job g.row.C-Pass.Denot)). IsRoll has level tag (contexts_of rest l))
            (sym (ap (λ v. v.items) c.of-roll.ensures)) (roll_is rest has level tag jobs.items c.requires.each);
        all = c.deal-hall.ensures.slots ∙ ap (λ v. length v.items) c.seat.ensures.slots ∙ c.seat_all-slots.ensures.many ∙ many;
        hall_is = c.deal-hall.ensures.hall;
        no_jobs = c.seat_all-slots.ensures.no_jobs;
        jobs_room = omega (arith, fits, many, kept);
        lists_are = c.requires.lists;
      };
    }
