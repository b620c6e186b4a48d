use Rattle.std.proofs.Common.{◌<◌, length}
use Rattle.cohort_runner.specs.Rolls.{contexts_of}
use Rattle.cohort_runner.specs.Runs.{HasSat, MaySit}
use Rattle.cohort_runner.proofs.serving.serve_desk.Given as goal

-- the thread is at one of the Cohorts, fewer in a row had no caller than there are, and it may sit at its desk
abbrev pub invariant-loop : goal.invariant-loop
invariant-loop g l = record {
  at : l.at < length l.cohorts;
  empty : l.empty < length l.cohorts;
  sat : HasSat l.cohorts l.fn.desk l.desk;
  may : MaySit (g.C.Composed.has l.lock) (g.C.Composed.level l.lock) (g.C.Composed.tag l.lock) (g.C.Composed.sound l.lock)
      (contexts_of g.C.Pass.Resting.rest l.roll.told.value.items) l.cohorts l.desk;
}
