use Rattle.lock_work.proofs.shifts.run_threads.Goals as goal

pub gather-requires-clause-did : goal.gather-requires-clause-did
gather-requires-clause-did g c = record {
  before = c.in-Ok.dealt.jobs;
  open_is = c.in-Ok.ensures.opened;
  many = c.by_all-jobs.ensures.many;
  each = c.by_all-jobs.ensures.each;
}
