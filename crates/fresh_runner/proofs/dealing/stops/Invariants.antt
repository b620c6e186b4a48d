use Rattle.std.proofs.Common.{◌≡◌, map, take, vec_capacity}
use Rattle.fresh_runner.proofs.dealing.stops.Given as goal

-- the list has what is known of the jobs so far
abbrev pub invariant-loop-job : goal.invariant-loop-job
invariant-loop-job g l = record {
  so_far : l.stopped.items ≡ map (λ job. job.stopped) (take l.job-index l.jobs);
  room : vec_capacity l.stopped ≡ vec_capacity l.fn.stopped;
}
