use Rattle.std.proofs.Common.{◌≡◌, ◌+◌, ◌≤◌, ◌++◌, length, map, reverse, vec_len, vec_capacity}
use Rattle.own_payload.proofs.jobs.gather.Given as goal

-- what the jobs that have left their list had is in the lists, the last one first
abbrev pub invariant-loop-job : goal.invariant-loop-job
invariant-loop-job g l = record {
  passes : map (λ job. job.pass) l.fn.jobs.items ≡ map (λ job. job.pass) l.jobs.items ++ reverse l.passes.items;
  shares : map (λ job. job.share) l.fn.jobs.items ≡ map (λ job. job.share) l.jobs.items ++ reverse l.shares.items;
  passes_room : length l.jobs.items + length l.passes.items ≤ vec_capacity l.passes;
  shares_room : length l.jobs.items + length l.shares.items ≤ vec_capacity l.shares;
}

abbrev pub decreases-loop-job : goal.decreases-loop-job
decreases-loop-job g l = vec_len l.jobs
