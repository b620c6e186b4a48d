use Rattle.std.proofs.Common.{◌≡◌, ◌+◌, ◌≤◌, ◌++◌, length, map, reverse, vec_len, vec_capacity}
use Rattle.fresh_runner.proofs.dealing.take_apart.Given as goal

-- what the jobs that have left their list had is in the lists, the last one first
abbrev pub invariant-loop-job : goal.invariant-loop-job
invariant-loop-job g l = record {
  passes : map (λ job. job.pass) l.fn.jobs.items ≡ map (λ job. job.pass) l.jobs.items ++ reverse l.lists.passes.items;
  shares : map (λ job. job.account.share) l.fn.jobs.items
      ≡ map (λ job. job.account.share) l.jobs.items ++ reverse l.lists.shares.items;
  seens : map (λ job. job.account.seen) l.fn.jobs.items ≡ map (λ job. job.account.seen) l.jobs.items ++ reverse l.lists.seens.items;
  marks : map (λ job. job.account.marks) l.fn.jobs.items
      ≡ map (λ job. job.account.marks) l.jobs.items ++ reverse l.lists.marks.items;
  passes_room : length l.jobs.items + length l.lists.passes.items ≤ vec_capacity l.lists.passes;
  shares_room : length l.jobs.items + length l.lists.shares.items ≤ vec_capacity l.lists.shares;
  seens_room : length l.jobs.items + length l.lists.seens.items ≤ vec_capacity l.lists.seens;
  marks_room : length l.jobs.items + length l.lists.marks.items ≤ vec_capacity l.lists.marks;
}

abbrev pub decreases-loop-job : goal.decreases-loop-job
decreases-loop-job g l = vec_len l.jobs
