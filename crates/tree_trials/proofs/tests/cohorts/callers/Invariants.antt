use Rattle.std.proofs.Common.{◌≡◌, ◌≤◌, ℕ, length, map, vec_capacity}
use Rattle.cohort_queue.specs.Numbers.{times, once_below}
use Rattle.tree_trials.proofs.tests.cohorts.callers.Given as goal

-- the callers below this number are in the list, each once
abbrev pub invariant-loop-number : goal.invariant-loop-number
invariant-loop-number l = record {
  many : length l.jobs.items ≡ l.number;
  each : (x : ℕ) → times x (map (λ c. c.number) l.jobs.items) ≡ once_below l.number x;
  room : l.fn.count ≤ vec_capacity l.jobs;
}
