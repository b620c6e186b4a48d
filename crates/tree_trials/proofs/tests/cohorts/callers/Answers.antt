use Rattle.std.proofs.Common.{◌≡◌, ◌+◌, ◌∷◌, [], List, length, map, ap, ◌∙◌, subst, sym, ◌≤◌, arith}
use Rattle.std.proofs.lemmas.List.{length-append, map-append}
use Rattle.cohort_queue.specs.Numbers.{times}
use Rattle.tree_trials.proofs.Numbers.{one_more}
use Rattle.tree_trials.specs.declared.tests.cohorts.Caller.{Caller}
use Rattle.tree_trials.proofs.tests.cohorts.callers.Goals as goal

pub loop-number-preserved : goal.loop-number-preserved
loop-number-preserved c =
    let had = c.loop-number.invariant in
    let pushed = c.push_reserved.ensures.items in
    let jobs = c.loop-number.jobs.items in
    let n = c.loop-number.number in
    let one : Caller = record { number = n; turns = 0 } in
    let many : length c.push_reserved.new.self.items ≡ length jobs + 1 = ap length pushed ∙ length-append jobs (one ∷ []) in
    record {
      many = many ∙ ap (λ k. k + 1) had.many;
      each = λ x. ap (λ (l : List Caller). times x (map (λ (k : Caller). k.number) l)) pushed
          ∙ ap (times x) (map-append (λ (k : Caller). k.number) jobs (one ∷ []))
          ∙ one_more x n (map (λ (k : Caller). k.number) jobs) (had.each x);
      room = subst (λ k. c.args.count ≤ k) (sym c.push_reserved.ensures.capacity) had.room;
    }
