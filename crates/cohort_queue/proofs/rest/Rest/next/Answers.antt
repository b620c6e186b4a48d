use Rattle.std.proofs.Common.{◌≡◌, None, subst}
use Rattle.crossbeam_queue.specs.Passes.{view}
use Rattle.cohort_queue.proofs.Kept.{takes, has_others}
use Rattle.cohort_queue.proofs.Closing.{still_closed}
use Rattle.cohort_queue.proofs.Giving.{live_all, all_out, changed_outs}
use Rattle.cohort_queue.specs.Numbers.{AreSame}
use Rattle.cohort_queue.specs.States.{RestState}
use Rattle.cohort_queue.proofs.rest.Rest.next.Goals as goal

pub pop_as-requires-clause-rule : goal.pop_as-requires-clause-rule
pop_as-requires-clause-rule g c =
    let kept = c.self.invariant in
    let live = live_all (view c.self.inside.first) kept.counts kept.all in
    (takes _ _ _ _ live, has_others _ _ _ _ kept.is_first live kept.all)

pub invariant_of-self : goal.invariant_of-self
invariant_of-self g c = still_closed _ _ _ c.self.invariant c.pop_as.ensures.queue (changed_outs _ _ _ _ _ _ c.pop_as.ensures.rule)

pub returns-clause-all : goal.returns-clause-all
returns-clause-all g c = subst
    (λ (s : RestState). (c.pop_as.result ≡ None → AreSame s.outs s.numbers) × (AreSame s.outs s.numbers → c.pop_as.result ≡ None))
    c.self.view_is (all_out _ _ _ _ _ c.pop_as.ensures.rule)
