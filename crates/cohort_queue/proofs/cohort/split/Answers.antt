use Rattle.std.proofs.Common.{rules, sym, ◌∙◌, ◌+◌, subst}
use Rattle.crossbeam_queue.specs.Passes.{view}
use Rattle.cohort_queue.proofs.Kept.{splits}
use Rattle.cohort_queue.proofs.Splitting.{Splitting, live_split, split_count, split_seat, one_more_seat, none_split, split_tag}
use Rattle.cohort_queue.proofs.cohort.split.Goals as goal

pub loop-init : goal.loop-init
loop-init g c = (none_split _ _ c.requires.alone c.requires.room.0, c.requires.room.1)

pub another-place-requires-clause-queue : goal.another-place-requires-clause-queue
another-place-requires-clause-queue g c = let p = c.loop.invariant.0.pass in let q = c.requires.queue in (p.0 ∙ q.0.0, p.2 ∙ q.0.1)

pub another-place-requires-clause-rule : goal.another-place-requires-clause-rule
another-place-requires-clause-rule g c = splits _ _ _ _ (c.loop.invariant.0.pass.1 ∙ c.requires.queue.1)
    (live_split _ _ _ _ c.loop.invariant.0 c.requires.alone)

pub invariant_of-push_reserved : goal.invariant_of-push_reserved
invariant_of-push_reserved g c = let e = c.another-place.ensures in
    split_seat _ (view c.loop.first) e.rule.1 e.queue.1.1 (split_tag _ _ _ _ c.loop.invariant.0 c.requires.tag)
    (split_count _ _ _ _ c.loop.invariant.0)

pub push_reserved-requires : goal.push_reserved-requires
push_reserved-requires g c = search rules

pub loop-preserved : goal.loop-preserved
loop-preserved g c =
    let e = c.another-place.ensures in
    let had = c.loop.invariant in (
      subst (Splitting c.args.first.now c.another-place.new.pass (c.loop.counter + 1)) (sym c.push_reserved.ensures.items)
          (one_more_seat c.args.first.now c.loop.first c.another-place.new.pass c.another-place.result _ _ had.0 e.queue.0 e.rule.0
          (e.queue.1.0 ∙ sym (had.0.pass.0 ∙ c.requires.queue.0.0)) e.rule.1),
      search rules,
    )

pub returns-clause-queue : goal.returns-clause-queue
returns-clause-queue g c = c.loop.invariant.0.pass

pub returns-clause-first : goal.returns-clause-first
returns-clause-first g c = search rules

pub returns-clause-count : goal.returns-clause-count
returns-clause-count g c = search rules

pub returns-clause-each : goal.returns-clause-each
returns-clause-each g c = c.loop.invariant.0.each
