use Rattle.std.proofs.Common.{◌<◌, eq-eqb, ne_eqb, inl, inr, ap, sym, subst, ◌∙◌, arith, rules}
use Rattle.std.specs.Prelude.{slice_index}
use Rattle.keep_local.specs.Shapes.{top_of}
use Rattle.keep_local.specs.Turns.{run}
use Rattle.keep_local.proofs.Noting.{releasing_next, may_leave_here}
use Rattle.lock_trials.proofs.tests.trails.release.Goals as goal
use Rattle.lock_trials.proofs.tests.trails.release.Goals.{else-queued-via-then-queued+else-run-as_slice, else-queued-via-else-queued}

pub leave-requires-clause-may : goal.leave-requires-clause-may
leave-requires-clause-may c =
    let below : c.loop-level.level < top_of c.loop-level.trail.shape = search rules in
    let shapes_below = subst (λ s. c.loop-level.level < top_of s.shape) (sym c.note.ensures.noted) below in
    let run_same = c.run.ensures.run (inr shapes_below) ∙ ap (λ s. run c.loop-level.level s.closed) c.note.ensures.noted in
    let keep_same = ap (λ ks. slice_index ks c.loop-level.level) (c.as_slice-then-queued.ensures
    ∙ ap (λ s. s.keeps) (c.shape-then-queued.ensures.shape ∙ ap (λ s. s.shape) c.note.ensures.noted)) in
    let less : c.run.result < slice_index c.as_slice-then-queued.result.now c.loop-level.level = search rules in
    may_leave_here _ _ _ _ c.loop-level.invariant.releasing below c.note.ensures.noted (eq-eqb _ _ c.if-queued.true)
    (omega (arith, run_same, keep_same, less))

pub loop-level-preserved : goal.loop-level-preserved
loop-level-preserved c = record {
  name = ap (λ s. s.name) c.note.ensures.noted ∙ c.loop-level.invariant.name;
  receipts = ap (λ s. s.receipts) c.note.ensures.noted ∙ c.loop-level.invariant.receipts;
  shape = ap (λ s. s.shape) c.note.ensures.noted ∙ c.loop-level.invariant.shape;
  recorded = ap (λ s. s.recorded) c.note.ensures.noted ∙ c.loop-level.invariant.recorded;
  releasing = releasing_next _ _ _ _ c.loop-level.invariant.releasing c.note.ensures.noted c.note.ensures.lawful
      (elim c.else-queued.branch [
        | else-queued-via-then-queued+else-run-as_slice w ↦
            let below : c.loop-level.level < top_of c.loop-level.trail.shape = search rules in
            let shapes_below = subst (λ s. c.loop-level.level < top_of s.shape) (sym c.note.ensures.noted) below in
            let run_same = w.run.ensures.run (inr shapes_below) ∙ ap (λ s. run c.loop-level.level s.closed) c.note.ensures.noted in
            let keep_same = ap (λ ks. slice_index ks c.loop-level.level) (w.as_slice-then-queued.ensures
            ∙ ap (λ s. s.keeps) (w.shape-then-queued.ensures.shape ∙ ap (λ s. s.shape) c.note.ensures.noted)) in
            let reached = w.if-run-as_slice.false in
            inr (omega (arith, run_same, keep_same, reached))
        | else-queued-via-else-queued w ↦ inl (ne_eqb _ _ w.if-queued.false)
      ]);
}
