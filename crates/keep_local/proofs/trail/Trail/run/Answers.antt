use Rattle.std.proofs.Common.{◌-◌, ◌^◌, ap, ◌∙◌}
use Rattle.std.specs.Prelude.{min, slice_index}
use Rattle.keep_local.specs.Turns.{run}
use Rattle.keep_local.proofs.Steps.{lawful_of, no_run, run_counted}
use Rattle.keep_local.proofs.trail.Trail.run.Goals as goal

pub returns-then-level-lt-LEVELS-clause-most : goal.returns-then-level-lt-LEVELS-clause-most
returns-then-level-lt-LEVELS-clause-most c = ap (λ l. slice_index l.runs c.args.level) c.deref.ensures
    ∙ c.self.invariant.runs c.args.level c.if-level-lt-LEVELS.true
    ∙ ap (λ s. min (run c.args.level s.closed) (2 ^ 32 - 1)) c.self.view_is

pub returns-then-level-lt-LEVELS-clause-run : goal.returns-then-level-lt-LEVELS-clause-run
returns-then-level-lt-LEVELS-clause-run c = λ counted. ap (λ l. slice_index l.runs c.args.level) c.deref.ensures
    ∙ c.self.invariant.runs c.args.level c.if-level-lt-LEVELS.true
    ∙ ap (λ s. min (run c.args.level s.closed) (2 ^ 32 - 1)) c.self.view_is
    ∙ run_counted _ c.args.level (lawful_of _ _ c.self.invariant c.self.view_is) counted

pub returns-else-level-lt-LEVELS-clause-run : goal.returns-else-level-lt-LEVELS-clause-run
returns-else-level-lt-LEVELS-clause-run c = λ counted. no_run _ c.args.level c.self.invariant c.if-level-lt-LEVELS.false
    ∙ ap (λ s. run c.args.level s.closed) c.self.view_is

pub returns-else-level-lt-LEVELS-clause-most : goal.returns-else-level-lt-LEVELS-clause-most
returns-else-level-lt-LEVELS-clause-most c =
    ap (λ n. min n (2 ^ 32 - 1)) (no_run _ c.args.level c.self.invariant c.if-level-lt-LEVELS.false
    ∙ ap (λ s. run c.args.level s.closed) c.self.view_is)
