use Rattle.std.proofs.Common.{◌∙◌}
use Rattle.cohort_runner.proofs.Sitting.{still_taken}
use Rattle.cohort_runner.proofs.serving.visit.Goals as goal

pub settle_at-requires-clause-taken : goal.settle_at-requires-clause-taken
settle_at-requires-clause-taken g c =
    still_taken c.args.cohorts.now c.take.new.desk c.args.at c.in-Some.caller c.serve_some-caller.result.0 c.in-Some.ensures.taken
    c.serve_some-caller.ensures.number c.serve_some-caller.ensures.tag

pub returns-clause-sat : goal.returns-clause-sat
returns-clause-sat g c = record {
  number_is = c.settle_at.ensures.number ∙ c.take.ensures.number;
  desk_is = c.settle_at.ensures.desk;
}
