use Rattle.cohort_runner.specs.Rolls.{contexts_of, roll_tag}
use Rattle.cohort_runner.proofs.Sitting.{taken_tag}
use Rattle.cohort_runner.proofs.serving.take.Goals as goal

pub returns-clause-tag : goal.returns-clause-tag
returns-clause-tag g c =
    taken_tag c.args.cohorts.now c.take_from.new.desk c.args.at c.in-Some.caller.number c.in-Some.caller.tag
    (roll_tag (contexts_of g.C.Pass.Resting.rest c.args._roll.now.told.value.items)) c.requires.at c.in-Some.ensures.taken
    c.requires.may.cohorts_are
