use Rattle.clof_answers.proofs.Drills.{given_all}
use Rattle.clof_tool.proofs.drilling.drilled_by.Goals as goal

pub summary-requires-clause-given : goal.summary-requires-clause-given
summary-requires-clause-given g c = given_all c.in_ok-left.left.trail c.in_ok-left.left.journal c.in_ok-left.ensures.finished
