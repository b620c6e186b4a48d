use Rattle.clof_answers.proofs.DrilledMachine.{memory_for_plan}
use Rattle.clof_answers.proofs.drilled.plan_on.Goals as goal

pub only_memory_for_plan-requires : goal.only_memory_for_plan-requires
only_memory_for_plan-requires c = memory_for_plan c.args.tree.now c.in-Err.fault c.requires c.in-Err.ensures.refused
