use Rattle.std.proofs.Common.{sym}
use Rattle.clof_answers.proofs.DrilledMachine.{machine_built, memory_alone}
use Rattle.clof_answers.specs.Drilling.{drilled_machine}
use Rattle.clof_answers.proofs.drilled.machine.Goals as goal

pub returns-in-Ok : goal.returns-in-Ok
returns-in-Ok c = sym (c.in-Ok.ensures.only drilled_machine machine_built.describes)

pub only_memory-requires : goal.only_memory-requires
only_memory-requires c =
    memory_alone c.tree.result c.in-Err.status c.in-Err.is (c.tree.ensures.complete drilled_machine machine_built)
