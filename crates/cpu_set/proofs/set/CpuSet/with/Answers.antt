use Rattle.std.proofs.Common.{◌∙◌, ◌%◌, arith}
use Rattle.cpu_set.proofs.SetSteps.{with_number, one_shifted}
use Rattle.cpu_set.proofs.set.CpuSet.with.Goals as goal

pub returns : goal.returns
returns c = c.add_word.ensures ∙ with_number c.args.self.now c.args.number _ (one_shifted (c.args.number % 32) (omega arith))
