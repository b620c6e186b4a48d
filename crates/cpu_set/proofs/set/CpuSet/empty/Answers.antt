use Rattle.cpu_set.proofs.SetSteps.{zeros_are_words, set_of_words-zeros}
use Rattle.cpu_set.proofs.set.CpuSet.empty.Goals as goal

pub invariant_of-result : goal.invariant_of-result
invariant_of-result c = zeros_are_words

pub returns : goal.returns
returns c = set_of_words-zeros
