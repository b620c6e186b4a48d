use Rattle.cpu_set.proofs.MemberLaws.{CombinesSets-all}
use Rattle.cpu_set.proofs.laws.sets_combine_by_membership.Goals as goal

pub returns : goal.returns
returns c = λ one other one_set other_set. CombinesSets-all one other one_set other_set
