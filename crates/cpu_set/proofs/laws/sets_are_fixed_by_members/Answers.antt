use Rattle.cpu_set.proofs.MemberLaws.{SameByMembers-all}
use Rattle.cpu_set.proofs.laws.sets_are_fixed_by_members.Goals as goal

pub returns : goal.returns
returns c = λ one other. SameByMembers-all one other
