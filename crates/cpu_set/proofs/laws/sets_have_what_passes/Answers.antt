use Rattle.cpu_set.proofs.MemberLaws.{HasJust-all}
use Rattle.cpu_set.proofs.laws.sets_have_what_passes.Goals as goal

pub returns : goal.returns
returns c = λ test. HasJust-all test
