use Rattle.cpu_set.proofs.TasksetText.{hex_place}
use Rattle.cpu_set.proofs.set.CpuSet.hex_place.Goals as goal

pub returns : goal.returns
returns c = hex_place c.args.self.now c.args.place c.word.result c.requires c.word.ensures
