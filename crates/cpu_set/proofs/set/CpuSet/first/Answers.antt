use Rattle.cpu_set.proofs.Ends.{lowest_is, lowest_none}
use Rattle.cpu_set.proofs.set.CpuSet.first.Goals as goal

pub returns-clause-lowest : goal.returns-clause-lowest
returns-clause-lowest c = lowest_is c.next.result c.args.self.now c.next.ensures.none c.next.ensures.found

pub returns-clause-none : goal.returns-clause-none
returns-clause-none c =
    lowest_none c.next.result c.args.self.now (lowest_is c.next.result c.args.self.now c.next.ensures.none c.next.ensures.found)
