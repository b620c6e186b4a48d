use Rattle.std.proofs.Common.{◌<◌, subst, sym}
use Rattle.topo_tree.specs.Building.{pu_numbers}
use Rattle.topo_tree.proofs.Lookups.{length-pu_numbers, pus_good, pus_numbered}
use Rattle.topo_tree.proofs.Positions.{position-at}
use Rattle.topo_tree.proofs.laws.numbers_name_their_pus.Goals as goal

pub returns : goal.returns
returns c = λ described index built within.
    let inside = subst (λ n. index < n) (sym (length-pu_numbers described)) within in
    position-at (pu_numbers described) index inside (pus_good described (pus_numbered described built) index inside)
