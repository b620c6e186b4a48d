use Rattle.std.proofs.Common.{sym, ◌∙◌}
use Rattle.topo_tree.proofs.OverLaws.{same_up}
use Rattle.lock_select.proofs.nodes.common_depth.Goals as goal

pub returns-else-over-clause-common : goal.returns-else-over-clause-common
returns-else-over-clause-common c =
    let same = sym c.over.ensures.object ∙ c.if-over.false ∙ c.over-in-loop-depth.ensures.object in
    record {
      within = c.loop-depth.invariant.within;
      same = λ d above.
          same_up c.args.tree.now d c.loop-depth.depth c.args.pu c.args.next c.depths-depth.ensures.built.sound above
          c.loop-depth.invariant.within same;
      apart = c.loop-depth.invariant.apart;
    }
