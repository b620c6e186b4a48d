use Rattle.std.proofs.Common.{ap, sym, ◌∙◌}
use Rattle.std.specs.Prelude.{slice_get}
use Rattle.clof_compose.specs.Nodes.{locks_of}
use Rattle.clof_compose.proofs.Nodes.{node_context, may_go_up}
use Rattle.clof_compose.proofs.waits.LevelPassPassWaits.acquire.Goals as goal

pub wait_for_high-requires-clause-context : goal.wait_for_high-requires-clause-context
wait_for_high-requires-clause-context g c =
    let here = ap (λ l. slice_get (locks_of l) c.args.pass.id.node) (sym c.deref.ensures.value) ∙ c.lock_of.ensures in
    node_context c.requires.sound c.requires.own c.lock_of.result.now here _ _ c.acquire-low.ensures.tagged

pub wait_for_high-requires-clause-share : goal.wait_for_high-requires-clause-share
wait_for_high-requires-clause-share g c =
    let here = ap (λ l. slice_get (locks_of l) c.args.pass.id.node) (sym c.deref.ensures.value) ∙ c.lock_of.ensures in
    may_go_up c.requires.sound c.requires.own c.lock_of.result.now here _ _ c.acquire-low.ensures.tagged c.args.share.now c.requires.share
