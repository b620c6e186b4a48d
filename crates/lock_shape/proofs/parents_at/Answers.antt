use Rattle.std.proofs.Common.{◌+◌, ◌<◌, length, set, ap, sym, subst}
use Rattle.std.proofs.lemmas.List.{length-set}
use Rattle.clof_compose.specs.Contexts.{AreContexts}
use Rattle.lock_shape.proofs.Shapes.{HaveParents, context_within, one_parent_more}
use Rattle.lock_shape.proofs.parents_at.Goals as goal

pub index_mut-requires : goal.index_mut-requires
index_mut-requires c =
    let known = subst (λ n. c.loop-caller.caller < n) (ap length c.as_slice-caller-end.ensures) c.loop-caller-test.true in
    subst (λ n. c.context_of-context.result < n) (sym c.loop-caller.parents.ok.0) (context_within c.args.shape.now c.args.level
    c.loop-caller.caller c.context_of-context.result (length c.loop-caller.parents.items) known c.loop-caller.invariant.contexts
    c.context_of-context.ensures)

pub loop-caller-preserved : goal.loop-caller-preserved
loop-caller-preserved c =
    let known = subst (λ n. c.loop-caller.caller < n) (ap length c.as_slice-caller-end.ensures) c.loop-caller-test.true in
    let within = context_within c.args.shape.now c.args.level c.loop-caller.caller c.context_of-context.result (length
    c.loop-caller.parents.items) known c.loop-caller.invariant.contexts c.context_of-context.ensures in record {
      parents = subst (λ y. HaveParents c.args.shape.now c.args.level (c.loop-caller.caller + 1) (set c.loop-caller.parents.items
          c.context_of-context.result y)) (sym c.node_at.ensures) (one_parent_more c.args.shape.now c.args.level c.loop-caller.caller
          c.context_of-context.result c.loop-caller.parents.items c.requires.shaped c.requires.level known c.context_of-context.ensures
          within c.loop-caller.invariant.parents);
      contexts = subst (λ n. AreContexts c.args.shape.now c.args.level n) (sym (length-set c.loop-caller.parents.items
          c.context_of-context.result c.node_at.result)) c.loop-caller.invariant.contexts;
    }
