use Rattle.std.proofs.Common.{◌^◌, ◌<◌, Some, ap, sym, ◌∙◌, subst, arith}
use Rattle.std.proofs.lemmas.Result.{IfOk-weaker}
use Rattle.keep_local.specs.Shapes.{callers_of}
use Rattle.lock_shape.proofs.Shapes.{contexts_few}
use Rattle.lock_levels.proofs.Levels.{contexts_some}
use Rattle.lock_levels.proofs.tiers.make_top_of.Goals as goal

pub overflow_cast-contexts : goal.overflow_cast-contexts
overflow_cast-contexts g c =
    let few = contexts_few c.args.shape.now c.args.level c.contexts_at-contexts.result c.contexts_at-contexts.ensures in
    let callers = subst (λ s. callers_of s < 2 ^ 32) c.requires.shape c.requires.fit.settled.trail.few in
    omega (arith, few, callers)

pub make_top-requires-clause-some : goal.make_top-requires-clause-some
make_top-requires-clause-some g c =
    contexts_some c.args.shape.now c.args.level c.contexts_at-contexts.result c.requires.callers c.contexts_at-contexts.ensures

pub returns-clause-kinds : goal.returns-clause-kinds
returns-clause-kinds g c = IfOk-weaker c.make_top.result _ _ (λ m e. c.kind_at.ensures ∙ ap Some (sym e)) c.make_top.ensures.made
