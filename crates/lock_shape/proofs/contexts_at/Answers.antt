use Rattle.std.proofs.Common.{◌≡◌, ◌+◌, ◌-◌, length, ap, subst, arith}
use Rattle.keep_local.specs.Shapes.{callers_of}
use Rattle.clof_compose.specs.Contexts.{AreContexts}
use Rattle.lock_shape.proofs.Shapes.{IsCount, counted}
use Rattle.lock_shape.proofs.contexts_at.Goals as goal

pub returns : goal.returns
returns c =
    let callers = ap length c.as_slice-callers.ensures in
    let end = c.loop-caller-test.false in
    let most = c.loop-caller.auto.caller-end in
    let some = c.if-level-eq0.false in
    let low = c.requires.level in
    let all : c.loop-caller.caller ≡ callers_of c.args.shape.now = omega (arith, callers, end, most) in
    let above : c.args.level - 1 + 1 ≡ c.args.level = omega (arith, some) in
    subst (λ l. AreContexts c.args.shape.now l c.loop-caller.count) above (counted c.args.shape.now (c.args.level - 1) c.loop-caller.count
    c.requires.shaped (omega (arith, above, low)) (subst (λ n. IsCount c.args.shape.now (c.args.level - 1) n c.loop-caller.count) all
    c.loop-caller.invariant))
