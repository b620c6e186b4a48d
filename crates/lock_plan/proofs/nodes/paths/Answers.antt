use Rattle.std.proofs.Common.{◌<◌, ℕ, length, map, ap, ◌∙◌, arith}
use Rattle.std.proofs.Common.{Vec, Global}
use Rattle.lock_plan.specs.Shapes.{path_on}
use Rattle.lock_plan.proofs.Ranks.{path_is, levels_long, map_more}
use Rattle.lock_plan.proofs.nodes.paths.Goals as goal

pub path-requires : goal.path-requires
path-requires c =
    let same = ap (map (λ (level : Vec ℕ Global). level.items)) c.deref.ensures.value ∙ c.in_ok-levels.ensures in
    levels_long (λ (level : Vec ℕ Global). level.items) c.args.tree.now c.args.pus.now c.deref.result.now c.args.depths.now
    c.loop-caller.caller same (omega arith)

pub loop-caller-preserved : goal.loop-caller-preserved
loop-caller-preserved c =
    let described = c.args.tree.now in
    let depths = c.args.depths.now in
    let pus = c.args.pus.now in
    let same = ap (map (λ (level : Vec ℕ Global). level.items)) c.deref.ensures.value ∙ c.in_ok-levels.ensures in
    let within : c.loop-caller.caller < length pus = omega arith in
    let path = c.in_ok-path.ensures
    ∙ path_is (λ (level : Vec ℕ Global). level.items) described pus c.deref.result.now depths c.loop-caller.caller same within in
    map_more (path_on described pus depths) pus c.loop-caller.caller c.loop-caller.paths.items c.push.new.self.items
    c.in_ok-path.field-0 within
    c.loop-caller.invariant path c.in_ok-push.ensures.items
