use Rattle.std.proofs.Common.{length, ap, arith}
use Rattle.lock_shape.proofs.Shapes.{contexts_few}
use Rattle.lock_shape.proofs.add_level.Goals as goal

pub make_level-requires-clause-few : goal.make_level-requires-clause-few
make_level-requires-clause-few g c =
    let same = ap length c.deref.ensures.value in
    let most = contexts_few c.args.shape.now c.args.level (length c.in-Ok.parents.items) c.in-Ok.ensures.contexts in
    let few = c.requires.few in
    omega (arith, same, most, few)
