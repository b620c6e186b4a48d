use Rattle.std.proofs.Common.{◌≡◌, [], ◌∷◌, Some, ap, sym, arith}
use Rattle.std.proofs.lemmas.Grind.{common_steps}
use Rattle.lock_tables.proofs.Steps.{starts}
use Rattle.lock_tables.proofs.table.new_table.Goals as goal

pub new-requires : goal.new-requires
new-requires g c =
    let items : c.push.new.self.items ≡ Some c.args.value ∷ [] = grind (arith, common_steps) in
    let tag = sym (ap g.V.Cargo.tag c.of.ensures) in
    rw (items, c.requires.words)
    (starts g.V.Cargo.fit g.V.Cargo.tag g.V.Cargo.parked g.D.Disciplined.discipline c.is_disciplined.ensures c.args.waiters c.args.passes _
    c.args.value
    c.requires.some c.ranges.passes.fits c.requires.fit tag c.requires.unparked)
