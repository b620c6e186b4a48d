use Rattle.std.proofs.Common.{◌≡◌, length, take, drop, arith}
use Rattle.std.proofs.lemmas.Grind.{common_steps}
use Rattle.edge_io.proofs.Taken.{front_copied}
use Rattle.edge_io.proofs.memory_source.give.Goals as goal

pub returns-clause-copied : goal.returns-clause-copied
returns-clause-copied c =
    let count = c.min-count.result in
    let size : length c.copy_from_slice.new.self ≡ count = grind (arith, common_steps) in
    let copied : c.copy_from_slice.new.self ≡ take count (drop c.args.at c.args.bytes.now) = grind (arith, common_steps) in
    front_copied c.args.bytes.now c.copy_from_slice.new.self _ c.args.at count size copied
