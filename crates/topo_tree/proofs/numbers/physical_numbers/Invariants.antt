use Rattle.std.proofs.Common.{◌≡◌, ℕ, ◌<◌, false, map}
use Rattle.std.specs.List.{range_with_len}
use Rattle.cpu_set.specs.Sets.{has, numbers_where}
use Rattle.topo_tree.specs.Numbers.{number_of, numbers_of, is_bad}
use Rattle.topo_tree.proofs.numbers.physical_numbers.Given as goal

abbrev pub invariant-loop-object : goal.invariant-loop-object
invariant-loop-object l =
    record {
      numbers : l.numbers.items ≡ map (number_of l.indexes) (range_with_len 0 l.object);
      seen : l.seen ≡ numbers_where (has l.numbers.items);
      good : (place : ℕ) → place < l.object → is_bad (numbers_of l.indexes l.count) place ≡ false;
    }
