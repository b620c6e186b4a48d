-- Tables, as lists.
use Rattle.std.specs.Prelude.{ℕ, ◌+◌, List, length, map, take}
use Rattle.std.specs.List.{range_with_len}
use Rattle.synth_text.specs.declared.description.Level.{Level}
use Rattle.synth_text.specs.Rules.{arities, product}
use Rattle.topo_tree.specs.Coverage.{set_covered}

-- how many objects each depth has
unfoldable pub depth_counts : List Level → List ℕ
depth_counts levels = map (λ depth. product (take depth (arities levels))) (range_with_len 0 (length levels + 1))

-- the sets of so many objects over PUs with these numbers
unfoldable pub sets_covered : List ℕ → ℕ → List (List ℕ)
sets_covered numbers count = map (set_covered numbers count) (range_with_len 0 count)

-- the sets of each depth's objects
unfoldable pub depth_sets : List ℕ → List Level → List (List (List ℕ))
depth_sets numbers levels =
    map (λ depth. sets_covered numbers (product (take depth (arities levels)))) (range_with_len 0 (length levels + 1))
