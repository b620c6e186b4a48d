-- The masks of a distribution.
use Rattle.std.specs.Prelude.{ℕ, ◌-◌, ◌==◌, List, [], ◌++◌, length, replicate, slice_set, slice_index_or, if◌then◌else◌}
use Rattle.std.specs.List.{fold}
use Rattle.cpu_set.specs.Sets.{union}
use Rattle.synth_text.specs.declared.description.Description.{Description}
use Rattle.topo_tree.specs.Coverage.{set_at}
use Rattle.distrib_rules.specs.Shares.{Pair}
use Rattle.distrib_rules.specs.Expansion.{Way, start, expansion}

-- the masks, with a set joined to the last of them
unfoldable pub join_last : List (List ℕ) → List ℕ → List (List ℕ)
join_last masks set = slice_set masks (length masks - 1) (union (slice_index_or masks (length masks - 1) []) set)

-- A share of 0 joins its set to the mask before; any other gives the set as often as it says.
abbrev pub with_share : List (List ℕ) → List ℕ → ℕ → List (List ℕ)
with_share masks set share = if share == 0 then join_last masks set else masks ++ replicate share set

abbrev pub with_pair : Description → List (List ℕ) → Pair → List (List ℕ)
with_pair described masks pair = with_share masks (set_at described pair.depth pair.index) pair.share

-- the masks that pairs give behind others
unfoldable pub with_pairs : Description → List (List ℕ) → List Pair → List (List ℕ)
with_pairs described masks pairs = fold (with_pair described) masks pairs

-- the n masks that the objects of a depth share
abbrev pub distribution : Description → Way → ℕ → ℕ → List (List ℕ)
distribution described way n from = with_pairs described [] (expansion described way (start described way n from))
