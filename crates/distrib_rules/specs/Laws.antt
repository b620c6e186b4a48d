-- What the laws of this crate say, each shown by the function that cites it.
use Rattle.std.specs.Prelude.{◌≡◌, ℕ, ◌<◌, ◌≤◌, List, length}
use Rattle.std.specs.List.{list_any}
use Rattle.cpu_set.specs.Sets.{set_limit, has}
use Rattle.synth_text.specs.declared.description.Description.{Description}
use Rattle.topo_tree.specs.Building.{IsBuilt}
use Rattle.topo_tree.specs.Coverage.{set_at}
use Rattle.topo_tree.specs.Objects.{depth_count}
use Rattle.distrib_rules.specs.Shares.{Pair}
use Rattle.distrib_rules.specs.Expansion.{Way, start, expansion, ExpandTo}
use Rattle.distrib_rules.specs.Masks.{distribution}

-- Whichever pair is replaced first, pairs come to their expansion.
abbrev pub OrderMakesNoDifference : Type 0
OrderMakesNoDifference = (described : Description) (way : Way) (pairs others : List Pair) → ExpandTo described way pairs others
    → others ≡ expansion described way pairs

-- Some order of replacing brings pairs to their expansion, so each distribution comes to one.
abbrev pub PairsComeToTheirExpansion : Type 0
PairsComeToTheirExpansion = (described : Description) (way : Way) (pairs : List Pair)
    → ExpandTo described way pairs (expansion described way pairs)

-- The masks are as many as were asked for.
abbrev pub MasksAreAsMany : Type 0
MasksAreAsMany = (described : Description) (way : Way) (n from : ℕ) → IsBuilt described → 1 ≤ n → from < depth_count described
    → length (distribution described way n from) ≡ n

-- A PU is in some mask exactly where it is in Machine.
abbrev pub MasksCoverTheStart : Type 0
MasksCoverTheStart =
    (described : Description) (way : Way) (n from number : ℕ) → IsBuilt described → 1 ≤ n → from < depth_count described
    → number < set_limit
    → list_any (λ mask. has mask number) (distribution described way n from) ≡ has (set_at described 0 0) number
