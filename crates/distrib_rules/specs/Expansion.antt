-- The objects that masks are given for: each object with more than one mask hands its share to its children, down to a
-- depth (after the recursive distribution of hwloc-distrib).
use Rattle.std.specs.Prelude.{◌≡◌, ℕ, zero, suc, ◌+◌, ◌-◌, Bool, false, true, ◌||◌, nat_le, List, [], ◌∷◌, ◌++◌, length, All, if◌then◌else◌}
use Rattle.std.specs.List.{range_with_len, flat_map}
use Rattle.synth_text.specs.declared.description.Description.{Description}
use Rattle.topo_tree.specs.declared.layer.Layer.TheVariants as layers
use Rattle.topo_tree.specs.Objects.{count_at, children_of}
use Rattle.distrib_rules.specs.Shares.{Pair, shared, in_order}

-- how objects share: down to which depth, and whether each list is taken from its last object to its first
pub record Way : Type 0 where
  pub to : ℕ
  pub backwards : Bool

-- an object without children, with at most one mask, or at that depth or below it
abbrev pub is_final : Description → Way → Pair → Bool
is_final described way pair = nat_le (length described.levels) pair.depth || (nat_le pair.share 1 || nat_le way.to pair.depth)

-- the children of a pair's object, with their shares of its masks
abbrev pub children_sharing : Description → Way → Pair → List Pair
children_sharing described way pair =
    let children = children_of described (layers.Depth pair.depth) pair.index in
    shared described pair.share (pair.depth + 1) (in_order way.backwards (range_with_len children.0 children.1))

-- all objects of a depth, with their shares of n masks
abbrev pub start : Description → Way → ℕ → ℕ → List Pair
start described way n from = shared described n from (in_order way.backwards (range_with_len 0 (count_at described from)))

-- what a pair comes to, with so many levels below its object's
abbrev pub expanded : Description → Way → ℕ → Pair → List Pair
expanded described way zero pair = pair ∷ []
expanded described way (suc below) pair =
    if is_final described way pair then pair ∷ [] else flat_map (expanded described way below) (children_sharing described way pair)

-- what pairs come to
unfoldable pub expansion : Description → Way → List Pair → List Pair
expansion described way pairs = flat_map (λ pair. expanded described way (length described.levels - pair.depth) pair) pairs

-- Pairs expand to others by replacing, in any order, a pair that isn't final by its object's children, until all are final.
pub data ExpandTo (described : Description) (way : Way) : List Pair → List Pair → Type 0 where
  done : (pairs : List Pair) → All (λ pair. is_final described way pair ≡ true) pairs → ExpandTo described way pairs pairs
  replaced : (before : List Pair) (pair : Pair) (behind others : List Pair) → is_final described way pair ≡ false
      → ExpandTo described way (before ++ children_sharing described way pair ++ behind) others
      → ExpandTo described way (before ++ pair ∷ behind) others
