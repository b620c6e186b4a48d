-- Laws of the objects of a topology.
use Rattle.std.specs.Prelude.{◌≡◌, ◌≢◌, ℕ, ◌+◌, ◌/◌, ◌<◌, ◌≤◌, ◌&&◌, false, nat_le, length, slice_index, Some}
use Rattle.std.specs.List.{list_any, range_with_len}
use Rattle.cpu_set.specs.Sets.{has}
use Rattle.cpu_set.specs.Tests.{meets, is_inside}
use Rattle.synth_text.specs.declared.description.Description.{Description}
use Rattle.synth_text.specs.Rules.{pu_count}
use Rattle.topo_tree.specs.declared.layer.Layer.TheVariants as layers
use Rattle.topo_tree.specs.Objects.{depth_count, count_at, parent_of, children_of}
use Rattle.topo_tree.specs.Building.{pu_numbers, IsBuilt}
use Rattle.topo_tree.specs.Coverage.{first_covered, set_at, leaf_of, object_over}

-- Each child of an object is an object of the next depth, and has that object as its parent.
abbrev pub ChildrenHaveTheirParent : Type 0
ChildrenHaveTheirParent =
    (described : Description) (depth index child : ℕ) → IsBuilt described → depth < length described.levels
    → index < count_at described depth
    → (children_of described (layers.Depth depth) index).0 ≤ child
    → child < (children_of described (layers.Depth depth) index).0 + (children_of described (layers.Depth depth) index).1
    → (child < count_at described (depth + 1))
    × (parent_of described (layers.Depth (depth + 1)) child ≡ Some (record { layer = layers.Depth depth; index = index }))

-- Each PU is the one with its physical number.
abbrev pub NumbersNameTheirPus : Type 0
NumbersNameTheirPus =
    (described : Description) (index : ℕ) → IsBuilt described → index < pu_count described
    → leaf_of described (slice_index (pu_numbers described) index) ≡ Some index

-- An object has as many PUs as each other of its depth, and at least one.
pub record HasItsShare (described : Description) (depth index : ℕ) : Type 0 where
  pub members : length (set_at described depth index) ≡ pu_count described / count_at described depth
  pub some : 1 ≤ length (set_at described depth index)

abbrev pub ObjectsHaveTheirShare : Type 0
ObjectsHaveTheirShare =
    (described : Description) (depth index : ℕ) → IsBuilt described → index < count_at described depth → HasItsShare described depth index

-- Two objects of a depth have no PU in common.
abbrev pub ObjectsOfADepthAreDisjoint : Type 0
ObjectsOfADepthAreDisjoint =
    (described : Description) (depth index other : ℕ) → IsBuilt described → index ≢ other
    → meets (set_at described depth index) (set_at described depth other) ≡ false

-- An object's set is inside another's exactly where its range of positions is.
abbrev pub InsideIsByPositions : Type 0
InsideIsByPositions =
    (described : Description) (depth index other above : ℕ) → IsBuilt described → index < count_at described depth
    → is_inside (set_at described depth index) (set_at described other above)
    ≡ (nat_le (first_covered (pu_count described) (count_at described other) above)
    (first_covered (pu_count described) (count_at described depth) index)
    && nat_le (first_covered (pu_count described) (count_at described depth) (index + 1))
    (first_covered (pu_count described) (count_at described other) (above + 1)))

-- A number is in an object's set exactly where it is in a child's.
abbrev pub ChildrenMakeUpTheirParent : Type 0
ChildrenMakeUpTheirParent =
    (described : Description) (depth index number : ℕ) → IsBuilt described → depth < length described.levels
    → has (set_at described depth index) number
    ≡ list_any (λ child. has (set_at described (depth + 1) child) number)
    (range_with_len (children_of described (layers.Depth depth) index).0 (children_of described (layers.Depth depth) index).1)

-- The object of a depth over a PU is the one that covers it.
pub record IsCovered (described : Description) (depth pu object : ℕ) : Type 0 where
  pub fit : object < count_at described depth
  pub from : first_covered (pu_count described) (count_at described depth) object ≤ pu
  pub to : pu < first_covered (pu_count described) (count_at described depth) (object + 1)

abbrev pub ObjectsOverPusCoverThem : Type 0
ObjectsOverPusCoverThem =
    (described : Description) (depth pu : ℕ) → IsBuilt described → pu < pu_count described
    → IsCovered described depth pu (object_over described depth pu)

-- Two PUs under one object of a depth are under one object of each depth above it.
abbrev pub CommonObjectsNestUpwards : Type 0
CommonObjectsNestUpwards =
    (described : Description) (depth lower pu other : ℕ) → IsBuilt described → depth ≤ lower → lower < depth_count described
    → object_over described lower pu ≡ object_over described lower other
    → object_over described depth pu ≡ object_over described depth other
