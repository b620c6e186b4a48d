-- The printed topology: one object a line, in tree order (after the console form of hwloc's lstopo, in this project's
-- profile). 32 is a space, 10 ends a line.
use Rattle.std.specs.Prelude.{
  ℕ,
  ◌+◌,
  ◌*◌,
  ◌==◌,
  List,
  [],
  ◌∷◌,
  ◌++◌,
  codes,
  decimal,
  map,
  take,
  replicate,
  count_by,
  slice_index_or,
  Option,
  Some,
  None,
  if◌then◌else◌,
}
use Rattle.std.specs.List.{range_with_len, flat_map}
use Rattle.synth_text.specs.declared.kind.Kind.{Kind}
use Rattle.synth_text.specs.declared.kind.Kind.TheVariants.{Group, Pu, NumaNode}
use Rattle.synth_text.specs.declared.description.Memory.{Memory}
use Rattle.synth_text.specs.declared.description.Description.{Description}
use Rattle.synth_text.specs.Kinds.{same_kind, short_name_of}
use Rattle.topo_tree.specs.declared.layer.Layer.{Layer}
use Rattle.topo_tree.specs.declared.layer.Layer.TheVariants as layers
use Rattle.topo_tree.specs.Order.{tree_order}
use Rattle.topo_tree.specs.Objects.{depth_count, kinds, kind_at}
use Rattle.topo_tree.specs.Coverage.{physical_of}
use Rattle.topo_tree.specs.Sizes.{size_text}

-- the number of a Group level: how many Group levels stand above it
abbrev pub group_number : Description → ℕ → ℕ
group_number described depth = count_by (λ kind. same_kind kind Group) (take depth (kinds described))

-- the numbers of all depths
unfoldable pub group_numbers : Description → List ℕ
group_numbers described = map (group_number described) (range_with_len 0 (depth_count described))

-- the short name of an object; a Group has its level's number behind it
abbrev pub short_name : Kind → ℕ → List ℕ
short_name Group number = short_name_of Group ++ decimal number
short_name kind number = short_name_of kind

-- the sizes that the levels give, by depth; only caches have one
abbrev pub sizes : Description → List (Option ℕ)
sizes described = None ∷ map (λ level. level.size) described.levels

-- what stands behind an object's index: the physical number of a PU, the size of a cache where it is given
abbrev pub detail : Kind → ℕ → Option ℕ → List ℕ
detail Pu physical size = codes " (P#" ++ decimal physical ++ codes ")"
detail kind physical None = []
detail kind physical (Some size) = codes " (" ++ size_text size ++ codes ")"

-- what stands behind the index of a NUMANode: its physical number, and its size where it is given
abbrev pub node_detail : ℕ → Option ℕ → List ℕ
node_detail physical None = codes " (P#" ++ decimal physical ++ codes ")"
node_detail physical (Some size) = codes " (P#" ++ decimal physical ++ codes " " ++ size_text size ++ codes ")"

-- a line: two spaces for each depth, a name, the index and what stands behind it
unfoldable pub line : ℕ → List ℕ → ℕ → List ℕ → List ℕ
line depth name index behind = replicate (2 * depth) 32 ++ name ++ codes " L#" ++ decimal index ++ behind ++ 10 ∷ []

-- the line of an object of a depth
unfoldable pub object_line : Description → ℕ → ℕ → List ℕ
object_line described depth index =
    line depth (short_name (kind_at described depth) (group_number described depth)) index
    (detail (kind_at described depth) (physical_of described (layers.Depth depth) index) (slice_index_or (sizes described) depth None))

-- the line of the NUMANode that an object of a depth carries, indented one step more
abbrev pub node_lines : Option Memory → ℕ → ℕ → ℕ → List ℕ
node_lines None physical depth index = []
node_lines (Some memory) physical depth index =
    if memory.above == depth then line (depth + 1) (short_name_of NumaNode) index (node_detail physical memory.size) else []

-- the lines of an object of a depth and of the NUMANode that it carries
unfoldable pub own_lines : Description → ℕ → ℕ → List ℕ
own_lines described depth index =
    object_line described depth index ++ node_lines described.memory (physical_of described layers.Memory index) depth index

-- the lines of an object of a layer; a NUMANode has its line under its carrier's
abbrev pub lines_of : Description → Layer → ℕ → List ℕ
lines_of described (layers.Depth depth) index = own_lines described depth index
lines_of described layers.Memory index = []

-- the lines of all objects in tree order
unfoldable pub topology_text : Description → List ℕ
topology_text described = flat_map (λ object. lines_of described object.layer object.index) (tree_order described)
