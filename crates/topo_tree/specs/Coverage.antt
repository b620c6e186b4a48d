-- The sets of objects: which PUs they cover, and the numbers of these.
use Rattle.std.specs.Prelude.{ℕ, ◌+◌, ◌*◌, ◌/◌, ◌==◌, List, length, slice_index, slice_range, Option, unwrap_or, position, if◌then◌else◌}
use Rattle.cpu_set.specs.Sets.{has, numbers_where}
use Rattle.synth_text.specs.declared.description.Description.{Description}
use Rattle.synth_text.specs.Rules.{pu_count}
use Rattle.topo_tree.specs.declared.layer.Layer.{Layer}
use Rattle.topo_tree.specs.declared.layer.Layer.TheVariants as layers
use Rattle.topo_tree.specs.Objects.{count_at, carrier_of}
use Rattle.topo_tree.specs.Building.{pu_numbers, node_numbers}

-- the position of the first PU that object i of c objects covers, over so many PUs
abbrev pub first_covered : ℕ → ℕ → ℕ → ℕ
first_covered pus count index = index * pus / count

-- The set of object i of c objects: the numbers of the PUs from its first up to the first of the next object. The
-- numbers of all PUs are given by position.
unfoldable pub set_covered : List ℕ → ℕ → ℕ → List ℕ
set_covered numbers count index =
    numbers_where (has (slice_range numbers (first_covered (length numbers) count index)
    (first_covered (length numbers) count (index + 1))))

-- the set of an object of a depth
abbrev pub set_at : Description → ℕ → ℕ → List ℕ
set_at described depth index = set_covered (pu_numbers described) (count_at described depth) index

-- the depth of a layer's objects, or of those that carry the nodes of memory
abbrev pub layer_depth : Description → Layer → ℕ
layer_depth described (layers.Depth depth) = depth
layer_depth described layers.Memory = unwrap_or (carrier_of described) 0

-- the set of an object; a NUMANode has that of the object that carries it
abbrev pub set_of : Description → Layer → ℕ → List ℕ
set_of described layer index = set_at described (layer_depth described layer) index

-- the physical number of a PU or a NUMANode, and the logical number of any other object
abbrev pub physical_of : Description → Layer → ℕ → ℕ
physical_of described (layers.Depth depth) index =
    if depth == length described.levels then slice_index (pu_numbers described) index else index
physical_of described layers.Memory index = slice_index (node_numbers described) index

-- the position of the PU that has a physical number
abbrev pub leaf_of : Description → ℕ → Option ℕ
leaf_of described physical = position (λ number. number == physical) (pu_numbers described)

-- the object of a depth over a PU: of c objects over p PUs, each covers p / c of them
abbrev pub object_over : Description → ℕ → ℕ → ℕ
object_over described depth pu = pu / (pu_count described / count_at described depth)
