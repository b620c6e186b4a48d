-- The objects of a topology, by arithmetic on counts. Depth 0 is Machine, and each level is one depth further down
-- (after the synthetic topologies of hwloc 2).
use Rattle.std.specs.Prelude.{
  ℕ,
  ◌+◌,
  ◌-◌,
  ◌*◌,
  ◌/◌,
  ◌<◌,
  ◌==◌,
  List,
  ◌∷◌,
  length,
  map,
  take,
  slice_index,
  slice_index_or,
  Option,
  Some,
  None,
  option_map,
  if◌then◌else◌,
}
use Rattle.synth_text.specs.declared.kind.Kind.{Kind}
use Rattle.synth_text.specs.declared.kind.Kind.TheVariants.{Machine}
use Rattle.synth_text.specs.declared.description.Description.{Description}
use Rattle.synth_text.specs.Rules.{arities, product, node_count}
use Rattle.topo_tree.specs.declared.layer.Layer.{Layer}
use Rattle.topo_tree.specs.declared.layer.Layer.TheVariants as layers
use Rattle.topo_tree.specs.declared.layer.Object.{Object}

-- how many depths there are
abbrev pub depth_count : Description → ℕ
depth_count described = length described.levels + 1

-- the kind of each depth's objects
abbrev pub kinds : Description → List Kind
kinds described = Machine ∷ map (λ level. level.kind) described.levels

abbrev pub kind_at : Description → ℕ → Kind
kind_at described depth = slice_index_or (kinds described) depth Machine

-- how many children each object of a depth has: the arity of the level below, and 0 for a PU, which has no level below
abbrev pub arity_at : Description → ℕ → ℕ
arity_at described depth = slice_index (arities described.levels) depth

-- how many objects a depth has: the product of the arities down to it
abbrev pub count_at : Description → ℕ → ℕ
count_at described depth = product (take depth (arities described.levels))

-- the depth of the objects that carry the memory
abbrev pub carrier_of : Description → Option ℕ
carrier_of described = option_map (λ memory. memory.above) described.memory

-- how many objects a layer has
abbrev pub count_of : Description → Layer → ℕ
count_of described (layers.Depth depth) = count_at described depth
count_of described layers.Memory = node_count described.levels described.memory

-- a layer of the topology; that of the memory may be empty
abbrev pub IsLayer : Description → Layer → Type 0
IsLayer described (layers.Depth depth) = depth < depth_count described
IsLayer described layers.Memory = Unit {0}

-- an object of the topology
pub record IsObject (described : Description) (object : Object) : Type 0 where
  pub layer : IsLayer described object.layer
  pub index : object.index < count_of described object.layer

-- Machine has no parent. Object i of another depth is among the children of object i / a above, each of which has a of them.
-- A NUMANode has the parent that carries it, which has the same index.
abbrev pub parent_of : Description → Layer → ℕ → Option Object
parent_of described (layers.Depth depth) index =
    if depth == 0 then None else Some (record { layer = layers.Depth (depth - 1); index = index / arity_at described (depth - 1) })
parent_of described layers.Memory index = option_map (λ depth. record { layer = layers.Depth depth; index = index }) (carrier_of described)

-- the first and the number of an object's children one depth below, which for each object stand together
abbrev pub children_of : Description → Layer → ℕ → ℕ × ℕ
children_of described (layers.Depth depth) index = (index * arity_at described depth, arity_at described depth)
children_of described layers.Memory index = (0, 0)
