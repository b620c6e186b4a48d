-- Which layer a word names.
use Rattle.std.specs.Prelude.{ℕ, List, [], ◌∷◌, filter, slice_get, Option, Some, None, option_map}
use Rattle.std.specs.List.{range_with_len}
use Rattle.std.specs.Option.{option_and_then}
use Rattle.synth_text.specs.declared.kind.Kind.{Kind}
use Rattle.synth_text.specs.declared.kind.Kind.TheVariants.{Group, NumaNode}
use Rattle.synth_text.specs.declared.name.Name.{Name}
use Rattle.synth_text.specs.declared.name.Name.TheVariants as names
use Rattle.synth_text.specs.declared.description.Description.{Description}
use Rattle.synth_text.specs.Kinds.{same_kind}
use Rattle.synth_text.specs.Names.{name_of}
use Rattle.topo_tree.specs.declared.layer.Layer.{Layer}
use Rattle.topo_tree.specs.declared.layer.Layer.TheVariants as layers
use Rattle.topo_tree.specs.Objects.{depth_count, kind_at, carrier_of}

-- the depths of a kind, from the root
unfoldable pub depths_of : Description → Kind → List ℕ
depths_of described kind = filter (λ depth. same_kind (kind_at described depth) kind) (range_with_len 0 (depth_count described))

-- the only element of a list that has just one
abbrev pub only : List ℕ → Option ℕ
only [] = None
only (depth ∷ []) = Some depth
only (depth ∷ next ∷ others) = None

-- A kind names its layer where there is exactly one, and `group` with a number the Group layer with that number,
-- counted from the root.
abbrev pub layer_of : Description → Option Name → Option Layer
layer_of described None = None
layer_of described (Some (names.Kind NumaNode)) = option_map (λ memory. layers.Memory) described.memory
layer_of described (Some (names.Kind kind)) = option_map layers.Depth (only (depths_of described kind))
layer_of described (Some (names.Group number)) = option_map layers.Depth (slice_get (depths_of described Group) number)

-- the layer that a word names
abbrev pub layer_named : Description → List ℕ → Option Layer
layer_named described word = layer_of described (name_of word)

-- the depth of a layer's objects, or of those that carry the nodes of memory
abbrev pub depth_of : Description → Layer → Option ℕ
depth_of described (layers.Depth depth) = Some depth
depth_of described layers.Memory = carrier_of described

-- the depth that a word names: a name of NUMANode stands for the depth that carries the memory
abbrev pub depth_named : Description → List ℕ → Option ℕ
depth_named described word = option_and_then (depth_of described) (layer_named described word)
