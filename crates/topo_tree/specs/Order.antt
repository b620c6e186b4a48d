-- Tree order: each object before all that lie under it, and these in their order (as hwloc's lstopo prints them).
use Rattle.std.specs.Prelude.{ℕ, ◌+◌, ◌*◌, List, [], ◌∷◌}
use Rattle.std.specs.List.{range_with_len, flat_map}
use Rattle.synth_text.specs.declared.description.Description.{Description}
use Rattle.synth_text.specs.Rules.{arities}
use Rattle.topo_tree.specs.declared.layer.Layer.TheVariants as layers
use Rattle.topo_tree.specs.declared.layer.Object.{Object}

-- an object of a depth
abbrev pub object_at : ℕ → ℕ → Object
object_at depth index = record { layer = layers.Depth depth; index = index }

-- an object and, in their order, all objects under it; the arities are those of the levels below it
abbrev pub tree_objects : List ℕ → ℕ → ℕ → List Object
tree_objects [] depth index = object_at depth index ∷ []
tree_objects (arity ∷ below) depth index =
    object_at depth index ∷ flat_map (λ child. tree_objects below (depth + 1) child) (range_with_len (index * arity) arity)

-- Machine and all objects under it, the nodes of memory left out
unfoldable pub tree_order : Description → List Object
tree_order described = tree_objects (arities described.levels) 0 0
