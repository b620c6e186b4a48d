-- Tree order by the positions of the PUs.
use Rattle.std.specs.Prelude.{ℕ, ◌/◌, ◌%◌, ◌==◌, List, [], ◌∷◌, drop, if◌then◌else◌}
use Rattle.std.specs.List.{range_with_len, flat_map}
use Rattle.synth_text.specs.declared.description.Description.{Description}
use Rattle.synth_text.specs.Rules.{arities, product}
use Rattle.topo_tree.specs.declared.layer.Object.{Object}
use Rattle.topo_tree.specs.Objects.{depth_count}
use Rattle.topo_tree.specs.Order.{object_at}

-- how many PUs each object of a depth covers
abbrev pub width_at : Description → ℕ → ℕ
width_at described depth = product (drop depth (arities described.levels))

-- the object of a depth that has its first PU at a position, if one has
abbrev pub objects_from : Description → ℕ → ℕ → List Object
objects_from described position depth =
    if position % width_at described depth == 0 then object_at depth (position / width_at described depth) ∷ [] else []

-- all objects that have their first PU at a position, from the outermost in
unfoldable pub objects_at : Description → ℕ → List Object
objects_at described position = flat_map (objects_from described position) (range_with_len 0 (depth_count described))
