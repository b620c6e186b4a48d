-- What is answered of a set (after hwloc-calc's `--intersect`, `--number-of`, `--hierarchical` and `--largest`).
use Rattle.std.specs.Prelude.{ℕ, ◌-◌, ◌&&◌, Bool, false, not, List, [], ◌∷◌, ◌++◌, length, map, slice_index, slice_get, Option, Some, None}
use Rattle.std.specs.Prelude.{option_map, unwrap_or}
use Rattle.std.specs.List.{filter, fold, flat_map, range_with_len}
use Rattle.cpu_set.specs.Tests.{meets, is_inside}
use Rattle.synth_text.specs.declared.description.Description.{Description}
use Rattle.topo_tree.specs.declared.layer.Layer.{Layer}
use Rattle.topo_tree.specs.declared.layer.Layer.TheVariants as layers
use Rattle.topo_tree.specs.declared.layer.Object.{Object}
use Rattle.topo_tree.specs.Objects.{count_of, parent_of}
use Rattle.topo_tree.specs.Coverage.{set_of}
use Rattle.topo_tree.specs.Order.{tree_order}
use Rattle.calc_query.specs.declared.query.Step2.{Step2}
use Rattle.calc_query.specs.declared.query.Path.{Path}
use Rattle.calc_query.specs.Candidates.{candidates}

-- the objects of a layer that have a PU of the set, in logical order
unfoldable pub intersecting : Description → List ℕ → Layer → List ℕ
intersecting described set layer = filter (λ index. meets (set_of described layer index) set) (range_with_len 0 (count_of described layer))

-- ---- chains

-- the object that a path ends with: Machine for a path without a step
abbrev pub end_of : Path → Object
end_of path = unwrap_or (option_map (λ step. step.object) (slice_get path.steps (length path.steps - 1)))
    (record { layer = layers.Depth 0; index = 0 })

-- the step to the candidate at a place
abbrev pub step_to : Layer → List ℕ → ℕ → Step2
step_to layer among place = record { object = record { layer = layer; index = slice_index among place }; position = place }

abbrev pub with_step : Path → Step2 → Path
with_step path step = record { steps = path.steps ++ step ∷ [] }

-- a path, once more for each object of a layer inside its end that has a PU of the set
unfoldable pub extended : Description → List ℕ → Layer → Path → List Path
extended described set layer path =
    let among = candidates described layer (set_of described (end_of path).layer (end_of path).index) in
    map (λ place. with_step path (step_to layer among place))
    (filter (λ place. meets (set_of described layer (slice_index among place)) set) (range_with_len 0 (length among)))

-- the chains of objects of such layers, each inside the one before, all of which have a PU of the set
unfoldable pub chains : Description → List ℕ → List Layer → List Path
chains described set layers = fold (λ paths layer. flat_map (extended described set layer) paths) (record { steps = [] } ∷ []) layers

-- ---- the largest objects

abbrev pub is_above_inside : Description → List ℕ → Option Object → Bool
is_above_inside described set None = false
is_above_inside described set (Some object) = is_inside (set_of described object.layer object.index) set

-- whether the set has all PUs of an object, and not all of the object above
abbrev pub is_largest : Description → List ℕ → Object → Bool
is_largest described set object =
    is_inside (set_of described object.layer object.index) set
    && not (is_above_inside described set (parent_of described object.layer object.index))

-- the largest objects inside the set, in tree order
unfoldable pub largest : Description → List ℕ → List Object
largest described set = filter (is_largest described set) (tree_order described)
