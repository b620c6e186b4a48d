-- The objects of a layer inside a set.
use Rattle.std.specs.Prelude.{ℕ, List, slice_index}
use Rattle.std.specs.List.{filter, range_with_len}
use Rattle.cpu_set.specs.Tests.{is_inside}
use Rattle.synth_text.specs.declared.description.Description.{Description}
use Rattle.topo_tree.specs.declared.layer.Layer.{Layer}
use Rattle.topo_tree.specs.Objects.{count_of}
use Rattle.topo_tree.specs.Coverage.{set_of, physical_of}
use Rattle.calc_query.specs.declared.query.Numbering.{Numbering}
use Rattle.calc_query.specs.declared.query.Numbering.TheVariants as numberings

-- the objects of a layer whose sets lie inside a set, in logical order
unfoldable pub candidates : Description → Layer → List ℕ → List ℕ
candidates described layer outer = filter (λ index. is_inside (set_of described layer index) outer)
    (range_with_len 0 (count_of described layer))

-- the number of a candidate: its place among them, or its object's physical number
abbrev pub number_of : Description → Numbering → Layer → ℕ → ℕ → ℕ
number_of described numberings.Logical layer index place = place
number_of described numberings.Physical layer index place = physical_of described layer index

-- the number of the candidate at a place
abbrev pub number_at : Description → Numbering → Layer → List ℕ → ℕ → ℕ
number_at described numbering layer among place = number_of described numbering layer (slice_index among place) place
