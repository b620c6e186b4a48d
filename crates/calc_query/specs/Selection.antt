-- What terms select. All sets are given by what they have.
use Rattle.std.specs.Prelude.{ℕ, ◌==◌, ◌&&◌, Bool, List, [], ◌∷◌, length, slice_index}
use Rattle.std.specs.List.{fold, list_any, range_with_len, AllByRecursion}
use Rattle.cpu_set.specs.Sets.{has, numbers_where, union, minus, meet, xor}
use Rattle.synth_text.specs.declared.description.Description.{Description}
use Rattle.topo_tree.specs.declared.layer.Layer.{Layer}
use Rattle.topo_tree.specs.declared.layer.Layer.TheVariants as layers
use Rattle.topo_tree.specs.Objects.{count_of, IsLayer}
use Rattle.topo_tree.specs.Coverage.{set_of}
use Rattle.calc_query.specs.declared.query.Numbering.{Numbering}
use Rattle.calc_query.specs.declared.query.Part.{Part}
use Rattle.calc_query.specs.declared.query.Op.{Op}
use Rattle.calc_query.specs.declared.query.Op.TheVariants as ops
use Rattle.calc_query.specs.declared.query.Location.{Location}
use Rattle.calc_query.specs.declared.query.Location.TheVariants as locations
use Rattle.calc_query.specs.declared.query.Term.{Term}
use Rattle.calc_query.specs.Picks.{is_picked}
use Rattle.calc_query.specs.Candidates.{candidates, number_at}

-- whether a part picks an object among candidates of its layer
unfoldable pub is_picked_among : Description → Numbering → Part → List ℕ → ℕ → Bool
is_picked_among described numbering part among index =
    list_any (λ place. slice_index among place == index
    && is_picked numbering part.pick (length among) (number_at described numbering part.layer among place))
    (range_with_len 0 (length among))

-- The objects of a part's layer that it selects: those that it picks among the candidates inside some object selected
-- before. An object is given by its index in the layer.
unfoldable pub selected_inside : Description → Numbering → Layer → List ℕ → Part → List ℕ
selected_inside described numbering layer before part =
    numbers_where (λ index. list_any (λ outer. has before outer
    && is_picked_among described numbering part (candidates described part.layer (set_of described layer outer)) index)
    (range_with_len 0 (count_of described layer)))

-- the union of the sets of objects of a layer
unfoldable pub union_of : Description → Layer → List ℕ → List ℕ
union_of described layer indexes =
    numbers_where (λ number. list_any (λ index. has indexes index && has (set_of described layer index) number)
    (range_with_len 0 (count_of described layer)))

-- The set that parts select, walked from the left, beginning with objects of a layer.
abbrev pub selected_from : Description → Numbering → Layer → List ℕ → List Part → List ℕ
selected_from described numbering layer before [] = union_of described layer before
selected_from described numbering layer before (part ∷ parts) =
    selected_from described numbering part.layer (selected_inside described numbering layer before part) parts

-- The set of a location. Parts begin with Machine, inside which all objects lie.
abbrev pub located : Description → Numbering → Location → List ℕ
located described numbering locations.All = set_of described (layers.Depth 0) 0
located described numbering (locations.Numbers numbers) = numbers
located described numbering (locations.Parts parts) = selected_from described numbering (layers.Depth 0) (0 ∷ []) parts

-- one set operation
abbrev pub operated : Op → List ℕ → List ℕ → List ℕ
operated ops.Join set other = union set other
operated ops.Remove set other = minus set other
operated ops.Meet set other = meet set other
operated ops.Differ set other = xor set other

-- what terms select, folded from the empty set
unfoldable pub selected : Description → Numbering → List Term → List ℕ
selected described numbering terms = fold (λ set term. operated term.op set (located described numbering term.location)) [] terms

-- each part of a location is of a layer of the topology
abbrev pub HasLayers : Description → Location → Type 0
HasLayers described locations.All = Unit {0}
HasLayers described (locations.Numbers numbers) = Unit {0}
HasLayers described (locations.Parts parts) = AllByRecursion (λ part. IsLayer described part.layer) parts

abbrev pub HaveLayers : Description → List Term → Type 0
HaveLayers described terms = AllByRecursion (λ term. HasLayers described term.location) terms
