-- The depths that words name.
use Rattle.std.proofs.Common.{◌≡◌, ℕ, ◌<◌, List, [], ◌∷◌, Option, Some, None, IfSome, subst, refl, ap, arith}
use Rattle.std.specs.Prelude.{option_map, All, slice_get, length}
use Rattle.std.specs.Option.{option_and_then}
use Rattle.std.proofs.lemmas.Option.{slice_get_within, get_or_from_slice_get}
use Rattle.std.proofs.lemmas.List.Elements.{All-get_or}
use Rattle.cpu_set.specs.Sets.{numbers_below}
use Rattle.cpu_set.specs.SetLaws.{numbers_below_within}
use Rattle.synth_text.specs.declared.kind.Kind.{Kind}
use Rattle.synth_text.specs.declared.kind.Kind.TheVariants.{Machine, Package, Die, Group, L5, L4, L3, L2, L1d, L1i, Core, Pu, NumaNode}
use Rattle.synth_text.specs.declared.name.Name.{Name}
use Rattle.synth_text.specs.declared.name.Name.TheVariants as names
use Rattle.synth_text.specs.declared.description.Memory.{Memory}
use Rattle.synth_text.specs.declared.description.Description.{Description}
use Rattle.synth_text.specs.Kinds.{same_kind}
use Rattle.synth_text.specs.Names.{name_of, kind_named, group_numbered}
use Rattle.synth_text.specs.Sound.{IsSound, IsSoundMemory}
use Rattle.topo_tree.specs.declared.layer.Layer.{Layer}
use Rattle.topo_tree.specs.declared.layer.Layer.TheVariants as layers
use Rattle.topo_tree.specs.Objects.{depth_count, kind_at, IsLayer}
use Rattle.topo_tree.specs.Naming.{depths_of, only, layer_of, layer_named, depth_of, depth_named}

module _ (described : Description) where
  -- the depths of a kind are depths
  depths_within : (kind : Kind) → All (λ depth. depth < depth_count described) (depths_of described kind)
  unfolding depths_of numbers_below
  depths_within kind = numbers_below_within (depth_count described) (λ depth. same_kind (kind_at described depth) kind)

  only_within : (depths : List ℕ) (depth : ℕ) → All (λ d. d < depth_count described) depths → only depths ≡ Some depth
      → depth < depth_count described
  only_within [] depth all is = absurd cc
  only_within (one ∷ []) depth all is =
      let e : one ≡ depth = cc in
      subst (λ (d : ℕ). d < depth_count described) e (All-get_or (λ (d : ℕ). d < depth_count described) (one ∷ []) 0 0 (omega arith) all)
  only_within (one ∷ next ∷ others) depth all is = absurd cc

  numbered_within : (depths : List ℕ) (number depth : ℕ) → All (λ d. d < depth_count described) depths
      → slice_get depths number ≡ Some depth → depth < depth_count described
  numbered_within depths number depth all is =
      subst (λ (d : ℕ). d < depth_count described) (get_or_from_slice_get depths number depth 0 is)
      (All-get_or (λ (d : ℕ). d < depth_count described) depths number 0 (slice_get_within depths number depth is) all)

  by_depth : (o : Option ℕ) (layer : Layer) → ((depth : ℕ) → o ≡ Some depth → depth < depth_count described)
      → option_map layers.Depth o ≡ Some layer → IsLayer described layer
  by_depth None layer within is = absurd cc
  by_depth (Some depth) layer within is =
      subst (IsLayer described) (let e : layers.Depth depth ≡ layer = cc in e) (within depth refl)

  by_kind : (kind : Kind) (layer : Layer) → option_map layers.Depth (only (depths_of described kind)) ≡ Some layer → IsLayer described layer
  by_kind kind layer is =
      by_depth (only (depths_of described kind)) layer
      (λ depth found. only_within (depths_of described kind) depth (depths_within kind) found) is

  by_memory : (memory : Option Memory) (layer : Layer) → option_map (λ (m : Memory). layers.Memory) memory ≡ Some layer
      → IsLayer described layer
  by_memory None layer is = absurd cc
  by_memory (Some memory) layer is = subst (IsLayer described) (let e : layers.Memory ≡ layer = cc in e) tt

  -- a name's layer is one
  named_layer : (name : Option Name) (layer : Layer) → layer_of described name ≡ Some layer → IsLayer described layer
  named_layer None layer is = absurd cc
  named_layer (Some (names.Kind NumaNode)) layer is = by_memory described.memory layer is
  named_layer (Some (names.Kind Machine)) layer is = by_kind Machine layer is
  named_layer (Some (names.Kind Package)) layer is = by_kind Package layer is
  named_layer (Some (names.Kind Die)) layer is = by_kind Die layer is
  named_layer (Some (names.Kind Group)) layer is = by_kind Group layer is
  named_layer (Some (names.Kind L5)) layer is = by_kind L5 layer is
  named_layer (Some (names.Kind L4)) layer is = by_kind L4 layer is
  named_layer (Some (names.Kind L3)) layer is = by_kind L3 layer is
  named_layer (Some (names.Kind L2)) layer is = by_kind L2 layer is
  named_layer (Some (names.Kind L1d)) layer is = by_kind L1d layer is
  named_layer (Some (names.Kind L1i)) layer is = by_kind L1i layer is
  named_layer (Some (names.Kind Core)) layer is = by_kind Core layer is
  named_layer (Some (names.Kind Pu)) layer is = by_kind Pu layer is
  named_layer (Some (names.Group number)) layer is =
      by_depth (slice_get (depths_of described Group) number) layer
      (λ depth found. numbered_within (depths_of described Group) number depth (depths_within Group) found) is

  carrier_within : (memory : Option Memory) (depth : ℕ) → IfSome memory (IsSoundMemory (length described.levels))
      → option_map (λ (m : Memory). m.above) memory ≡ Some depth → depth < depth_count described
  carrier_within None depth sound is = absurd cc
  carrier_within (Some memory) depth sound is =
      let e : memory.above ≡ depth = cc in
      let above = sound.above in
      omega (arith, e, above)

  layer_depth_within : (layer : Option Layer) (depth : ℕ) → IsSound described → ((one : Layer) → layer ≡ Some one → IsLayer described one)
      → option_and_then (depth_of described) layer ≡ Some depth → depth < depth_count described
  layer_depth_within None depth sound fits is = absurd cc
  layer_depth_within (Some (layers.Depth other)) depth sound fits is =
      subst (λ (d : ℕ). d < depth_count described) (let e : other ≡ depth = cc in e) (fits (layers.Depth other) refl)
  layer_depth_within (Some layers.Memory) depth sound fits is = carrier_within described.memory depth sound.memory is

  -- the depth that a word names is one
  pub named_within : (word : List ℕ) (depth : ℕ) → IsSound described → depth_named described word ≡ Some depth
      → depth < depth_count described
  named_within word depth sound is =
      layer_depth_within (layer_named described word) depth sound (named_layer (name_of word)) is

no_name : name_of [] ≡ None
unfolding kind_named group_numbered
no_name = refl

-- an empty word names nothing
pub unnamed : (described : Description) → depth_named described [] ≡ None
unnamed described = ap (λ (o : Option Name). option_and_then (depth_of described) (layer_of described o)) no_name
