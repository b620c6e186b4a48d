-- The objects of a layer inside an object stand side by side.
use Rattle.std.proofs.Common.{◌≡◌, ◌≢◌, ℕ, ◌+◌, ◌-◌, ◌*◌, ◌/◌, ◌<◌, ◌≤◌, max, ◌&&◌, nat_lt, nat_le, List, [], length, take, Option}
use Rattle.std.proofs.Common.{Some, None, ◌⊎◌, refl, ap, ◌∙◌, inl, inr, arith}
use Rattle.std.proofs.Math.Nat.{mul-le-mul_right}
use Rattle.std.specs.List.{range_with_len, filter}
use Rattle.std.specs.Option.{option_map}
use Rattle.std.specs.Prelude.{unwrap_or}
use Rattle.std.proofs.lemmas.Bool.{leb-true, le-leb, ltb-true, lt-ltb}
use Rattle.std.proofs.lemmas.Nat.{div-add-mod', mod_below, div_below, le-div}
use Rattle.cpu_set.specs.Tests.{is_inside}
use Rattle.cpu_set.proofs.TestLaws.{same_tests}
use Rattle.synth_text.specs.declared.description.Description.{Description}
use Rattle.synth_text.specs.declared.description.Level.{Level}
use Rattle.synth_text.specs.declared.description.Memory.{Memory}
use Rattle.synth_text.specs.Rules.{arities, product, node_count, pu_count}
use Rattle.topo_tree.specs.declared.layer.Layer.{Layer}
use Rattle.topo_tree.specs.declared.layer.Layer.TheVariants as layers
use Rattle.topo_tree.specs.Objects.{count_at, count_of}
use Rattle.topo_tree.specs.Building.{IsBuilt}
use Rattle.topo_tree.specs.Beginnings.{width_at}
use Rattle.topo_tree.specs.Coverage.{layer_depth, set_of}
use Rattle.topo_tree.proofs.CountLaws.{have_arities, last_count}
use Rattle.topo_tree.proofs.Shown.{found_width}
use Rattle.topo_tree.proofs.PlaceLaws.{widths, some_width, set_at-inside, last_within}
use Rattle.calc_query.specs.Candidates.{candidates}
use Rattle.calc_query.proofs.Ranges.{filter_run}

nodes_by_depth : (levels : List Level) (memory : Option Memory) → (node_count levels memory ≡ 0)
    ⊎ (node_count levels memory ≡ product (take (unwrap_or (option_map (λ m. m.above) memory) 0) (arities levels)))
nodes_by_depth levels None = inl refl
nodes_by_depth levels (Some memory) = inr refl

-- a layer has no objects, or as many as the depth that its objects have their sets from
pub count_by_depth : (described : Description) (layer : Layer) → (count_of described layer ≡ 0)
    ⊎ (count_of described layer ≡ count_at described (layer_depth described layer))
count_by_depth described (layers.Depth depth) = inr refl
count_by_depth described layers.Memory = nodes_by_depth described.levels described.memory

-- ---- places and widths

low_test : (start place width : ℕ) → 1 ≤ width → nat_le start (place * width) ≡ nat_le ((start + width - 1) / width) place
low_test start place width some =
    let first = (start + width - 1) / width in
    let whole = div-add-mod' (start + width - 1) width in
    let left = mod_below (start + width - 1) width (omega arith) in
    same_tests (nat_le start (place * width)) (nat_le first place)
    (λ before. le-leb first place (omega (
      arith,
      div_below (start + width - 1) width (place + 1) (omega arith)
          (omega (arith, leb-true start (place * width) before)),
    )))
    (λ before. le-leb start (place * width) (omega (arith, mul-le-mul_right width (leb-true first place before), whole, left)))

high_test : (end place width : ℕ) → 1 ≤ width → nat_le ((place + 1) * width) end ≡ nat_lt place (end / width)
high_test end place width some =
    same_tests (nat_le ((place + 1) * width) end) (nat_lt place (end / width))
    (λ within. lt-ltb place (end / width) (omega
    (arith, le-div (place + 1) end width (omega arith) (leb-true ((place + 1) * width) end within))))
    (λ within. le-leb ((place + 1) * width) end
    (omega (
      arith,
      mul-le-mul_right width (let next : place + 1 ≤ end / width = omega (arith, ltb-true place (end / width) within) in
          next),
      div-add-mod' end width,
    )))

module _ (described : Description) (built : IsBuilt described) (layer outer_layer : Layer) (outer : ℕ) where
  abbrev depth : ℕ
  depth = layer_depth described layer

  abbrev outer_depth : ℕ
  outer_depth = layer_depth described outer_layer

  abbrev pub first_inside : ℕ → ℕ → ℕ
  first_inside width outer_width = (outer * outer_width + width - 1) / width

  abbrev pub end_inside : ℕ → ℕ → ℕ
  end_inside width outer_width = (outer * outer_width + outer_width) / width

  module _ (counted : count_of described layer ≡ count_at described (layer_depth described layer))
      (within : outer < count_at described (layer_depth described outer_layer)) where
    abbrev w : ℕ
    w = width_at described depth

    abbrev ow : ℕ
    ow = width_at described outer_depth

    outer_end : outer * ow + ow ≤ pu_count described
    outer_end = let next : (outer + 1) * ow ≡ outer * ow + ow = omega arith in
        omega (arith, next, last_within described built outer_depth outer within)

    end_few : end_inside w ow ≤ count_at described depth
    end_few = omega (
      arith,
      div_below (outer * ow + ow) w (count_at described depth + 1) (omega (arith, some_width described built depth))
          (omega (arith, outer_end, widths described built depth, some_width described built depth)),
    )

    first_few : first_inside w ow ≤ count_at described depth
    first_few = omega (
      arith,
      div_below (outer * ow + w - 1) w (count_at described depth + 1)
          (omega (arith, some_width described built depth))
          (omega (
            arith,
            outer_end,
            some_width described built outer_depth,
            widths described built depth,
            some_width described built
                depth,
          )),
    )

    each_test : (index : ℕ) → index < count_at described depth
        → is_inside (set_of described layer index) (set_of described outer_layer outer)
        ≡ (nat_le (first_inside w ow) index && nat_lt index (end_inside w ow))
    each_test index below =
        let next : (outer + 1) * ow ≡ outer * ow + ow = omega arith in
        set_at-inside described built depth index outer_depth outer below
        ∙ ap (λ b. b && nat_le ((index + 1) * w) ((outer + 1) * ow)) (low_test (outer * ow) index w (some_width described built depth))
        ∙ ap (λ end. nat_le (first_inside w ow) index && nat_le ((index + 1) * w) end) next
        ∙ ap (λ b. nat_le (first_inside w ow) index && b) (high_test (outer * ow + ow) index w (some_width described built depth))

    pub run_inside : candidates described layer (set_of described outer_layer outer)
        ≡ range_with_len (first_inside w ow) (end_inside w ow - first_inside w ow)
    unfolding candidates
    run_inside =
        let first : max (first_inside w ow) 0 ≡ first_inside w ow = omega arith in
        filter_run (λ index. is_inside (set_of described layer index) (set_of described outer_layer outer)) (first_inside w ow)
        (end_inside w ow) 0 (count_of described layer)
        (λ index from to. each_test index (omega (arith, to, counted))) (omega (arith, end_few, counted))
        ∙ ap (λ n. range_with_len n (end_inside w ow - n)) first

    pub run_within : first_inside w ow + (end_inside w ow - first_inside w ow) ≤ count_of described layer
    run_within = omega (arith, counted, end_few, first_few)

  pub none_inside : (inner : List ℕ) → count_of described layer ≡ 0 → candidates described layer inner ≡ []
  unfolding candidates
  none_inside inner none = ap (λ n. filter (λ index. is_inside (set_of described layer index) inner) (range_with_len 0 n)) none

-- what the divisions find
pub record Found (described : Description) (layer outer_layer : Layer) (outer pus count outer_count : ℕ) : Type 0 where
  pub counted : count_of described layer ≡ count_at described (layer_depth described layer)
  pub within : outer < count_at described (layer_depth described outer_layer)
  pub width : pus / count ≡ width_at described (layer_depth described layer)
  pub outer_width : pus / outer_count ≡ width_at described (layer_depth described outer_layer)
  pub some : 1 ≤ pus / count

pub found : (described : Description) (layer outer_layer : Layer) (outer depths pus count outer_count : ℕ) → IsBuilt described
    → depths ≡ length described.levels + 1 → pus ≡ count_of described (layers.Depth (depths - 1))
    → count ≡ count_of described layer → count ≢ 0 → outer_count ≡ count_of described outer_layer → outer < count_of described outer_layer
    → Found described layer outer_layer outer pus count outer_count
found described layer outer_layer outer depths pus count outer_count built deep all counts some outer_counts within =
    let levels : depths - 1 ≡ length described.levels = omega arith in
    let whole : pus ≡ product (arities described.levels) = all ∙ ap (count_at described) levels ∙ last_count described.levels in
    let arities_some = have_arities described built.sound in
    elim (count_by_depth described layer) [
      | inl none ↦ absurd (some (counts ∙ none))
      | inr counted ↦ elim (count_by_depth described outer_layer) [
        | inl none ↦ absurd (omega (arith, none, within))
        | inr outer_counted ↦
            let width = found_width described (layer_depth described layer) pus count arities_some whole (counts ∙ counted) in
            record {
              counted = counted;
              within = omega (arith, within, outer_counted);
              width = width;
              outer_width = found_width described (layer_depth described outer_layer) pus outer_count arities_some whole
                  (outer_counts ∙ outer_counted);
              some = omega (arith, width, some_width described built (layer_depth described layer));
            }
      ]
    ]
