-- Laws of the shape of a list of levels.
use Rattle.std.proofs.Common.{◌≡◌, ℕ, zero, suc, ◌+◌, ◌-◌, ◌*◌, ◌/◌, ◌<◌, ◌≤◌, List, [], ◌∷◌, length, refl, ap, sym, ◌∙◌}
use Rattle.std.proofs.Common.{arith, length-append}
use Rattle.std.specs.Prelude.{slice_index, slice_index_or}
use Rattle.std.proofs.Math.Nat.{mul-le-mul_right, div-mul-le_self}
use Rattle.std.proofs.Math.Nat.{div-eq_of_eq-mul_left}
use Rattle.std.proofs.lemmas.List.{length-map, get_or-map, length-replicate, get_or-replicate, get_or-append_right}
use Rattle.std.proofs.lemmas.List.Elements.{All-get_or}
use Rattle.std.proofs.lemmas.List.FromFn.{length-map-range_with_len, get_or-map-range_with_len}
use Rattle.synth_text.specs.declared.description.Description.{Description}
use Rattle.synth_text.specs.Rules.{pu_count}
use Rattle.synth_text.specs.Sound.{IsSound}
use Rattle.topo_tree.specs.Objects.{depth_count}
use Rattle.topo_tree.specs.Coverage.{object_over}
use Rattle.topo_tree.proofs.OverLaws.{width_of, width_positive, same_up, over_machine}
use Rattle.keep_local.specs.Shapes.{top_of, callers_of, node_of, HasNode, IsWellFormed}
use Rattle.lock_select.specs.Nodes.{AreLevels, path_of, shape_of}
use Rattle.lock_select.specs.Laws.{LevelsMakeAShape}

-- ---- the shape

pub some_levels : (described : Description) (depths : List ℕ) → (levels : AreLevels described depths)
    → length depths ≡ length levels.lower + 1
some_levels described depths levels =
    ap length levels.ends ∙ length-append levels.lower (0 ∷ [])
    ∙ (let e : length levels.lower + suc zero ≡ length levels.lower + 1 = omega arith in e)

module _ (described : Description) (depths : List ℕ) (keep : ℕ) where
  pub top_is : top_of (shape_of described depths keep) ≡ length depths - 1
  top_is = length-replicate (length depths - 1) keep

  pub keep_is : (level : ℕ) → level < length depths - 1 → slice_index (shape_of described depths keep).keeps level ≡ keep
  keep_is level below = get_or-replicate (length depths - 1) level keep 0 below

  pub callers_are : callers_of (shape_of described depths keep) ≡ pu_count described
  callers_are = length-map-range_with_len (path_of described depths) 0 (pu_count described)

  path_is : (pu : ℕ) → pu < pu_count described
      → slice_index_or (shape_of described depths keep).paths pu [] ≡ path_of described depths pu
  path_is pu within =
      get_or-map-range_with_len (path_of described depths) 0 (pu_count described) pu pu [] within (omega arith)

  pub node_is : (pu level : ℕ) → pu < pu_count described → level < length depths
      → node_of (shape_of described depths keep) pu level ≡ object_over described (slice_index depths level) pu
  node_is pu level within below =
      ap (λ (path : List ℕ). slice_index path level) (path_is pu within)
      ∙ get_or-map (λ (depth : ℕ). object_over described depth pu) depths level 0 0 below

  module _ (sound : IsSound described) (levels : AreLevels described depths) where
    pub top_depth : slice_index depths (length depths - 1) ≡ 0
    top_depth =
        let at : length depths - 1 ≡ length levels.lower = let some = some_levels described depths levels in omega (arith, some) in
        ap (slice_index depths) at ∙ ap (λ (ds : List ℕ). slice_index ds (length levels.lower)) levels.ends
        ∙ get_or-append_right levels.lower (0 ∷ []) (length levels.lower) (length levels.lower) 0 refl (omega arith)
        ∙ ap (slice_index (0 ∷ [])) (let e : length levels.lower - length levels.lower ≡ 0 = omega arith in e)

    pub depth_within : (level : ℕ) → level < length depths → slice_index depths level < depth_count described
    depth_within level below = All-get_or (λ (depth : ℕ). depth < depth_count described) depths level 0 below levels.within

    node_below : (pu level n : ℕ) → pu < pu_count described → level < length depths
        → n < node_of (shape_of described depths keep) pu level → HasNode (shape_of described depths keep) level n
    node_below pu level n within below less =
        let depth : ℕ = slice_index depths level in
        let w : ℕ = width_of described depth in
        let positive = width_positive described depth sound in
        let at = node_is pu level within below in
        let few : n ≤ pu / w = omega (arith, at, less) in
        let low = mul-le-mul_right w few in
        let high = div-mul-le_self pu w in
        let inside : n * w < pu_count described = omega (arith, low, high, within) in
        let known = callers_are in (
          n * w,
          omega (arith, known, inside),
          node_is (n * w) level inside below ∙ div-eq_of_eq-mul_left positive refl,
        )

    pub well_formed : IsWellFormed (shape_of described depths keep)
    well_formed =
        let top = top_is in
        let some = some_levels described depths levels in
        let known = callers_are in
        record {
          levels = let few = levels.few in omega (arith, top, few);
          whole = λ pu h.
              ap length (path_is pu (omega (arith, known, h))) ∙ length-map depths (λ (depth : ℕ). object_over described depth pu)
              ∙ (let e : length depths ≡ top_of (shape_of described depths keep) + 1 = omega (arith, top, some) in e);
          no_gaps = λ pu h k below n less.
              node_below pu k n (omega (arith, known, h)) (omega (arith, top, some, below)) less;
          one_top = λ pu h.
              let within : pu < pu_count described = omega (arith, known, h) in
              ap (node_of (shape_of described depths keep) pu) top
              ∙ node_is pu (length depths - 1) within (omega (arith, some))
              ∙ ap (λ (depth : ℕ). object_over described depth pu) top_depth
              ∙ over_machine described pu within;
          nested = λ v u j k v_known u_known less below same.
              let v_within : v < pu_count described = omega (arith, known, v_known) in
              let u_within : u < pu_count described = omega (arith, known, u_known) in
              let k_below : k < length depths = omega (arith, top, some, below) in
              let j_below : j < length depths = omega (arith, less, k_below) in
              let falls : slice_index depths k < slice_index depths j = levels.falling j k 0 less k_below in
              node_is v k v_within k_below
              ∙ same_up described (slice_index depths k) (slice_index depths j) v u sound (omega (arith, falls)) (depth_within j j_below)
              (sym (node_is v j v_within j_below) ∙ same ∙ node_is u j u_within j_below)
              ∙ sym (node_is u k u_within k_below);
        }

pub make_a_shape : LevelsMakeAShape
make_a_shape described depths keep built levels = record {
  formed = well_formed described depths keep built.sound levels;
  callers = callers_are described depths keep;
}
