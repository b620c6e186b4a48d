-- The shape of a plan is a tree of levels.
use Rattle.std.proofs.Common.{◌≡◌, ℕ, ◌+◌, ◌-◌, ◌<◌, List, [], ◌∷◌, length, get_or, replicate}
use Rattle.std.proofs.Common.{refl, sym, ap, ◌∙◌, subst, arith}
use Rattle.std.specs.Prelude.{All, slice_index, slice_index_or}
use Rattle.std.proofs.lemmas.List.{length-map, get_or-map, length-replicate, get_or-replicate, nil_from_length, ext_get_or}
use Rattle.std.proofs.lemmas.List.Elements.{All-get_or, Contains-get_or}
use Rattle.std.proofs.lemmas.Grind.{get_or_default_zero}
use Rattle.synth_text.specs.declared.description.Description.{Description}
use Rattle.synth_text.specs.Rules.{pu_count}
use Rattle.synth_text.specs.Sound.{IsSound}
use Rattle.topo_tree.specs.Coverage.{object_over}
use Rattle.topo_tree.proofs.OverLaws.{same_up, over_machine}
use Rattle.keep_local.specs.declared.shape.Shape.{Shape}
use Rattle.keep_local.specs.Shapes.{top_of, callers_of, node_of, HasNode}
use Rattle.lock_select.specs.Nodes.{AreLevels}
use Rattle.lock_select.proofs.NodeLaws.{some_levels, top_depth, depth_within}
use Rattle.lock_plan.specs.declared.plan.Plan.{Plan}
use Rattle.lock_plan.specs.Plans.{IsPlanFor}
use Rattle.lock_plan.specs.Shapes.{occupied, node_on, path_on, IsShapeOf}
use Rattle.lock_plan.specs.Laws.{IsTree, ShapesAreTrees, OneLevel}
use Rattle.lock_plan.proofs.Ranks.{place_is, place_low, occupied_rises, occupied_has, occupied_by, node_is}

module _ (described : Description) (pus : List ℕ) (sound : IsSound described) (known : All (λ pu. pu < pu_count described) pus) where
  -- at the node of a caller stands the object over its PU
  record IsNode (depth caller node : ℕ) : Type 0 where
    within : node < length (occupied described pus depth)
    object : get_or (occupied described pus depth) node 0 ≡ object_over described depth (get_or pus caller 0)
    node_is : node_on described pus depth (get_or pus caller 0) ≡ node

  abbrev at : ℕ → ℕ
  at caller = get_or pus caller 0

  -- a place among the objects of a depth is the node of each caller under the object there
  node_at : (depth caller place : ℕ) → place < length (occupied described pus depth)
      → get_or (occupied described pus depth) place 0 ≡ object_over described depth (at caller) → IsNode depth caller place
  node_at depth caller place within is =
      let objects = occupied described pus depth in
      let own = object_over described depth (at caller) in
      record {
        within = within;
        object = is;
        node_is = sym (node_is described depth pus objects own (at caller) refl refl)
            ∙ place_is objects (occupied_rises described depth pus) place own within is;
      }

  has_node : (depth caller : ℕ) → caller < length pus → IsNode depth caller (node_on described pus depth (at caller))
  has_node depth caller here =
      let inside = occupied_has described depth pus caller sound known here in
      let found = get_or_default_zero (occupied described pus depth) inside.0 (object_over described depth (at caller)) inside.1 in
      let node = node_at depth caller inside.0 inside.1 (sym found ∙ inside.2) in
      subst (IsNode depth caller) (sym node.node_is) node

  -- callers under one object have one node, and callers of one node are under one object
  node_same : (depth v w : ℕ) → object_over described depth (at v) ≡ object_over described depth (at w)
      → node_on described pus depth (at v) ≡ node_on described pus depth (at w)
  node_same depth v w same =
      sym (node_is described depth pus (occupied described pus depth) (object_over described depth (at v)) (at v) refl refl)
      ∙ node_is described depth pus (occupied described pus depth) (object_over described depth (at v)) (at w) refl same

  object_same : (depth v w : ℕ) → v < length pus → w < length pus
      → node_on described pus depth (at v) ≡ node_on described pus depth (at w)
      → object_over described depth (at v) ≡ object_over described depth (at w)
  object_same depth v w v_here w_here same =
      sym (has_node depth v v_here).object
      ∙ ap (λ (n : ℕ). get_or (occupied described pus depth) n 0) same
      ∙ (has_node depth w w_here).object

  -- below the node of a caller stand others
  record HasOther (depth node : ℕ) : Type 0 where
    caller : ℕ
    here : caller < length pus
    node_is : node_on described pus depth (at caller) ≡ node

  others_below : (depth caller node : ℕ) → caller < length pus → node < node_on described pus depth (at caller) → HasOther depth node
  others_below depth caller node here below =
      let own = has_node depth caller here in
      let within : node < length (occupied described pus depth) = let inside = own.within in omega (arith, inside, below) in
      let other = occupied_by described depth pus (get_or (occupied described pus depth) node 0)
      (Contains-get_or (occupied described pus depth) node 0 within) in
      record { caller = other.caller; here = other.known; node_is = (node_at depth other.caller node within (sym other.over_is)).node_is }

  -- all callers have one node at Machine
  machine_node : (caller : ℕ) → caller < length pus → node_on described pus 0 (at caller) ≡ 0
  machine_node caller here =
      let own = has_node 0 caller here in
      let low = place_low (occupied described pus 0) (occupied_rises described 0 pus) (node_on described pus 0 (at caller)) own.within in
      let is = own.object in
      let zero = over_machine described (at caller) (All-get_or (λ (n : ℕ). n < pu_count described) pus caller 0 here known) in
      omega (arith, low, is, zero)

  module _ (plan : Plan) (planned : IsPlanFor described plan) (shape : Shape) (is : IsShapeOf described plan pus shape) where
    abbrev levels : AreLevels described plan.depths
    levels = planned.levels_are

    callers_are : callers_of shape ≡ length pus
    callers_are = ap length is.paths_are ∙ length-map pus (path_on described pus plan.depths)

    top_is : top_of shape ≡ length plan.depths - 1
    top_is = ap length is.keeps_are ∙ planned.keeps_below

    path_at : (caller : ℕ) → caller < length pus → slice_index_or shape.paths caller [] ≡ path_on described pus plan.depths (at caller)
    path_at caller here =
        ap (λ (paths : List (List ℕ)). slice_index_or paths caller []) is.paths_are
        ∙ get_or-map (path_on described pus plan.depths) pus caller 0 [] here

    node_of_is : (caller level : ℕ) → caller < length pus → level < length plan.depths
        → node_of shape caller level ≡ node_on described pus (slice_index plan.depths level) (at caller)
    node_of_is caller level here below =
        ap (λ (path : List ℕ). slice_index path level) (path_at caller here)
        ∙ get_or-map (λ (depth : ℕ). node_on described pus depth (at caller)) plan.depths level 0 0 below

    has_other : (caller level node : ℕ) → caller < length pus → level < length plan.depths → node < node_of shape caller level
        → HasNode shape level node
    has_other caller level node here below less =
        let own = node_of_is caller level here below in
        let other = others_below (slice_index plan.depths level) caller node here (omega (arith, own, less)) in
        let there = other.here in
        let count = callers_are in
        (other.caller, omega (arith, count, there), node_of_is other.caller level other.here below ∙ other.node_is)

    nested_in : (v w j k : ℕ) → v < length pus → w < length pus → j < k → k < length plan.depths
        → node_of shape v j ≡ node_of shape w j → node_of shape v k ≡ node_of shape w k
    nested_in v w j k v_here w_here less below same =
        let lower : j < length plan.depths = omega (arith, less, below) in
        let up : slice_index plan.depths k < slice_index plan.depths j = levels.falling j k 0 less below in
        let under = object_same (slice_index plan.depths j) v w v_here w_here
        (sym (node_of_is v j v_here lower) ∙ same ∙ node_of_is w j w_here lower) in
        node_of_is v k v_here below
        ∙ node_same (slice_index plan.depths k) v w
        (same_up described (slice_index plan.depths k) (slice_index plan.depths j) (at v) (at w) sound (omega (arith, up))
        (depth_within described plan.depths 0 sound levels j lower) under)
        ∙ sym (node_of_is w k w_here below)

    pub tree_is : IsTree plan pus shape
    tree_is =
        let top = top_is in
        let count = callers_are in
        let some = some_levels described plan.depths levels in
        let few = levels.few in
        record {
          formed = record {
            levels = omega (arith, top, few);
            whole = λ w h.
                ap length (path_at w (omega (arith, count, h)))
                ∙ length-map plan.depths (λ (depth : ℕ). node_on described pus depth (at w))
                ∙ (let e : length plan.depths ≡ top_of shape + 1 = omega (arith, top, some) in e);
            no_gaps = λ w h k below n less.
                has_other w k n (omega (arith, count, h)) (omega (arith, top, some, below)) less;
            one_top = λ w h.
                let here : w < length pus = omega (arith, count, h) in
                ap (node_of shape w) top
                ∙ node_of_is w (length plan.depths - 1) here (omega (arith, some))
                ∙ ap (λ (depth : ℕ). node_on described pus depth (at w)) (top_depth described plan.depths 0 sound levels)
                ∙ machine_node w here;
            nested = λ v w j k v_h w_h less below same.
                nested_in v w j k (omega (arith, count, v_h)) (omega (arith, count, w_h)) less (omega (arith, top, some, below)) same;
          };
          callers = count;
          top = top;
        }

pub trees : ShapesAreTrees
trees described plan pus shape built planned known is = tree_is described pus built.sound known plan planned shape is

-- ---- one level

lone_path : (path : List ℕ) → length path ≡ 1 → slice_index path 0 ≡ 0 → path ≡ 0 ∷ []
lone_path [] long is = absurd (omega (arith, long))
lone_path (node ∷ []) long is = ap (λ (n : ℕ). n ∷ []) is
lone_path (node ∷ next ∷ rest) long is = absurd (omega (arith, long))

abbrev shape_with : List (List ℕ) → List ℕ → Shape
shape_with paths keeps = record { paths = paths; keeps = keeps }

pub one_level : OneLevel
one_level described plan pus shape built planned known is one =
    let tree = trees described plan pus shape built planned known is in
    let callers = tree.callers in
    let top : top_of shape ≡ 0 = let e = tree.top in omega (arith, e, one) in
    let path = λ (w : ℕ) (here : w < callers_of shape).
    lone_path (slice_index_or shape.paths w [])
    (let e = tree.formed.whole w here in omega (arith, e, top))
    (subst (λ (k : ℕ). node_of shape w k ≡ 0) top (tree.formed.one_top w here)) in
    let paths : shape.paths ≡ replicate (length pus) (0 ∷ []) =
    ext_get_or [] shape.paths (replicate (length pus) (0 ∷ [])) (callers ∙ sym (length-replicate (length pus) (0 ∷ [])))
    (λ w here. path w here ∙ sym (get_or-replicate (length pus) w (0 ∷ []) [] (omega (arith, callers, here)))) in
    ap (λ (all : List (List ℕ)). shape_with all shape.keeps) paths
    ∙ ap (shape_with (replicate (length pus) (0 ∷ []))) (nil_from_length shape.keeps top)
