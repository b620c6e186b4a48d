-- The order of the levels of a lock.
use Rattle.std.proofs.Common.{◌≡◌, ℕ, zero, suc, ◌+◌, ◌-◌, ◌<◌, ◌≤◌, false, List, [], ◌∷◌, ◌++◌, length}
use Rattle.std.proofs.Common.{take, drop}
use Rattle.std.proofs.Common.{None, refl, ap, ◌∙◌, subst, arith}
use Rattle.std.specs.Prelude.{All, slice_index}
use Rattle.std.specs.List.{AllPairs}
use Rattle.std.proofs.lemmas.Bool.Decides.{nat_tests}
use Rattle.std.proofs.lemmas.List.{get_or-append_right, drop_all}
use Rattle.std.proofs.lemmas.Grind.{get_or_default_zero}
use Rattle.byte_text.proofs.CutLaws.{split_element}
use Rattle.synth_text.specs.declared.description.Description.{Description}
use Rattle.topo_tree.specs.Objects.{depth_count}
use Rattle.topo_tree.proofs.Faults.{find_none, find_none_says}
use Rattle.lock_select.specs.Nodes.{AreLevels, level_limit}
use Rattle.lock_select.proofs.NodeLaws.{some_levels}
use Rattle.lock_plan.specs.Plans.{is_misplaced, first_misplaced}

-- ---- a depth that stands rightly

module _ (depths : List ℕ) where
  placed_above : (place : ℕ) → is_misplaced depths place ≡ false → 0 < place
      → slice_index depths place < slice_index depths (place - 1)
  placed_above place right behind = grind (arith, nat_tests)

  placed_last : (place : ℕ) → is_misplaced depths place ≡ false → place + 1 ≡ length depths → slice_index depths place ≡ 0
  placed_last place right last = grind (arith, nat_tests)

  rightly : (place : ℕ) → (0 < place → slice_index depths place < slice_index depths (place - 1))
      → (place + 1 ≡ length depths → slice_index depths place ≡ 0) → is_misplaced depths place ≡ false
  rightly place above last = grind (arith, nat_tests)

  -- none is misplaced
  abbrev pub ArePlaced : Type 0
  ArePlaced = (place : ℕ) → place < length depths → is_misplaced depths place ≡ false

  pub placed_from : first_misplaced depths ≡ None → ArePlaced
  unfolding first_misplaced
  placed_from none place within = find_none_says (is_misplaced depths) (length depths) 0 none place (omega arith) (omega arith)

  pub none_from : ArePlaced → first_misplaced depths ≡ None
  unfolding first_misplaced
  none_from placed = find_none (is_misplaced depths) (length depths) 0 (λ place from to. placed place (omega arith))

  -- each depth is further up than those before
  falls_by : ArePlaced → (lower gap : ℕ) → lower + suc gap < length depths
      → slice_index depths (lower + suc gap) < slice_index depths lower
  falls_by placed lower zero within =
      let e : lower + suc zero - 1 ≡ lower = omega arith in
      let step = placed_above (lower + suc zero) (placed (lower + suc zero) within) (omega arith) in
      subst (λ (n : ℕ). slice_index depths (lower + suc zero) < slice_index depths n) e step
  falls_by placed lower (suc gap) within =
      let e : lower + suc (suc gap) - 1 ≡ lower + suc gap = omega arith in
      let step : slice_index depths (lower + suc (suc gap)) < slice_index depths (lower + suc gap) =
      subst (λ (n : ℕ). slice_index depths (lower + suc (suc gap)) < slice_index depths n) e
      (placed_above (lower + suc (suc gap)) (placed (lower + suc (suc gap)) within) (omega arith)) in
      let before = falls_by placed lower gap (omega arith) in
      omega (arith, step, before)

  falls : ArePlaced → AllPairs (λ lower upper. upper < lower) depths
  falls placed i j d less within =
      let e : i + suc (j - i - 1) ≡ j = omega arith in
      let here = get_or_default_zero depths i d (omega arith) in
      let later = get_or_default_zero depths j d within in
      let down : slice_index depths j < slice_index depths i =
      subst (λ (n : ℕ). slice_index depths n < slice_index depths i) e (falls_by placed i (j - i - 1) (omega arith)) in
      omega (arith, here, later, down)

  -- the last is Machine
  machine_last : ArePlaced → 1 ≤ length depths → depths ≡ take (length depths - 1) depths ++ 0 ∷ []
  machine_last placed some =
      let top : length depths - 1 < length depths = omega arith in
      let last = placed_last (length depths - 1) (placed (length depths - 1) top) (omega arith) in
      let after : drop (length depths - 1 + 1) depths ≡ [] = drop_all (length depths - 1 + 1) depths (omega arith) in
      split_element depths (length depths - 1) top
      ∙ ap (λ (n : ℕ). take (length depths - 1) depths ++ n ∷ drop (length depths - 1 + 1) depths) last
      ∙ ap (λ (xs : List ℕ). take (length depths - 1) depths ++ 0 ∷ xs) after

  module _ (described : Description) where
    pub levels_from : length depths ≤ level_limit → 1 ≤ length depths → All (λ depth. depth < depth_count described) depths → ArePlaced
        → AreLevels described depths
    levels_from few some within placed = record {
      few = few;
      within = within;
      falling = falls placed;
      lower = take (length depths - 1) depths;
      ends = machine_last placed some;
    }

    last_of : (levels : AreLevels described depths) → (place : ℕ) → place + 1 ≡ length depths → slice_index depths place ≡ 0
    last_of levels place last =
        let some = some_levels described depths levels in
        let at : place ≡ length levels.lower = omega (arith, some, last) in
        ap (λ (ds : List ℕ). slice_index ds place) levels.ends
        ∙ get_or-append_right levels.lower (0 ∷ []) (length levels.lower) place 0 refl (omega (arith, at))
        ∙ ap (slice_index (0 ∷ [])) (let e : place - length levels.lower ≡ 0 = omega (arith, at) in e)

    pub placed_by : AreLevels described depths → ArePlaced
    placed_by levels place within =
        rightly place (λ behind. levels.falling (place - 1) place 0 (omega arith) within) (last_of levels place)
