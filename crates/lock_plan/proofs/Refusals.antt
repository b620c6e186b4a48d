-- When the texts of a plan are refused.
use Rattle.std.proofs.Common.{◌≡◌, ◌⊎◌, ℕ, ◌-◌, ◌<◌, ◌≤◌, Bool, true, false, List, [], length, Option, Some, None, refl, sym, ap, ◌∙◌}
use Rattle.std.proofs.Common.{arith, eq-eqb}
use Rattle.std.specs.Prelude.{◌==◌, nat_lt, option_map, unwrap_or, if◌then◌else◌}
use Rattle.std.specs.Option.{option_or}
use Rattle.std.proofs.lemmas.Bool.{lt-ltb}
use Rattle.std.proofs.lemmas.Bool.Decides.{nat_tests}
use Rattle.synth_text.specs.declared.description.Description.{Description}
use Rattle.synth_text.specs.IndexTexts.{entries_of}
use Rattle.topo_tree.specs.Naming.{depth_named}
use Rattle.lock_select.specs.Nodes.{AreLevels, level_limit}
use Rattle.lock_select.specs.Texts.{keep_of}
use Rattle.lock_plan.specs.declared.kind.LockKind.{LockKind}
use Rattle.run_faults.specs.declared.plan.PlanFault.{PlanFault}
use Rattle.run_faults.specs.declared.plan.PlanFault.TheVariants.{LevelUnknown, TooDeep, LevelOrder, LockUnknown, Lengths, KeepRange}
use Rattle.byte_text.proofs.CutLaws.{slice_split-first_piece}
use Rattle.lock_plan.specs.Lists.{pieces_of, comma_list, dash_list, first_unknown}
use Rattle.lock_plan.specs.Plans.{kind_named, AreKinds, are_enough, AreKeeps, depths_named, first_misplaced, level_fault}
use Rattle.lock_plan.specs.Plans.{lock_fault, keep_fault, plan_fault}
use Rattle.lock_plan.proofs.Readings.{known_from_entries, length-entries}
use Rattle.lock_plan.proofs.Order.{none_from, placed_by}

-- ---- the levels

module _ (described : Description) (names : List (List ℕ)) where
  pub level_unknown : (place : ℕ) → first_unknown (depth_named described) names ≡ Some place
      → level_fault described names ≡ Some (LevelUnknown place)
  level_unknown place unknown = rw unknown refl

  module _ (depths : List ℕ) (said : entries_of (depth_named described) names ≡ Some depths) where
    levels_known : (option_map LevelUnknown (first_unknown (depth_named described) names)) ≡ None
    levels_known = ap (option_map LevelUnknown) (known_from_entries (depth_named described) names depths said)

    orders : option_map LevelOrder (first_misplaced (depths_named described names)) ≡ option_map LevelOrder (first_misplaced depths)
    orders = ap (λ (o : Option (List ℕ)). option_map LevelOrder (first_misplaced (unwrap_or o []))) said

    count : length names ≡ length depths
    count = sym (length-entries (depth_named described) names depths said)

    pub too_deep : level_limit < length depths → level_fault described names ≡ Some TooDeep
    too_deep many =
        ap (λ (o : Option PlanFault). option_or o (option_or (if nat_lt level_limit (length names) then Some TooDeep else None)
        (option_map LevelOrder (first_misplaced (depths_named described names))))) levels_known
        ∙ ap (λ (b : Bool). option_or (if b then Some TooDeep else None)
        (option_map LevelOrder (first_misplaced (depths_named described names))))
        (lt-ltb level_limit (length names) (omega (arith, count, many)))

    few : length depths ≤ level_limit → nat_lt level_limit (length names) ≡ false
    few low = let at = count in grind (arith, nat_tests)

    pub in_order : length depths ≤ level_limit → level_fault described names ≡ option_map LevelOrder (first_misplaced depths)
    in_order low =
        ap (λ (o : Option PlanFault). option_or o (option_or (if nat_lt level_limit (length names) then Some TooDeep else None)
        (option_map LevelOrder (first_misplaced (depths_named described names))))) levels_known
        ∙ ap (λ (b : Bool). option_or (if b then Some TooDeep else None)
        (option_map LevelOrder (first_misplaced (depths_named described names)))) (few low)
        ∙ orders

    pub levels_good : AreLevels described depths → level_fault described names ≡ None
    levels_good levels = in_order levels.few ∙ ap (option_map LevelOrder) (none_from depths (placed_by depths described levels))

-- ---- the locks

module _ (levels : ℕ) (text : List ℕ) where
  pub lock_unknown : (place : ℕ) → first_unknown kind_named (dash_list text) ≡ Some place
      → lock_fault levels (Some text) ≡ Some (LockUnknown place)
  lock_unknown place unknown = rw unknown refl

  pub locks_counted : (kinds : List LockKind) → entries_of kind_named (dash_list text) ≡ Some kinds
      → lock_fault levels (Some text) ≡ (if length kinds == levels then None else Some (Lengths levels (length kinds)))
  locks_counted kinds said =
      ap (λ (o : Option ℕ). option_or (option_map LockUnknown o)
      (if length (dash_list text) == levels then None else Some (Lengths levels (length (dash_list text)))))
      (known_from_entries kind_named (dash_list text) kinds said)
      ∙ ap (λ (n : ℕ). if n == levels then None else Some (Lengths levels n))
      (sym (length-entries kind_named (dash_list text) kinds said))

pub locks_good : (levels : ℕ) (locks : Option (List ℕ)) (kinds : List LockKind) → AreKinds levels locks kinds
    → lock_fault levels locks ≡ None
locks_good levels None kinds are = refl
locks_good levels (Some text) kinds are =
    locks_counted levels text kinds are.0
    ∙ ap (λ (b : Bool). if b then None else Some (Lengths levels (length kinds))) (eq-eqb (length kinds) levels are.1)

-- ---- the keeps

module _ (levels : ℕ) (pieces : List (List ℕ)) where
  pub keep_unknown : (place : ℕ) → first_unknown keep_of pieces ≡ Some place → keep_fault levels pieces ≡ Some (KeepRange place)
  keep_unknown place unknown = rw unknown refl

  pub keeps_counted : (given : List ℕ) → entries_of keep_of pieces ≡ Some given
      → keep_fault levels pieces ≡ (if are_enough levels (length given) then None else Some (Lengths levels (length given)))
  keeps_counted given said =
      ap (λ (o : Option ℕ). option_or (option_map KeepRange o)
      (if are_enough levels (length pieces) then None else Some (Lengths levels (length pieces))))
      (known_from_entries keep_of pieces given said)
      ∙ ap (λ (n : ℕ). if are_enough levels n then None else Some (Lengths levels n)) (sym (length-entries keep_of pieces given said))

pub enough_from : (levels given : ℕ) → (given ≡ 1) ⊎ (given ≡ levels - 1) → are_enough levels given ≡ true
enough_from levels given enough = grind (arith, nat_tests)

pub enough_says : (levels given : ℕ) → are_enough levels given ≡ true → (given ≡ 1) ⊎ (given ≡ levels - 1)
enough_says levels given enough = grind (arith, nat_tests)

pub keeps_good : (levels : ℕ) (text keeps : List ℕ) → AreKeeps levels text keeps → keep_fault levels (comma_list text) ≡ None
keeps_good levels text keeps are =
    keeps_counted levels (comma_list text) are.given are.says
    ∙ ap (λ (b : Bool). if b then None else Some (Lengths levels (length are.given))) (enough_from levels (length are.given) are.enough)

-- ---- the plan

module _ (described : Description) (levels : List ℕ) (locks : Option (List ℕ)) (keeps : List ℕ) where
  pub plan_levels : (fault : PlanFault) → level_fault described (comma_list levels) ≡ Some fault
      → plan_fault described levels locks keeps ≡ Some fault
  unfolding plan_fault
  plan_levels fault refused =
      ap (λ (o : Option PlanFault). option_or o (option_or (lock_fault (length (comma_list levels)) locks)
      (keep_fault (length (comma_list levels)) (comma_list keeps)))) refused

  module _ (depths : List ℕ) (said : entries_of (depth_named described) (comma_list levels) ≡ Some depths)
      (are : AreLevels described depths) where
    good_levels : plan_fault described levels locks keeps
        ≡ option_or (lock_fault (length depths) locks) (keep_fault (length depths) (comma_list keeps))
    unfolding plan_fault
    good_levels =
        ap (λ (o : Option PlanFault). option_or o (option_or (lock_fault (length (comma_list levels)) locks)
        (keep_fault (length (comma_list levels)) (comma_list keeps)))) (levels_good described (comma_list levels) depths said are)
        ∙ ap (λ (n : ℕ). option_or (lock_fault n locks) (keep_fault n (comma_list keeps)))
        (sym (length-entries (depth_named described) (comma_list levels) depths said))

    pub plan_locks : (fault : PlanFault) → lock_fault (length depths) locks ≡ Some fault
        → plan_fault described levels locks keeps ≡ Some fault
    plan_locks fault refused =
        good_levels ∙ ap (λ (o : Option PlanFault). option_or o (keep_fault (length depths) (comma_list keeps))) refused

    module _ (kinds : List LockKind) (kinds_are : AreKinds (length depths) locks kinds) where
      pub plan_keeps : plan_fault described levels locks keeps ≡ keep_fault (length depths) (comma_list keeps)
      plan_keeps =
          good_levels
          ∙ ap (λ (o : Option PlanFault). option_or o (keep_fault (length depths) (comma_list keeps)))
          (locks_good (length depths) locks kinds kinds_are)

-- a list has a piece
pub some_piece : (separator : ℕ) (text : List ℕ) → 1 ≤ length (pieces_of separator text)
some_piece separator text = omega (arith, ap length (slice_split-first_piece (λ byte. byte == separator) text))

pub not_enough : (levels given : ℕ) → (given ≡ 1 → ⊥) → (given ≡ levels - 1 → ⊥) → are_enough levels given ≡ false
not_enough levels given one all = grind (arith, nat_tests)

pub not_counted : (given levels : ℕ) → (given ≡ levels → ⊥) → (given == levels) ≡ false
not_counted given levels other = grind (arith, nat_tests)
