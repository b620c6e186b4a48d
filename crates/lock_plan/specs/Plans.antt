-- The plan that three texts describe for a topology, and the first rule that they break.
use Rattle.std.specs.Prelude.{◌≡◌, ◌⊎◌, ℕ, ◌+◌, ◌-◌, ◌≤◌, ◌==◌, ◌&&◌, ◌||◌, Bool, nat_le, nat_lt, List, [], length, All}
use Rattle.std.specs.Prelude.{replicate, slice_index, codes, find, Option, Some, None, option_map, unwrap_or, if◌then◌else◌}
use Rattle.std.specs.List.{range_with_len}
use Rattle.std.specs.Option.{option_or}
use Rattle.std.specs.Str.{bytes_eq}
use Rattle.synth_text.specs.declared.description.Description.{Description}
use Rattle.synth_text.specs.IndexTexts.{entries_of}
use Rattle.topo_tree.specs.Naming.{depth_named}
use Rattle.lock_select.specs.Nodes.{AreLevels, level_limit}
use Rattle.lock_select.specs.Texts.{keep_limit, keep_of}
use Rattle.lock_plan.specs.declared.kind.LockKind.{LockKind}
use Rattle.lock_plan.specs.declared.kind.LockKind.TheVariants.{Tkt, Mcs, Clh, Hem, TktC, McsC, ClhC, HemC}
use Rattle.run_faults.specs.declared.plan.PlanFault.{PlanFault}
use Rattle.run_faults.specs.declared.plan.PlanFault.TheVariants.{LevelUnknown, TooDeep, LevelOrder, LockUnknown, Lengths, KeepRange}
use Rattle.lock_plan.specs.declared.plan.Plan.{Plan}
use Rattle.lock_plan.specs.Lists.{comma_list, dash_list, first_unknown}

-- the kind of lock that a word names
unfoldable pub kind_named : List ℕ → Option LockKind
kind_named word =
    if bytes_eq word (codes "tkt") then Some Tkt
    else (if bytes_eq word (codes "mcs") then Some Mcs
    else (if bytes_eq word (codes "clh") then Some Clh
    else (if bytes_eq word (codes "hem") then Some Hem
    else (if bytes_eq word (codes "tktc") then Some TktC
    else (if bytes_eq word (codes "mcsc") then Some McsC
    else (if bytes_eq word (codes "clhc") then Some ClhC
    else (if bytes_eq word (codes "hemc") then Some HemC else None)))))))

-- ---- what is planned

-- the kind of each level's locks; where none are given, they are MCS
abbrev pub AreKinds : ℕ → Option (List ℕ) → List LockKind → Type 0
AreKinds levels None kinds = kinds ≡ replicate levels Mcs
AreKinds levels (Some text) kinds = (entries_of kind_named (dash_list text) ≡ Some kinds) × (length kinds ≡ levels)

-- one number for every level below the top, or as many as there are such levels
abbrev pub are_enough : ℕ → ℕ → Bool
are_enough levels given = given == 1 || given == levels - 1

-- the keeps of the levels below the top by the numbers that are given: a lone one is that of each
abbrev pub keeps_by : ℕ → List ℕ → List ℕ
keeps_by levels given = if length given == 1 then replicate (levels - 1) (slice_index given 0) else given

-- how many turns in a row each level below the top keeps the lock above
pub record AreKeeps (levels : ℕ) (text keeps : List ℕ) : Type 0 where
  pub given : List ℕ
  pub says : entries_of keep_of (comma_list text) ≡ Some given
  pub enough : (length given ≡ 1) ⊎ (length given ≡ levels - 1)
  pub keeps_are : keeps ≡ keeps_by levels given

-- The plan that the texts of the levels, of their kinds of lock and of the keeps describe: each name is that of a depth, these are the
-- levels of a lock, the lowest first, and each of them has its kind and each below the top its keep.
pub record IsPlan (described : Description) (levels : List ℕ) (locks : Option (List ℕ)) (keeps : List ℕ) (plan : Plan) : Type 0 where
  pub named : entries_of (depth_named described) (comma_list levels) ≡ Some plan.depths
  pub levels_are : AreLevels described plan.depths
  pub kinds_are : AreKinds (length plan.depths) locks plan.kinds
  pub keeps_are : AreKeeps (length plan.depths) keeps plan.keeps

-- what every plan for a topology keeps
pub record IsPlanFor (described : Description) (plan : Plan) : Type 0 where
  pub levels_are : AreLevels described plan.depths
  pub kinds_each : length plan.kinds ≡ length plan.depths
  pub keeps_below : length plan.keeps ≡ length plan.depths - 1
  pub few : All (λ keep. keep ≤ keep_limit) plan.keeps

-- ---- what is refused

-- the depths that names have, where each has one
abbrev pub depths_named : Description → List (List ℕ) → List ℕ
depths_named described names = unwrap_or (entries_of (depth_named described) names) []

-- a depth isn't further up than the one before, or it is the last and not Machine's
abbrev pub is_misplaced : List ℕ → ℕ → Bool
is_misplaced depths place =
    (nat_lt 0 place && nat_le (slice_index depths (place - 1)) (slice_index depths place))
    || (place + 1 == length depths && nat_lt 0 (slice_index depths place))

-- the place of the first such depth
unfoldable pub first_misplaced : List ℕ → Option ℕ
first_misplaced depths = find (is_misplaced depths) (range_with_len 0 (length depths))

-- the names of the levels: the first that no depth has; that there are too many; the first whose depth stands wrongly
abbrev pub level_fault : Description → List (List ℕ) → Option PlanFault
level_fault described names =
    option_or (option_map LevelUnknown (first_unknown (depth_named described) names))
    (option_or (if nat_lt level_limit (length names) then Some TooDeep else None)
    (option_map LevelOrder (first_misplaced (depths_named described names))))

-- the names of the locks of so many levels: the first that no kind has; that there are not as many as levels
abbrev pub lock_fault : ℕ → Option (List ℕ) → Option PlanFault
lock_fault levels None = None
lock_fault levels (Some text) =
    option_or (option_map LockUnknown (first_unknown kind_named (dash_list text)))
    (if length (dash_list text) == levels then None else Some (Lengths levels (length (dash_list text))))

-- the keeps of so many levels: the first that is no keep; that there are neither one nor as many as levels below the top
abbrev pub keep_fault : ℕ → List (List ℕ) → Option PlanFault
keep_fault levels given =
    option_or (option_map KeepRange (first_unknown keep_of given))
    (if are_enough levels (length given) then None else Some (Lengths levels (length given)))

-- the first broken rule
unfoldable pub plan_fault : Description → List ℕ → Option (List ℕ) → List ℕ → Option PlanFault
plan_fault described levels locks keeps =
    option_or (level_fault described (comma_list levels))
    (option_or (lock_fault (length (comma_list levels)) locks)
    (keep_fault (length (comma_list levels)) (comma_list keeps)))

abbrev pub PlanRefused : Description → List ℕ → Option (List ℕ) → List ℕ → PlanFault → Type 0
PlanRefused described levels locks keeps fault = plan_fault described levels locks keeps ≡ Some fault
