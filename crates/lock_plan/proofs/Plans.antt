-- What every plan of some texts keeps, and that texts have a plan or are refused.
use Rattle.std.proofs.Common.{◌≡◌, ◌⊎◌, ℕ, ◌-◌, ◌<◌, ◌≤◌, Bool, true, false, List, [], length, Option, Some, None, refl, sym, ap, ◌∙◌}
use Rattle.std.proofs.Common.{inl, inr, arith, subst}
use Rattle.std.specs.Prelude.{◌==◌, ◌&&◌, nat_lt, option_map, if◌then◌else◌, replicate, All, slice_index, unwrap_or}
use Rattle.std.specs.Option.{option_or}
use Rattle.std.proofs.lemmas.Bool.{cases_Bool, eqb-true, eqb-false}
use Rattle.std.proofs.lemmas.Bool.Decides.{nat_tests}
use Rattle.std.proofs.lemmas.List.{length-replicate, get_or-replicate}
use Rattle.std.proofs.lemmas.List.Elements.{All-from_recursion, All-from_get_or, All-get_or}
use Rattle.out_of_memory.specs.Memory.{UnlessMemory}
use Rattle.byte_text.specs.Numerals.{number_below, is_decimal}
use Rattle.std.specs.Str.Parse.{digits_value}
use Rattle.synth_text.specs.declared.description.Description.{Description}
use Rattle.synth_text.specs.IndexTexts.{entries_of}
use Rattle.synth_text.specs.Sound.{IsSound}
use Rattle.topo_tree.specs.Objects.{depth_count}
use Rattle.topo_tree.specs.Naming.{depth_named}
use Rattle.lock_select.specs.Nodes.{AreLevels, level_limit}
use Rattle.lock_select.specs.Texts.{keep_of, keep_limit}
use Rattle.lock_plan.specs.declared.kind.LockKind.{LockKind}
use Rattle.lock_plan.specs.declared.kind.LockKind.TheVariants.{Mcs}
use Rattle.lock_plan.specs.declared.plan.Plan.{Plan}
use Rattle.run_faults.specs.declared.plan.PlanFault.{PlanFault}
use Rattle.run_faults.specs.declared.plan.PlanFault.TheVariants.{LevelUnknown, TooDeep, LevelOrder, LockUnknown, Lengths}
use Rattle.run_faults.specs.declared.plan.PlanFault.TheVariants.{KeepRange, OutOfMemory}
use Rattle.lock_plan.specs.Lists.{comma_list, dash_list, first_unknown}
use Rattle.lock_plan.specs.Plans.{kind_named, AreKinds, are_enough, keeps_by, AreKeeps, IsPlanFor, depths_named}
use Rattle.lock_plan.specs.Plans.{first_misplaced, level_fault, lock_fault, keep_fault, plan_fault, PlanRefused}
use Rattle.lock_plan.specs.Laws.{NotBoth, PlanOrRefusal}
use Rattle.lock_plan.proofs.Named.{named_within}
use Rattle.lock_plan.proofs.Order.{levels_from, placed_from}
use Rattle.lock_plan.proofs.Readings.{All-entries, length-entries, entries_from_known}
use Rattle.lock_plan.proofs.Refusals.{plan_levels, plan_locks, plan_keeps, keeps_good, enough_says, some_piece}

-- ---- what a plan keeps

if_some : (b : Bool) (n limit keep : ℕ) → (b ≡ true → n < limit) → (if b then Some n else None) ≡ Some keep → keep < limit
if_some true n limit keep low is = subst (λ (k : ℕ). k < limit) (let e : n ≡ keep = cc in e) (low refl)
if_some false n limit keep low is = absurd cc

both_low : (test : Bool) (n limit : ℕ) → (test && nat_lt n limit) ≡ true → n < limit
both_low test n limit both = grind (arith, nat_tests)

number_low : (test : Bool) (n limit keep : ℕ) → (if test && nat_lt n limit then Some n else None) ≡ Some keep → keep < limit
number_low test n limit keep is = if_some (test && nat_lt n limit) n limit keep (λ both. both_low test n limit both) is

pub keep_low : (piece : List ℕ) (keep : ℕ) → keep_of piece ≡ Some keep → keep ≤ keep_limit
unfolding keep_of number_below
keep_low piece keep is =
    let low = number_low (is_decimal piece) (digits_value 10 piece) 65536 keep is in
    omega (arith, low)

given_few : (text given : List ℕ) → entries_of keep_of (comma_list text) ≡ Some given → All (λ keep. keep ≤ keep_limit) given
given_few text given said =
    All-from_recursion (λ (keep : ℕ). keep ≤ keep_limit) given
    (All-entries keep_of (λ (keep : ℕ). keep ≤ keep_limit) keep_low (comma_list text) given said)

-- a lone keep is that of each level below the top
record Spread (levels : ℕ) (keeps : List ℕ) : Type 0 where
  long : length keeps ≡ levels - 1
  few : All (λ keep. keep ≤ keep_limit) keeps

lone : (levels keep : ℕ) → keep ≤ keep_limit → Spread levels (replicate (levels - 1) keep)
lone levels keep low = record {
  long = length-replicate (levels - 1) keep;
  few = All-from_get_or (λ (k : ℕ). k ≤ keep_limit) (replicate (levels - 1) keep) 0 (λ i within.
      let at = get_or-replicate (levels - 1) i keep 0 (omega (arith, within, length-replicate (levels - 1) keep)) in
      omega (arith, at, low));
}

spread : (levels : ℕ) (given : List ℕ) → (length given ≡ 1) ⊎ (length given ≡ levels - 1) → All (λ keep. keep ≤ keep_limit) given
    → Spread levels (keeps_by levels given)
spread levels given enough few =
    elim (cases_Bool (length given == 1)) [
      | inl one ↦ let some : 0 < length given = let e = eqb-true (length given) 1 one in omega (arith, e) in
          let first = All-get_or (λ (k : ℕ). k ≤ keep_limit) given 0 0 some few in
          subst (Spread levels) (sym (ap (λ (b : Bool). if b then replicate (levels - 1) (slice_index given 0) else given) one))
          (lone levels (slice_index given 0) first)
      | inr other ↦ let no = eqb-false (length given) 1 other in
          subst (Spread levels) (sym (ap (λ (b : Bool). if b then replicate (levels - 1) (slice_index given 0) else given) other))
          (record { long = elim enough [ inl one ↦ absurd (no one) | inr all ↦ all ]; few = few })
    ]

kinds_each : (levels : ℕ) (locks : Option (List ℕ)) (kinds : List LockKind) → AreKinds levels locks kinds → length kinds ≡ levels
kinds_each levels None kinds are = ap length are ∙ length-replicate levels Mcs
kinds_each levels (Some text) kinds are = are.1

pub plan_is_for : (described : Description) (locks : Option (List ℕ)) (keeps : List ℕ) (plan : Plan) → AreLevels described plan.depths
    → AreKinds (length plan.depths) locks plan.kinds → AreKeeps (length plan.depths) keeps plan.keeps → IsPlanFor described plan
plan_is_for described locks keeps plan levels kinds are =
    let whole : Spread (length plan.depths) plan.keeps =
    subst (Spread (length plan.depths)) (sym are.keeps_are)
    (spread (length plan.depths) are.given are.enough (given_few keeps are.given are.says)) in
    record {
      levels_are = levels;
      kinds_each = kinds_each (length plan.depths) locks plan.kinds kinds;
      keeps_below = whole.long;
      few = whole.few;
    }

-- ---- what is refused for a part

module _ (described : Description) (levels : List ℕ) (locks : Option (List ℕ)) (keeps : List ℕ) (fault : PlanFault) where
  pub levels_refuse : UnlessMemory OutOfMemory fault (level_fault described (comma_list levels) ≡ Some fault)
      → UnlessMemory OutOfMemory fault (PlanRefused described levels locks keeps fault)
  levels_refuse (inl refused) = inl (plan_levels described levels locks keeps fault refused)
  levels_refuse (inr memory) = inr memory

  module _ (depths : List ℕ) (said : entries_of (depth_named described) (comma_list levels) ≡ Some depths)
      (are : AreLevels described depths) where
    pub locks_refuse : UnlessMemory OutOfMemory fault (lock_fault (length depths) locks ≡ Some fault)
        → UnlessMemory OutOfMemory fault (PlanRefused described levels locks keeps fault)
    locks_refuse (inl refused) = inl (plan_locks described levels locks keeps depths said are fault refused)
    locks_refuse (inr memory) = inr memory

    pub keeps_refuse : (kinds : List LockKind) → AreKinds (length depths) locks kinds
        → UnlessMemory OutOfMemory fault (keep_fault (length depths) (comma_list keeps) ≡ Some fault)
        → UnlessMemory OutOfMemory fault (PlanRefused described levels locks keeps fault)
    keeps_refuse kinds kinds_are (inl refused) =
        inl (plan_keeps described levels locks keeps depths said are kinds kinds_are ∙ refused)
    keeps_refuse kinds kinds_are (inr memory) = inr memory

-- ---- a plan or a refusal

or_none : (one other : Option PlanFault) → option_or one other ≡ None → (one ≡ None) × (other ≡ None)
or_none None other none = (refl, none)
or_none (Some fault) other none = absurd cc

map_none : (f : ℕ → PlanFault) (o : Option ℕ) → option_map f o ≡ None → o ≡ None
map_none f None none = refl
map_none f (Some n) none = absurd cc

not_deep : (count : ℕ) → (if nat_lt level_limit count then Some TooDeep else None) ≡ None → count ≤ level_limit
not_deep count none =
    elim (cases_Bool (nat_lt level_limit count)) [
      | inl deep ↦ absurd (let e : Some TooDeep ≡ None = sym (ap (λ (b : Bool). if b then Some TooDeep else None) deep) ∙ none in cc)
      | inr few ↦ grind (arith, nat_tests)
    ]

passes : (b : Bool) (fault : PlanFault) → (if b then None else Some fault) ≡ None → b ≡ true
passes true fault none = refl
passes false fault none = absurd cc

record HasLevels (described : Description) (text : List ℕ) : Type 0 where
  depths : List ℕ
  said : entries_of (depth_named described) (comma_list text) ≡ Some depths
  are : AreLevels described depths

levels_found : (described : Description) (text : List ℕ) → IsSound described → level_fault described (comma_list text) ≡ None
    → HasLevels described text
levels_found described text sound none =
    let names : List (List ℕ) = comma_list text in
    let says : List ℕ → Option ℕ = depth_named described in
    let first = or_none (option_map LevelUnknown (first_unknown says names))
    (option_or (if nat_lt level_limit (length names) then Some TooDeep else None)
    (option_map LevelOrder (first_misplaced (depths_named described names)))) none in
    let second = or_none (if nat_lt level_limit (length names) then Some TooDeep else None)
    (option_map LevelOrder (first_misplaced (depths_named described names))) first.1 in
    let read = entries_from_known says names (map_none LevelUnknown (first_unknown says names) first.0) in
    let few = not_deep (length names) second.0 in
    let count = length-entries says names read.all read.said in
    let some = some_piece 44 text in
    let order = sym (ap (λ (o : Option (List ℕ)). first_misplaced (unwrap_or o [])) read.said)
    ∙ map_none LevelOrder (first_misplaced (depths_named described names)) second.1 in
    let within = All-entries says (λ (depth : ℕ). depth < depth_count described)
    (λ word depth. named_within described word depth sound) names read.all read.said in
    record {
      depths = read.all;
      said = read.said;
      are = levels_from read.all described (omega (arith, count, few)) (omega (arith, count, some))
          (All-from_recursion (λ (depth : ℕ). depth < depth_count described) read.all within) (placed_from read.all order);
    }

record HasKinds (levels : ℕ) (locks : Option (List ℕ)) : Type 0 where
  kinds : List LockKind
  are : AreKinds levels locks kinds

kinds_found : (levels : ℕ) (locks : Option (List ℕ)) → lock_fault levels locks ≡ None → HasKinds levels locks
kinds_found levels None none = record { kinds = replicate levels Mcs; are = refl }
kinds_found levels (Some text) none =
    let pieces : List (List ℕ) = dash_list text in
    let parts = or_none (option_map LockUnknown (first_unknown kind_named pieces))
    (if length pieces == levels then None else Some (Lengths levels (length pieces))) none in
    let read = entries_from_known kind_named pieces (map_none LockUnknown (first_unknown kind_named pieces) parts.0) in
    let count = length-entries kind_named pieces read.all read.said in
    let all = eqb-true (length pieces) levels (passes (length pieces == levels) (Lengths levels (length pieces)) parts.1) in
    record { kinds = read.all; are = (read.said, count ∙ all) }

record HasKeeps (levels : ℕ) (text : List ℕ) : Type 0 where
  keeps : List ℕ
  are : AreKeeps levels text keeps

keeps_found : (levels : ℕ) (text : List ℕ) → keep_fault levels (comma_list text) ≡ None → HasKeeps levels text
keeps_found levels text none =
    let pieces : List (List ℕ) = comma_list text in
    let parts = or_none (option_map KeepRange (first_unknown keep_of pieces))
    (if are_enough levels (length pieces) then None else Some (Lengths levels (length pieces))) none in
    let read = entries_from_known keep_of pieces (map_none KeepRange (first_unknown keep_of pieces) parts.0) in
    let count = length-entries keep_of pieces read.all read.said in
    let enough = enough_says levels (length read.all)
    (ap (are_enough levels) count ∙ passes (are_enough levels (length pieces)) (Lengths levels (length pieces)) parts.1) in
    record {
      keeps = keeps_by levels read.all;
      are = record { given = read.all; says = read.said; enough = enough; keeps_are = refl };
    }

pub plan_found : PlanOrRefusal
unfolding plan_fault
plan_found described levels locks keeps built none =
    let count : ℕ = length (comma_list levels) in
    let first = or_none (level_fault described (comma_list levels))
    (option_or (lock_fault count locks) (keep_fault count (comma_list keeps))) none in
    let second = or_none (lock_fault count locks) (keep_fault count (comma_list keeps)) first.1 in
    let found = levels_found described levels built.sound first.0 in
    let long : count ≡ length found.depths = sym (length-entries (depth_named described) (comma_list levels) found.depths found.said) in
    let kinds = kinds_found (length found.depths) locks (subst (λ (n : ℕ). lock_fault n locks ≡ None) long second.0) in
    let kept = keeps_found (length found.depths) keeps (subst (λ (n : ℕ). keep_fault n (comma_list keeps) ≡ None) long second.1) in
    record {
      plan = record { depths = found.depths; kinds = kinds.kinds; keeps = kept.keeps };
      is = record { named = found.said; levels_are = found.are; kinds_are = kinds.are; keeps_are = kept.are };
    }

pub not_both : NotBoth
not_both described levels locks keeps plan is =
    plan_keeps described levels locks keeps plan.depths is.named is.levels_are plan.kinds is.kinds_are
    ∙ keeps_good (length plan.depths) keeps plan.keeps is.keeps_are
