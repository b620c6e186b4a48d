-- The rank of an object among those that have a caller under them.
use Rattle.std.proofs.Common.{◌≡◌, ℕ, zero, suc, ◌+◌, ◌<◌, ◌≤◌, List, [], ◌∷◌, length, get_or}
use Rattle.std.proofs.Common.{take, ◌++◌, refl, sym, ap, ◌∙◌}
use Rattle.std.proofs.Common.{subst, arith, inl, inr, eq-eqb}
use Rattle.std.specs.Prelude.{◌==◌, map, All, Contains}
use Rattle.std.specs.List.{position_or_len}
use Rattle.std.specs.List.Sorted.{IsStrictlyIncreasing}
use Rattle.std.proofs.lemmas.Bool.{cases_lt, ne_eqb}
use Rattle.std.proofs.lemmas.List.Kept.{AllPairs-from_increasing}
use Rattle.std.proofs.lemmas.List.Sums.{position_or_len_is}
use Rattle.std.proofs.Common.{IsPermutation, nat_cmp, eqb}
use Rattle.std.specs.List.{dedup, AllByRecursion}
use Rattle.std.proofs.lemmas.Simd.{map-map}
use Rattle.std.specs.List.Sorted.{IsSorted}
use Rattle.std.proofs.lemmas.Bool.Decides.{same_from_decides, Decides-like}
use Rattle.std.proofs.lemmas.List.{length-map, get_or-map, map-append, take_more}
use Rattle.std.proofs.lemmas.List.Elements.{All-get_or, All-from_get_or, All-map, All-from_recursion, Contains-get_or}
use Rattle.std.proofs.lemmas.List.Filters.{All-dedup}
use Rattle.std.proofs.lemmas.List.Kept.{Contains-dedup_nat, Contains-from_dedup}
use Rattle.std.proofs.lemmas.List.Sorted.{All-permutation, Contains-permutation, IsPermutation-sym}
use Rattle.std.proofs.lemmas.Map.Keys.{IsStrictlyIncreasing-dedup}
use Rattle.cpu_set.specs.Sets.{has, numbers_below}
use Rattle.cpu_set.specs.SetLaws.{Decides-has, has-numbers_below, numbers_below_ascends, numbers_below_within, numbers_below-has}
use Rattle.cpu_set.specs.SetLaws.{numbers_below-same}
use Rattle.synth_text.specs.declared.description.Description.{Description}
use Rattle.synth_text.specs.Rules.{pu_count}
use Rattle.synth_text.specs.Sound.{IsSound}
use Rattle.topo_tree.specs.Objects.{count_at}
use Rattle.topo_tree.specs.Coverage.{object_over}
use Rattle.topo_tree.proofs.OverLaws.{over_within}
use Rattle.lock_plan.specs.Shapes.{occupied, node_on, path_on}

-- ---- places in a list that rises

module _ (numbers : List ℕ) (rising : IsStrictlyIncreasing numbers) where
  -- a number is at one place
  pub place_is : (place number : ℕ) → place < length numbers → get_or numbers place 0 ≡ number
      → position_or_len (λ other. other == number) numbers ≡ place
  place_is place number within here =
      position_or_len_is (λ other. other == number) numbers place 0 (omega arith)
      (λ k before.
      let less = AllPairs-from_increasing numbers rising k place 0 before within in
      ne_eqb (get_or numbers k 0) number (λ (same : get_or numbers k 0 ≡ number). omega (arith, less, here, same)))
      (λ _. eq-eqb (get_or numbers place 0) number here)

  -- the k-th number is at least k
  pub place_low : (place : ℕ) → place < length numbers → place ≤ get_or numbers place 0
  place_low zero within = omega arith
  place_low (suc place) within =
      let before = place_low place (omega arith) in
      let less = rising place (omega arith) in
      let e : place + 1 ≡ suc place = omega arith in
      let next : get_or numbers place 0 < get_or numbers (suc place) 0 =
      subst (λ (n : ℕ). get_or numbers place 0 < get_or numbers n 0) e less in
      omega (arith, before, next)

  -- an earlier number is no greater
  pub never_falls : (i j : ℕ) → i ≤ j → j < length numbers → get_or numbers i 0 ≤ get_or numbers j 0
  never_falls i j to within =
      elim (cases_lt i j) [
        | inl before ↦ let less = AllPairs-from_increasing numbers rising i j 0 before within in omega (arith, less)
        | inr after ↦ let e : i ≡ j = omega arith in let same = ap (λ (n : ℕ). get_or numbers n 0) e in omega (arith, same)
      ]

-- what holds of each element holds of one
contained : (P : ℕ → Type 0) (xs : List ℕ) (x : ℕ) → All P xs → Contains xs x → P x
contained P xs x all (place, within, is) = subst P is (All-get_or P xs place x within all)

-- ---- the objects that have a caller under them

module _ (described : Description) (depth : ℕ) (pus : List ℕ) where
  abbrev objects : List ℕ
  objects = map (λ pu. object_over described depth pu) pus

  objects_within : IsSound described → All (λ pu. pu < pu_count described) pus → All (λ object. object < count_at described depth) objects
  objects_within sound within =
      All-map (λ (object : ℕ). object < count_at described depth) (λ (pu : ℕ). object_over described depth pu) pus
      (All-from_get_or (λ (pu : ℕ). object_over described depth pu < count_at described depth) pus 0
      (λ i here. over_within described depth (get_or pus i 0) sound (All-get_or (λ (pu : ℕ). pu < pu_count described) pus i 0 here within)))

  -- what sorting them and leaving repeats out gives
  pub sorted_is : (sorted : List ℕ) → IsSound described → All (λ pu. pu < pu_count described) pus → IsPermutation objects sorted
      → IsSorted nat_cmp sorted → dedup eqb sorted ≡ occupied described pus depth
  unfolding occupied
  sorted_is sorted sound within moved in_order =
      let count : ℕ = count_at described depth in
      let kept : List ℕ = dedup eqb sorted in
      let rising = IsStrictlyIncreasing-dedup sorted in_order in
      let below = All-dedup eqb (λ (n : ℕ). n < count) sorted
      (All-permutation (λ (n : ℕ). n < count) objects sorted moved (objects_within sound within)) in
      sym (numbers_below-has count kept rising below)
      ∙ numbers_below-same count (has kept) (has objects)
      (λ n low. same_from_decides (has kept n) (has objects n)
      (Decides-like (has kept n)
      (λ (h : Contains kept n). Contains-permutation sorted objects n (IsPermutation-sym objects sorted moved)
      (Contains-from_dedup eqb sorted n h))
      (λ (h : Contains objects n). Contains-dedup_nat sorted n (Contains-permutation objects sorted n moved h))
      (Decides-has kept n))
      (Decides-has objects n))

  pub occupied_rises : IsStrictlyIncreasing (occupied described pus depth)
  unfolding occupied
  occupied_rises = numbers_below_ascends (count_at described depth) (has objects)

  -- the object over a caller's PU is among them
  pub occupied_has : (caller : ℕ) → IsSound described → All (λ pu. pu < pu_count described) pus → caller < length pus
      → Contains (occupied described pus depth) (object_over described depth (get_or pus caller 0))
  unfolding occupied
  occupied_has caller sound within known =
      let pu : ℕ = get_or pus caller 0 in
      let object : ℕ = object_over described depth pu in
      let low = over_within described depth pu sound (All-get_or (λ (n : ℕ). n < pu_count described) pus caller 0 known within) in
      let long = length-map pus (λ (n : ℕ). object_over described depth n) in
      let at : get_or objects caller 0 ≡ object = get_or-map (λ (n : ℕ). object_over described depth n) pus caller 0 0 known in
      let inside : Contains objects object = subst (Contains objects) at (Contains-get_or objects caller 0 (omega (arith, long, known))) in
      (Decides-has (numbers_below (count_at described depth) (has objects)) object).0
      (has-numbers_below (count_at described depth) (has objects) object low ∙ (Decides-has objects object).1 inside)

  -- an object among them is over some caller's PU
  pub record HasCaller (object : ℕ) : Type 0 where
    pub caller : ℕ
    pub known : caller < length pus
    pub over_is : object_over described depth (get_or pus caller 0) ≡ object

  caller_of : (object : ℕ) → Contains objects object → HasCaller object
  caller_of object (place, within, is) =
      let long = length-map pus (λ (n : ℕ). object_over described depth n) in
      let known : place < length pus = omega (arith, long, within) in
      let at = get_or-map (λ (n : ℕ). object_over described depth n) pus place 0 object known in
      record { caller = place; known = known; over_is = sym at ∙ is }

  pub occupied_by : (object : ℕ) → Contains (occupied described pus depth) object → HasCaller object
  unfolding occupied
  occupied_by object inside =
      let found : List ℕ = numbers_below (count_at described depth) (has objects) in
      let low : object < count_at described depth = contained (λ (n : ℕ). n < count_at described depth) found object
      (numbers_below_within (count_at described depth) (has objects)) inside in
      caller_of object ((Decides-has objects object).0 (sym (has-numbers_below (count_at described depth) (has objects) object low)
      ∙ (Decides-has found object).1 inside))

  -- the node of a caller is the place of the object over its PU
  pub node_is : (objects_are : List ℕ) (object pu : ℕ)
      → objects_are ≡ occupied described pus depth → object ≡ object_over described depth pu
      → position_or_len (λ other. other == object) objects_are ≡ node_on described pus depth pu
  unfolding node_on
  node_is objects_are object pu are is =
      ap (λ (n : ℕ). position_or_len (λ other. other == n) objects_are) is
      ∙ ap (λ (xs : List ℕ). position_or_len (λ other. other == object_over described depth pu) xs) are

-- ---- the nodes of one caller

module _ {V : Type 0} (items : V → List ℕ) (described : Description) (pus : List ℕ) where
  abbrev pub nodes_by : List ℕ → List (List ℕ)
  nodes_by depths = map (λ depth. map (node_on described pus depth) pus) depths

  of_caller : (caller : ℕ) → caller < length pus → (depths : List ℕ)
      → map (λ (depth : ℕ). get_or (map (node_on described pus depth) pus) caller 0) depths
      ≡ path_on described pus depths (get_or pus caller 0)
  of_caller caller known [] = refl
  of_caller caller known (depth ∷ depths) =
      let first = get_or-map (node_on described pus depth) pus caller 0 0 known in
      let rest = of_caller caller known depths in
      cc

  -- the nodes of a caller at each level are its path
  pub path_is : (levels : List V) (depths : List ℕ) (caller : ℕ) → map items levels ≡ nodes_by depths → caller < length pus
      → map (λ (level : V). get_or (items level) caller 0) levels ≡ path_on described pus depths (get_or pus caller 0)
  path_is levels depths caller same known =
      sym (map-map (λ (nodes : List ℕ). get_or nodes caller 0) items levels)
      ∙ ap (map (λ (nodes : List ℕ). get_or nodes caller 0)) same
      ∙ map-map (λ (nodes : List ℕ). get_or nodes caller 0) (λ (depth : ℕ). map (node_on described pus depth) pus) depths
      ∙ of_caller caller known depths

  all_long : (depths : List ℕ) → AllByRecursion (λ (nodes : List ℕ). length nodes ≡ length pus) (nodes_by depths)
  all_long [] = tt
  all_long (depth ∷ depths) = (length-map pus (node_on described pus depth), all_long depths)

  long_levels : (levels : List V) (caller : ℕ) → caller < length pus
      → AllByRecursion (λ (nodes : List ℕ). length nodes ≡ length pus) (map items levels)
      → AllByRecursion (λ (level : V). caller < length (items level)) levels
  long_levels [] caller known all = tt
  long_levels (level ∷ levels) caller known all =
      (let here = all.0 in omega (arith, here, known), long_levels levels caller known all.1)

  -- each level has a node for each caller
  pub levels_long : (levels : List V) (depths : List ℕ) (caller : ℕ) → map items levels ≡ nodes_by depths → caller < length pus
      → All (λ (level : V). caller < length (items level)) levels
  levels_long levels depths caller same known =
      All-from_recursion (λ (level : V). caller < length (items level)) levels
      (long_levels levels caller known
      (subst (AllByRecursion (λ (nodes : List ℕ). length nodes ≡ length pus)) (sym same) (all_long depths)))

-- one more of what is told of each element
pub map_more : {Y : Type 0} (f : ℕ → Y) (xs : List ℕ) (i : ℕ) (before after : List Y) (next : Y) → i < length xs
    → before ≡ map f (take i xs) → next ≡ f (get_or xs i 0) → after ≡ before ++ next ∷ [] → after ≡ map f (take (i + 1) xs)
map_more f xs i before after next within so_far is pushed =
    pushed ∙ ap (λ ys. ys ++ next ∷ []) so_far ∙ ap (λ y. map f (take i xs) ++ y ∷ []) is
    ∙ sym (map-append f (take i xs) (get_or xs i 0 ∷ [])) ∙ ap (map f) (sym (take_more xs i 0 within))
