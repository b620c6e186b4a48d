-- The masks together have the PUs of the start.
use Rattle.std.proofs.Common.{◌≡◌, ℕ, zero, suc, ◌+◌, ◌-◌, ◌*◌, ◌<◌, ◌≤◌, Bool, true, false, cond, ◌||◌, ◌==◌, List, [], ◌∷◌, ◌++◌, length}
use Rattle.std.proofs.Common.{replicate, reverse, get_or, set, refl, sym, ap, subst, ◌∙◌, inl, inr, arith}
use Rattle.std.proofs.Math.Nat.{one-le-mul}
use Rattle.std.specs.List.{range_with_len, flat_map, fold, sum_by, list_any, AllByRecursion}
use Rattle.std.proofs.lemmas.Bool.{cases_Bool, cases_lt, eqb-true, eqb-false}
use Rattle.std.proofs.lemmas.List.{reverse-append}
use Rattle.std.proofs.lemmas.List.Folds.{list_any-append}
use Rattle.std.proofs.lemmas.List.Sums.{sum_by-cons}
use Rattle.cpu_set.specs.Sets.{has, union}
use Rattle.cpu_set.specs.SetLaws.{has-numbers_below}
use Rattle.synth_text.specs.declared.description.Description.{Description}
use Rattle.topo_tree.specs.Objects.{count_at, arity_at}
use Rattle.topo_tree.specs.Building.{IsBuilt}
use Rattle.topo_tree.specs.Coverage.{set_at}
use Rattle.topo_tree.proofs.PlaceLaws.{length-set_at, some_width, set_at-children, set_at-machine}
use Rattle.distrib_rules.specs.Shares.{rounded_up, share_of, Pair, weight_of, shared_behind, shared, in_order}
use Rattle.distrib_rules.specs.Expansion.{Way, is_final, children_sharing, expanded, expansion, start}
use Rattle.distrib_rules.specs.Masks.{join_last, with_share, with_pair, with_pairs, distribution}
use Rattle.distrib_rules.proofs.Rounding.{rounded_low, rounded_none}
use Rattle.distrib_rules.proofs.SharedLaws.{AreObjects}
use Rattle.distrib_rules.proofs.ExpansionLaws.{expanded-final, expanded-handed, above_last, shared-expanded}
use Rattle.distrib_rules.proofs.AsMany.{IsPair, are_pairs, are_children, child_indexes, start_indexes, start_objects, total_some}
use Rattle.distrib_rules.proofs.AsMany.{length-with_share}

-- ---- tests over lists

or_none : (b : Bool) → (b || false) ≡ b
or_none true = refl
or_none false = refl

or_assoc : (a b c : Bool) → ((a || b) || c) ≡ (a || (b || c))
or_assoc true b c = refl
or_assoc false b c = refl

or_comm : (a b : Bool) → (a || b) ≡ (b || a)
or_comm true true = refl
or_comm true false = refl
or_comm false true = refl
or_comm false false = refl

or_same : (a : Bool) → (a || a) ≡ a
or_same true = refl
or_same false = refl

any-reverse : {X : Type 0} (test : X → Bool) (xs : List X) → list_any test (reverse xs) ≡ list_any test xs
any-reverse test [] = refl
any-reverse test (x ∷ xs) =
    ap (list_any test) (reverse-append (x ∷ []) xs) ∙ list_any-append test (reverse xs) (x ∷ [])
    ∙ ap (λ b. b || (test x || false)) (any-reverse test xs) ∙ ap (λ b. list_any test xs || b) (or_none (test x))
    ∙ or_comm (list_any test xs) (test x)

any-in_order : (test : ℕ → Bool) (backwards : Bool) (xs : List ℕ) → list_any test (in_order backwards xs) ≡ list_any test xs
any-in_order test true xs = any-reverse test xs
any-in_order test false xs = refl

any-replicate : (test : List ℕ → Bool) (count : ℕ) (x : List ℕ) → list_any test (replicate (suc count) x) ≡ test x
any-replicate test zero x = or_none (test x)
any-replicate test (suc count) x = ap (λ b. test x || b) (any-replicate test count x) ∙ or_same (test x)

-- ---- the numbers of masks

module _ (number : ℕ) (low : number < 4096) where
  abbrev pub any_mask : List (List ℕ) → Bool
  any_mask masks = list_any (λ mask. has mask number) masks

  joined : (masks : List (List ℕ)) (joining : List ℕ) (last : ℕ) → length masks ≡ last + 1
      → any_mask (set masks last (union (get_or masks last []) joining)) ≡ (any_mask masks || has joining number)
  joined [] joining last long = absurd (omega arith)
  joined (mask ∷ []) joining zero long =
      or_none (has (union mask joining) number) ∙ has-numbers_below 4096 (λ n. has mask n || has joining n) number low
      ∙ ap (λ b. b || has joining number) (sym (or_none (has mask number)))
  joined (mask ∷ []) joining (suc last) long = absurd (omega arith)
  joined (mask ∷ next ∷ masks) joining zero long = absurd (omega arith)
  joined (mask ∷ next ∷ masks) joining (suc last) long =
      ap (λ b. has mask number || b) (joined (next ∷ masks) joining last (omega arith))
      ∙ sym (or_assoc (has mask number) (any_mask (next ∷ masks)) (has joining number))

  any-join_last : (masks : List (List ℕ)) (joining : List ℕ) → 1 ≤ length masks
      → any_mask (join_last masks joining) ≡ (any_mask masks || has joining number)
  unfolding join_last
  any-join_last masks joining some = joined masks joining (length masks - 1) (omega arith)

  given : (masks : List (List ℕ)) (giving : List ℕ) (share : ℕ) → 1 ≤ share
      → any_mask (masks ++ replicate share giving) ≡ (any_mask masks || has giving number)
  given masks giving zero some = absurd (omega arith)
  given masks giving (suc share) some =
      list_any-append (λ mask. has mask number) masks (replicate (suc share) giving)
      ∙ ap (λ b. any_mask masks || b) (any-replicate (λ mask. has mask number) share giving)

  by_test : (masks : List (List ℕ)) (giving : List ℕ) (share : ℕ) (none : Bool) → (none ≡ true → 1 ≤ length masks)
      → (none ≡ false → 1 ≤ share) → any_mask (cond none (join_last masks giving) (masks ++ replicate share giving))
      ≡ (any_mask masks || has giving number)
  by_test masks giving share true last some = any-join_last masks giving (last refl)
  by_test masks giving share false last some = given masks giving share (some refl)

  any-with_share : (masks : List (List ℕ)) (giving : List ℕ) (share : ℕ) → 1 ≤ length masks + share
      → any_mask (with_share masks giving share) ≡ (any_mask masks || has giving number)
  any-with_share masks giving share some =
      by_test masks giving share (share == 0) (λ none. omega (arith, eqb-true share 0 none))
      (λ other. positive share (eqb-false share 0 other))
    where
      positive : (n : ℕ) → (n ≡ 0 → ⊥) → 1 ≤ n
      positive n differs = elim (cases_lt 0 n) [ inl more ↦ omega arith | inr none ↦ absurd (differs (omega arith)) ]

  module _ (described : Description) where
    abbrev pub pair_has : Pair → Bool
    pair_has pair = has (set_at described pair.depth pair.index) number

    any-with_pairs : (masks : List (List ℕ)) (pairs : List Pair) → 1 ≤ length masks
        → any_mask (with_pairs described masks pairs) ≡ (any_mask masks || list_any pair_has pairs)
    unfolding with_pairs
    any-with_pairs masks [] some = sym (or_none (any_mask masks))
    any-with_pairs masks (pair ∷ pairs) some =
        any-with_pairs (with_pair described masks pair) pairs
        (omega (arith, length-with_share masks (set_at described pair.depth pair.index) pair.share))
        ∙ ap (λ b. b || list_any pair_has pairs) (any-with_share masks (set_at described pair.depth pair.index) pair.share (omega arith))
        ∙ or_assoc (any_mask masks) (pair_has pair) (list_any pair_has pairs)

    -- the first pair has a mask
    pub record FirstHasMask (pairs : List Pair) : Type 0 where
      pub first : Pair
      pub others : List Pair
      pub is : pairs ≡ first ∷ others
      pub some : 1 ≤ first.share

    masks_of-first : (first : Pair) (others : List Pair) → 1 ≤ first.share
        → any_mask (with_pairs described [] (first ∷ others)) ≡ list_any pair_has (first ∷ others)
    unfolding with_pairs
    masks_of-first first others some =
        any-with_pairs (with_pair described [] first) others
        (omega (arith, length-with_share [] (set_at described first.depth first.index) first.share))
        ∙ ap (λ b. b || list_any pair_has others) (any-with_share [] (set_at described first.depth first.index) first.share (omega arith))

    any-masks : (pairs : List Pair) → FirstHasMask pairs → any_mask (with_pairs described [] pairs) ≡ list_any pair_has pairs
    any-masks pairs found =
        ap (λ ps. any_mask (with_pairs described [] ps)) found.is ∙ masks_of-first found.first found.others found.some
        ∙ ap (list_any pair_has) (sym found.is)

    any-behind : (n total depth before : ℕ) (indexes : List ℕ) → list_any pair_has (shared_behind described n total depth before indexes)
        ≡ list_any (λ index. has (set_at described depth index) number) indexes
    any-behind n total depth before [] = refl
    any-behind n total depth before (index ∷ indexes) =
        ap (λ b. has (set_at described depth index) number || b)
        (any-behind n total depth (before + weight_of described depth index) indexes)

    any-shared : (n depth : ℕ) (indexes : List ℕ)
        → list_any pair_has (shared described n depth indexes) ≡ list_any (λ index. has (set_at described depth index) number) indexes
    unfolding shared
    any-shared n depth indexes = any-behind n (sum_by (weight_of described depth) indexes) depth 0 indexes

    module _ (built : IsBuilt described) where
      -- ---- the first share

      first_behind : (n depth : ℕ) (indexes : List ℕ) (total : ℕ) → 1 ≤ n → 1 ≤ total → AreObjects described depth indexes
          → 1 ≤ length indexes → FirstHasMask (shared_behind described n total depth 0 indexes)
      first_behind n depth [] total many some objects long = absurd (omega arith)
      first_behind n depth (index ∷ indexes) total many some objects long =
          let weight = weight_of described depth index in
          let heavy : 1 ≤ 0 + weight = omega (arith, length-set_at described built depth index objects.0, some_width described built depth)
          in
          let part : 1 ≤ (0 + weight) * n = one-le-mul heavy many in
          let none : 0 * n ≡ 0 = omega arith in
          record {
            first = record { depth = depth; index = index; share = share_of n total 0 weight };
            others = shared_behind described n total depth (0 + weight) indexes;
            is = refl;
            some = omega (
              arith,
              quotient_some ((0 + weight) * n) total part some,
              ap
                  (λ b. rounded_up b total) none,
              rounded_none total some,
            );
          }
        where
          quotient_some : (part whole : ℕ) → 1 ≤ part → 1 ≤ whole → 1 ≤ rounded_up part whole
          quotient_some part whole some some_whole =
              elim (cases_lt 0 (rounded_up part whole)) [
                | inl more ↦ omega arith
                | inr none ↦ let zero_quotient : rounded_up part whole ≡ 0 = omega arith in
                    absurd (omega (arith, rounded_low part whole some_whole, ap (λ q. q * whole) zero_quotient))
              ]

      first_shared : (n depth : ℕ) (indexes : List ℕ) → 1 ≤ n → AreObjects described depth indexes → 1 ≤ length indexes
          → FirstHasMask (shared described n depth indexes)
      unfolding shared
      first_shared n depth indexes many objects long = first_behind n depth indexes (sum_by (weight_of described depth) indexes) many
          (total_some described built depth indexes objects long) objects long

      module _ (way : Way) where
        first_flat : (expand : Pair → List Pair) (pairs : List Pair) (found : FirstHasMask pairs) → FirstHasMask (expand found.first)
            → FirstHasMask (flat_map expand pairs)
        first_flat expand pairs found inner =
            record {
              first = inner.first;
              others = inner.others ++ flat_map expand found.others;
              is = ap (flat_map expand) found.is ∙ ap (λ ps. ps ++ flat_map expand found.others) inner.is;
              some = inner.some;
            }

        first_expanded : (levels : ℕ) (pair : Pair) → IsPair described built pair → 1 ≤ pair.share
            → FirstHasMask (expanded described way levels pair)
        first_expanded zero pair is_pair some = record { first = pair; others = []; is = refl; some = some }
        first_expanded (suc levels) pair is_pair some =
            elim (cases_Bool (is_final described way pair)) [
              | inl final ↦ record { first = pair; others = []; is = expanded-final described way (suc levels) pair final; some = some }
              | inr handed ↦
                  let children = are_children described built way pair is_pair handed in
                  let found = first_shared pair.share (pair.depth + 1)
                  (child_indexes described built way pair) some children.0 children.1 in
                  let are = are_pairs described built pair.share (pair.depth + 1) (child_indexes described built way pair) children.0 in
                  subst FirstHasMask (sym (expanded-handed described way levels pair handed))
                  (first_flat (expanded described way levels) (children_sharing described way pair) found
                  (first_expanded levels found.first (first_is (children_sharing described way pair) found are) found.some))
            ]
          where
            first_is : (pairs : List Pair) (found : FirstHasMask pairs) → AllByRecursion (IsPair described built) pairs
                → IsPair described built found.first
            first_is pairs found are = (subst (AllByRecursion (IsPair described built)) found.is are).0

        -- ---- what pairs come to has the same numbers

        any_flat : (expand : Pair → List Pair) → ((pair : Pair) → IsPair described built pair
            → list_any pair_has (expand pair) ≡ pair_has pair) → (pairs : List Pair) → AllByRecursion (IsPair described built) pairs
            → list_any pair_has (flat_map expand pairs) ≡ list_any pair_has pairs
        any_flat expand each [] are = refl
        any_flat expand each (pair ∷ pairs) are =
            list_any-append pair_has (expand pair) (flat_map expand pairs)
            ∙ ap (λ b. b || list_any pair_has (flat_map expand pairs)) (each pair are.0)
            ∙ ap (λ b. pair_has pair || b) (any_flat expand each pairs are.1)

        any_expanded : (levels : ℕ) (pair : Pair) → IsPair described built pair
            → list_any pair_has (expanded described way levels pair) ≡ pair_has pair
        any_expanded zero pair is_pair = or_none (pair_has pair)
        any_expanded (suc levels) pair is_pair =
            elim (cases_Bool (is_final described way pair)) [
              | inl final ↦ ap (list_any pair_has) (expanded-final described way (suc levels) pair final) ∙ or_none (pair_has pair)
              | inr handed ↦
                  let children = are_children described built way pair is_pair handed in
                  let indexes = child_indexes described built way pair in
                  ap (list_any pair_has) (expanded-handed described way levels pair handed)
                  ∙ any_flat (expanded described way levels) (any_expanded levels) (children_sharing described way pair)
                  (are_pairs described built pair.share (pair.depth + 1) indexes children.0)
                  ∙ any-shared pair.share (pair.depth + 1) indexes
                  ∙ any-in_order (λ index. has (set_at described (pair.depth + 1) index) number) way.backwards
                  (range_with_len (pair.index * arity_at described pair.depth) (arity_at described pair.depth))
                  ∙ sym (set_at-children described built pair.depth pair.index number (above_last described way pair handed))
            ]

        pub covers : (n from : ℕ) → 1 ≤ n → any_mask (distribution described way n from) ≡ has (set_at described 0 0) number
        covers n from many =
            let levels = length described.levels - from in
            let indexes = start_indexes described built way from in
            let objects = start_objects described built way from in
            let pairs = shared described n from indexes in
            let are = are_pairs described built n from indexes objects.0 in
            let found = first_shared n from indexes many objects.0 objects.1 in
            ap (λ ps. any_mask (with_pairs described [] ps)) (shared-expanded described way n from indexes)
            ∙ any-masks (flat_map (expanded described way levels) pairs)
            (first_flat (expanded described way levels) pairs found
            (first_expanded levels found.first (subst (AllByRecursion (IsPair described built)) found.is are).0 found.some))
            ∙ any_flat (expanded described way levels) (any_expanded levels) pairs are
            ∙ any-shared n from indexes
            ∙ any-in_order (λ index. has (set_at described from index) number) way.backwards (range_with_len 0 (count_at described from))
            ∙ sym (set_at-machine described built from number)
