-- The shares of a list are together the masks that it shares, and the masks are as many.
use Rattle.std.proofs.Common.{◌≡◌, ℕ, zero, suc, ◌+◌, ◌-◌, ◌*◌, ◌<◌, ◌≤◌, Bool, true, false, cond, ◌==◌, List, [], ◌∷◌, ◌++◌, length}
use Rattle.std.proofs.Common.{replicate, refl, sym, ap, subst, ◌∙◌, inl, inr, arith}
use Rattle.std.proofs.Math.Nat.{mul-le-mul_right, one-le-mul}
use Rattle.std.specs.List.{range_with_len, flat_map, fold, sum_by, AllByRecursion}
use Rattle.std.proofs.lemmas.Bool.{cases_Bool, eqb-true}
use Rattle.std.proofs.lemmas.List.{length-set, length-append, length-replicate}
use Rattle.std.proofs.lemmas.List.Sums.{sum_by-cons, sum_by-append}
use Rattle.synth_text.specs.declared.description.Description.{Description}
use Rattle.topo_tree.specs.declared.layer.Layer.TheVariants as layers
use Rattle.topo_tree.specs.Objects.{count_at, arity_at, children_of, depth_count}
use Rattle.topo_tree.specs.Building.{IsBuilt}
use Rattle.topo_tree.specs.Coverage.{set_at}
use Rattle.topo_tree.specs.Beginnings.{width_at}
use Rattle.topo_tree.proofs.CountLaws.{arity_some, children_within}
use Rattle.topo_tree.proofs.PlaceLaws.{some_width, some_count}
use Rattle.distrib_rules.specs.Shares.{rounded_up, share_of, Pair, weight_of, shared_behind, shared, in_order}
use Rattle.distrib_rules.specs.Expansion.{Way, is_final, children_sharing, expanded, expansion, start}
use Rattle.distrib_rules.specs.Masks.{join_last, with_share, with_pair, with_pairs, distribution}
use Rattle.distrib_rules.proofs.Rounding.{rounded_whole, rounded_none, rounded_rises}
use Rattle.distrib_rules.proofs.SharedLaws.{AreObjects, total_weight, are_objects, length-in_order}
use Rattle.distrib_rules.proofs.ExpansionLaws.{expanded-final, expanded-handed, above_last, shared-expanded}

-- ---- the number of masks

length-join_last : (masks : List (List ℕ)) (set : List ℕ) → length (join_last masks set) ≡ length masks
unfolding join_last
length-join_last masks set = length-set masks (length masks - 1) _

share_by_test : (masks : List (List ℕ)) (set : List ℕ) (share : ℕ) (none : Bool) → (none ≡ true → share ≡ 0)
    → length (cond none (join_last masks set) (masks ++ replicate share set)) ≡ length masks + share
share_by_test masks set share true zero_share = omega (arith, length-join_last masks set, zero_share refl)
share_by_test masks set share false zero_share = length-append masks (replicate share set)
    ∙ ap (λ n. length masks + n) (length-replicate share set)

pub length-with_share : (masks : List (List ℕ)) (set : List ℕ) (share : ℕ) → length (with_share masks set share) ≡ length masks + share
length-with_share masks set share = share_by_test masks set share (share == 0) (eqb-true share 0)

abbrev pub all_shares : List Pair → ℕ
all_shares pairs = sum_by (λ pair. pair.share) pairs

all_shares-first : (pair : Pair) (pairs : List Pair) → all_shares (pair ∷ pairs) ≡ pair.share + all_shares pairs
all_shares-first pair pairs = sum_by-cons (λ p. p.share) pair pairs

pub length-with_pairs : (described : Description) (masks : List (List ℕ)) (pairs : List Pair)
    → length (with_pairs described masks pairs) ≡ length masks + all_shares pairs
unfolding with_pairs
length-with_pairs described masks [] = omega arith
length-with_pairs described masks (pair ∷ pairs) =
    omega (
      arith,
      length-with_pairs described (with_pair described masks pair) pairs,
      length-with_share masks
          (set_at described pair.depth pair.index) pair.share,
      all_shares-first pair pairs,
    )

-- ---- the shares of a list

shares_behind : (described : Description) (n total depth before : ℕ) (indexes : List ℕ) → 1 ≤ total
    → rounded_up (before * n) total + all_shares (shared_behind described n total depth before indexes)
    ≡ rounded_up ((before + sum_by (weight_of described depth) indexes) * n) total
shares_behind described n total depth before [] some =
    let same : before + 0 ≡ before = omega arith in
    omega (arith, ap (λ b. rounded_up (b * n) total) same)
shares_behind described n total depth before (index ∷ indexes) some =
    let weight = weight_of described depth index in
    let pair : Pair = record { depth = depth; index = index; share = share_of n total before weight } in
    let rest = shared_behind described n total depth (before + weight) indexes in
    let further = shares_behind described n total depth (before + weight) indexes some in
    let sum = sum_by-cons (weight_of described depth) index indexes in
    let here : (before + weight) + sum_by (weight_of described depth) indexes
    ≡ before + sum_by (weight_of described depth) (index ∷ indexes) = omega (arith, sum) in
    let rises = rounded_rises (before * n) ((before + weight) * n) total some
    (mul-le-mul_right n (let more : before ≤ before + weight = omega arith in more)) in
    omega (arith, all_shares-first pair rest, further, ap (λ b. rounded_up (b * n) total) here, rises)

module _ (described : Description) (built : IsBuilt described) where
  pub total_some : (depth : ℕ) (indexes : List ℕ) → AreObjects described depth indexes → 1 ≤ length indexes
      → 1 ≤ sum_by (weight_of described depth) indexes
  total_some depth indexes objects some = omega
      (arith, total_weight described built depth indexes objects, one-le-mul some (some_width described built depth))

  pub shares_shared : (n depth : ℕ) (indexes : List ℕ) → AreObjects described depth indexes → 1 ≤ length indexes
      → all_shares (shared described n depth indexes) ≡ n
  unfolding shared
  shares_shared n depth indexes objects some =
      let total = sum_by (weight_of described depth) indexes in
      let positive = total_some depth indexes objects some in
      let none : 0 * n ≡ 0 = omega arith in
      let all : 0 + total ≡ total = omega arith in
      omega (
        arith,
        shares_behind described n total depth 0 indexes positive,
        ap
            (λ b. rounded_up b total) none,
        rounded_none total positive,
        ap
            (λ b. rounded_up (b * n) total) all,
        rounded_whole total n positive,
      )

  -- ---- the shares of an expansion

  -- the pair's object is one of the topology
  abbrev pub IsPair : Pair → Type 0
  IsPair pair = pair.index < count_at described pair.depth

  pairs_behind : (n total depth before : ℕ) (indexes : List ℕ) → AreObjects described depth indexes
      → AllByRecursion IsPair (shared_behind described n total depth before indexes)
  pairs_behind n total depth before [] objects = tt
  pairs_behind n total depth before (index ∷ indexes) objects =
      (objects.0, pairs_behind n total depth (before + weight_of described depth index) indexes objects.1)

  pub are_pairs : (n depth : ℕ) (indexes : List ℕ) → AreObjects described depth indexes
      → AllByRecursion IsPair (shared described n depth indexes)
  unfolding shared
  are_pairs n depth indexes objects = pairs_behind n (sum_by (weight_of described depth) indexes) depth 0 indexes objects

  module _ (way : Way) where
    abbrev pub child_indexes : Pair → List ℕ
    child_indexes pair = in_order way.backwards
        (range_with_len (pair.index * arity_at described pair.depth) (arity_at described pair.depth))

    pub are_children : (pair : Pair) → IsPair pair → is_final described way pair ≡ false
        → AreObjects described (pair.depth + 1) (child_indexes pair) × (1 ≤ length (child_indexes pair))
    are_children pair is_pair handed =
        let within = above_last described way pair handed in
        let arity = arity_at described pair.depth in (
          are_objects described (pair.depth + 1) (pair.index * arity) arity way.backwards
              (children_within described pair.depth pair.index within is_pair),
          omega (arith, length-in_order way.backwards (pair.index * arity) arity, arity_some described pair.depth built.sound within),
        )

    shares_flat : (expand : Pair → List Pair) → ((pair : Pair) → IsPair pair → all_shares (expand pair) ≡ pair.share) → (pairs : List Pair)
        → AllByRecursion IsPair pairs → all_shares (flat_map expand pairs) ≡ all_shares pairs
    shares_flat expand each [] are = refl
    shares_flat expand each (pair ∷ pairs) are =
        omega (
          arith,
          sum_by-append (λ (p : Pair). p.share) (expand pair)
              (flat_map expand pairs),
          each pair are.0,
          shares_flat expand each pairs are.1,
          all_shares-first pair pairs,
        )

    shares_expanded : (levels : ℕ) (pair : Pair) → IsPair pair → all_shares (expanded described way levels pair) ≡ pair.share
    shares_expanded zero pair is_pair = omega (arith, all_shares-first pair [])
    shares_expanded (suc levels) pair is_pair =
        elim (cases_Bool (is_final described way pair)) [
          | inl final ↦ ap all_shares (expanded-final described way (suc levels) pair final) ∙ omega (arith, all_shares-first pair [])
          | inr handed ↦
              let children = are_children pair is_pair handed in
              ap all_shares (expanded-handed described way levels pair handed)
              ∙ shares_flat (expanded described way levels) (shares_expanded levels) (children_sharing described way pair)
              (are_pairs pair.share (pair.depth + 1) (child_indexes pair) children.0)
              ∙ shares_shared pair.share (pair.depth + 1) (child_indexes pair) children.0 children.1
        ]

    abbrev pub start_indexes : ℕ → List ℕ
    start_indexes from = in_order way.backwards (range_with_len 0 (count_at described from))

    pub start_objects : (from : ℕ) → AreObjects described from (start_indexes from) × (1 ≤ length (start_indexes from))
    start_objects from = (
      are_objects described from 0 (count_at described from) way.backwards (omega arith),
      omega (arith, length-in_order way.backwards 0 (count_at described from), some_count described built from),
    )

    pub as_many : (n from : ℕ) → length (distribution described way n from) ≡ n
    as_many n from =
        let objects = start_objects from in
        let indexes = start_indexes from in
        omega (
          arith,
          length-with_pairs described [] (expansion described way (shared described n from indexes)),
          ap all_shares (shared-expanded described way n from indexes),
          shares_flat (expanded described way (length described.levels - from)) (shares_expanded (length described.levels - from))
              (shared described n from indexes) (are_pairs n from indexes objects.0),
          shares_shared n from indexes objects.0 objects.1,
        )
