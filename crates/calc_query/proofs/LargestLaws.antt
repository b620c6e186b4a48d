-- The largest objects inside a set make up all whole objects there, and have each number once.
use Rattle.std.proofs.Common.{◌≡◌, ℕ, zero, suc, ◌+◌, ◌-◌, ◌*◌, ◌/◌, ◌<◌, ◌≤◌, ◌==◌, Bool, true, false, cond, not, ◌&&◌, ◌||◌, List, []}
use Rattle.std.proofs.Common.{◌∷◌, ◌++◌}
use Rattle.std.proofs.Common.{length, drop, get_or, Some, None, refl, sym, ap, ◌∙◌, inl, inr, arith}
use Rattle.std.specs.List.{count_by, filter, flat_map, list_any, range_with_len}
use Rattle.std.proofs.lemmas.Bool.{cases_Bool, false≢true, false_from_ne_true, ne_eqb, or_cases, or_left, or_right, and_parts}
use Rattle.std.proofs.lemmas.List.{drop-drop, get_or-drop, length-drop, length-map}
use Rattle.std.proofs.lemmas.List.Elements.{filter-append}
use Rattle.std.proofs.lemmas.List.Folds.{list_any-append, list_any_at}
use Rattle.std.proofs.lemmas.List.FromFn.{get_or-range_with_len, length-range_with_len}
use Rattle.std.proofs.lemmas.List.Sums.{sum_by-append}
use Rattle.cpu_set.specs.Sets.{has}
use Rattle.cpu_set.specs.Tests.{is_inside}
use Rattle.cpu_set.proofs.TestLaws.{inside-at, inside-by, meets-by, same_tests}
use Rattle.synth_text.specs.declared.description.Description.{Description}
use Rattle.synth_text.specs.declared.description.Level.{Level}
use Rattle.synth_text.specs.Rules.{arities}
use Rattle.topo_tree.specs.declared.layer.Layer.TheVariants as layers
use Rattle.topo_tree.specs.declared.layer.Object.{Object}
use Rattle.topo_tree.specs.Building.{IsBuilt}
use Rattle.topo_tree.proofs.CountLaws.{child-parent}
use Rattle.topo_tree.specs.Coverage.{set_at, set_of}
use Rattle.topo_tree.specs.Objects.{arity_at, count_at, parent_of}
use Rattle.topo_tree.specs.Order.{object_at, tree_objects, tree_order}
use Rattle.topo_tree.proofs.PlaceLaws.{set_at-apart, set_at-children, some_count}
use Rattle.calc_query.specs.Answers.{is_above_inside, is_largest, largest}
use Rattle.calc_query.specs.Laws.{is_whole}

-- ---- lists

any_weaker : {X : Type 0} (p q : X → Bool) → ((x : X) → p x ≡ true → q x ≡ true) → (xs : List X) → list_any p xs ≡ true
    → list_any q xs ≡ true
any_weaker p q each [] found = absurd (false≢true found)
any_weaker p q each (x ∷ xs) found =
    elim (or_cases (p x) (list_any p xs) found) [
      | inl here ↦ or_left (q x) (list_any q xs) (each x here)
      | inr later ↦ or_right (q x) (list_any q xs) (any_weaker p q each xs later)
    ]

module _ {X : Type 0} (f : ℕ → List X) where
  any_in_flat : (test : X → Bool) (start count : ℕ) → list_any test (flat_map f (range_with_len start count)) ≡ true
      → (n : ℕ) × (start ≤ n) × (n < start + count) × (list_any test (f n) ≡ true)
  any_in_flat test start zero found = absurd (false≢true found)
  any_in_flat test start (suc count) found =
      let rest = flat_map f (range_with_len (start + 1) count) in
      elim (or_cases (list_any test (f start)) (list_any test rest) (sym (list_any-append test (f start) rest) ∙ found)) [
        | inl here ↦ (start, omega arith, omega arith, here)
        | inr later ↦ let at = any_in_flat test (start + 1) count later in (at.0, omega (arith, at.1), omega (arith, at.2), at.3)
      ]

  none_in_flat : (test : X → Bool) (start count : ℕ) → ((n : ℕ) → start ≤ n → n < start + count → filter test (f n) ≡ [])
      → filter test (flat_map f (range_with_len start count)) ≡ []
  none_in_flat test start zero none = refl
  none_in_flat test start (suc count) none =
      filter-append test (f start) (flat_map f (range_with_len (start + 1) count))
      ∙ ap (λ xs. xs ++ filter test (flat_map f (range_with_len (start + 1) count))) (none start (omega arith) (omega arith))
      ∙ none_in_flat test (start + 1) count (λ n from to. none n (omega arith) (omega arith))

-- 1 for yes
abbrev one_if : Bool → ℕ
one_if b = cond b 1 0

one_more : (first later : Bool) → (first ≡ true → later ≡ false) → one_if first + one_if later ≡ one_if (first || later)
one_more true later apart = ap (λ b. one_if true + one_if b) (apart refl)
one_more false later apart = omega arith

-- what is counted in lists of which at most one has some
module _ {X : Type 0} (f : ℕ → List X) (kept owns whole : X → Bool) where
  abbrev counted : List X → ℕ
  counted xs = count_by owns (filter kept xs)

  counted_flat : (start count : ℕ)
      → ((n : ℕ) → start ≤ n → n < start + count → counted (f n) ≡ one_if (list_any whole (f n)))
      → ((n m : ℕ) → start ≤ n → n < m → m < start + count → list_any whole (f n) ≡ true → list_any whole (f m) ≡ true → ⊥)
      → counted (flat_map f (range_with_len start count)) ≡ one_if (list_any whole (flat_map f (range_with_len start count)))
  counted_flat start zero each apart = refl
  counted_flat start (suc count) each apart =
      let rest = flat_map f (range_with_len (start + 1) count) in
      let later = counted_flat (start + 1) count (λ n from to. each n (omega arith) (omega arith))
      (λ n m from before to. apart n m (omega arith) before (omega arith)) in
      let here = each start (omega arith) (omega arith) in
      let alone : list_any whole (f start) ≡ true → list_any whole rest ≡ false =
      λ first. false_from_ne_true (list_any whole rest)
      (λ found. let at = any_in_flat f whole (start + 1) count found in
      apart start at.0 (omega arith) (omega (arith, at.1)) (omega (arith, at.2)) first at.3) in
      ap (count_by owns) (filter-append kept (f start) rest)
      ∙ sum_by-append (λ x. cond (owns x) 1 0) (filter kept (f start)) (filter kept rest)
      ∙ ap (λ n. n + counted rest) here ∙ ap (λ n. one_if (list_any whole (f start)) + n) later
      ∙ one_more (list_any whole (f start)) (list_any whole rest) alone
      ∙ ap one_if (sym (list_any-append whole (f start) rest))

-- ---- trees

module _ (described : Description) (built : IsBuilt described) where
  abbrev shape : List ℕ
  shape = arities described.levels

  -- an object of a depth with these arities below it
  record At (below : List ℕ) (depth index : ℕ) : Type 0 where
    pub below_is : drop depth shape ≡ below
    pub within : index < count_at described depth

  deep : (arity : ℕ) (below : List ℕ) (depth : ℕ) → drop depth shape ≡ arity ∷ below → depth < length described.levels
  deep arity below depth is =
      omega (arith, ap length is, length-drop depth shape, length-map described.levels (λ (level : Level). level.arity))

  arity_is : (arity : ℕ) (below : List ℕ) (depth : ℕ) → drop depth shape ≡ arity ∷ below → arity_at described depth ≡ arity
  arity_is arity below depth is =
      let here : depth ≡ depth + 0 = omega arith in
      ap (λ d. get_or shape d 0) here ∙ sym (get_or-drop depth shape 0 0) ∙ ap (λ xs. get_or xs 0 0) is

  -- a child of an object, and its parent
  record IsChild (below : List ℕ) (depth index child : ℕ) : Type 0 where
    pub at : At below (depth + 1) child
    pub parent : parent_of described (layers.Depth (depth + 1)) child ≡ Some (object_at depth index)
    pub first : index * arity_at described depth ≤ child
    pub last : child < index * arity_at described depth + arity_at described depth

  child_of : (arity : ℕ) (below : List ℕ) (depth index child : ℕ) → At (arity ∷ below) depth index → index * arity ≤ child
      → child < index * arity + arity → IsChild below depth index child
  child_of arity below depth index child at from to =
      let same = arity_is arity below depth at.below_is in
      let begins = ap (λ a. index * a) same in
      let low : index * arity_at described depth ≤ child = omega (arith, begins) in
      let high : child < index * arity_at described depth + arity_at described depth = omega (arith, begins, same) in
      let found = child-parent described depth index child built.sound (deep arity below depth at.below_is) at.within low high in
      let deeper : (depth + 1 == 0) ≡ false = ne_eqb (depth + 1) 0 (λ none. absurd (omega arith)) in
      let above : (depth + 1) - 1 ≡ depth = omega arith in
      record {
        at = record { below_is = sym (drop-drop 1 depth shape) ∙ ap (drop 1) at.below_is; within = found.0 };
        parent =
            ap (λ b. cond b None (Some (record {
              layer = layers.Depth (depth + 1 - 1);
              index =
                  child / arity_at described (depth + 1 - 1);
            }))) deeper
            ∙ ap (λ d. Some (record { layer = layers.Depth d; index = child / arity_at described d })) above
            ∙ ap (λ n. Some (record { layer = layers.Depth depth; index = n })) found.1;
        first = low;
        last = high;
      }

  -- an object has what its child has
  from_child : (arity : ℕ) (below : List ℕ) (depth index child number : ℕ) → At (arity ∷ below) depth index
      → IsChild below depth index child
      → has (set_at described (depth + 1) child) number ≡ true → has (set_at described depth index) number ≡ true
  from_child arity below depth index child number at is_child found =
      let start = index * arity_at described depth in
      let count = arity_at described depth in
      let first : start ≤ child = is_child.first in
      let last : child < start + count = is_child.last in
      let there : start + (child - start) ≡ child = omega arith in
      let place : child - start < count = omega arith in
      set_at-children described built depth index number (deep arity below depth at.below_is)
      ∙ list_any_at (λ c. has (set_at described (depth + 1) c) number) (range_with_len start count) (child - start) 0
      (omega (arith, length-range_with_len start count))
      (ap (λ c. has (set_at described (depth + 1) c) number) (get_or-range_with_len start count (child - start) 0 place ∙ there) ∙ found)

  module _ (set : List ℕ) (number : ℕ) where
    abbrev owns : Object → Bool
    owns object = has (set_of described object.layer object.index) number

    abbrev whole : Object → Bool
    whole = is_whole described set number

    abbrev top : Object → Bool
    top = is_largest described set

    -- whether the object above is inside the set
    abbrev above : ℕ → ℕ → Bool
    above depth index = is_above_inside described set (parent_of described (layers.Depth depth) index)

    -- the root of a tree has what an object in it has
    root_owns : (below : List ℕ) (depth index : ℕ) → At below depth index → list_any owns (tree_objects below depth index) ≡ true
        → has (set_at described depth index) number ≡ true
    root_owns [] depth index at found =
        elim (or_cases (has (set_at described depth index) number) false found) [
          | inl here ↦ here
          | inr none ↦ absurd (false≢true none)
        ]
    root_owns (arity ∷ below) depth index at found =
        let children = λ (child : ℕ). tree_objects below (depth + 1) child in
        elim (or_cases (has (set_at described depth index) number)
        (list_any owns (flat_map children (range_with_len (index * arity) arity))) found) [
          | inl here ↦ here
          | inr later ↦
              let child = any_in_flat children owns (index * arity) arity later in
              let is_child = child_of arity below depth index child.0 at child.1 child.2 in
              from_child arity below depth index child.0 number at is_child (root_owns below (depth + 1) child.0 is_child.at child.3)
        ]

    root_has_whole : (below : List ℕ) (depth index : ℕ) → At below depth index → list_any whole (tree_objects below depth index) ≡ true
        → has (set_at described depth index) number ≡ true
    root_has_whole below depth index at found =
        root_owns below depth index at
        (any_weaker whole owns
        (λ object is. (and_parts (is_inside (set_of described object.layer object.index) set) (owns object) is).1)
        (tree_objects below depth index) found)

    -- an object under one whose set is inside is no largest one
    not_top : (depth index : ℕ) → above depth index ≡ true → is_inside (set_at described depth index) set ≡ true
        → top (object_at depth index) ≡ false
    not_top depth index over inside =
        ap (λ b. is_inside (set_at described depth index) set && not b) over ∙ ap (λ b. b && not true) inside

    none_under : (below : List ℕ) (depth index : ℕ) → At below depth index → above depth index ≡ true
        → is_inside (set_at described depth index) set ≡ true → filter top (tree_objects below depth index) ≡ []
    none_under [] depth index at over inside =
        ap (λ b. cond b (object_at depth index ∷ []) []) (not_top depth index over inside)
    none_under (arity ∷ below) depth index at over inside =
        let children = λ (child : ℕ). tree_objects below (depth + 1) child in
        let rest = filter top (flat_map children (range_with_len (index * arity) arity)) in
        ap (λ b. cond b (object_at depth index ∷ rest) rest) (not_top depth index over inside)
        ∙ none_in_flat children top (index * arity) arity (λ child from to.
        let is_child = child_of arity below depth index child at from to in
        none_under below (depth + 1) child is_child.at (ap (is_above_inside described set) is_child.parent ∙ inside)
        (inside-by (set_at described (depth + 1) child) set
        (λ n found. inside-at (set_at described depth index) set n inside (from_child arity below depth index child n at is_child found))))

    -- the root is the only largest object, where its set is inside and that above isn't
    only_root : (below : List ℕ) (depth index : ℕ) → At below depth index → above depth index ≡ false
        → is_inside (set_at described depth index) set ≡ true → filter top (tree_objects below depth index) ≡ object_at depth index ∷ []
    only_root [] depth index at over inside =
        ap (λ b. cond b (object_at depth index ∷ []) [])
        (ap (λ b. is_inside (set_at described depth index) set && not b) over ∙ ap (λ b. b && not false) inside)
    only_root (arity ∷ below) depth index at over inside =
        let children = λ (child : ℕ). tree_objects below (depth + 1) child in
        let rest = filter top (flat_map children (range_with_len (index * arity) arity)) in
        ap (λ b. cond b (object_at depth index ∷ rest) rest)
        (ap (λ b. is_inside (set_at described depth index) set && not b) over ∙ ap (λ b. b && not false) inside)
        ∙ ap (λ xs. object_at depth index ∷ xs) (none_in_flat children top (index * arity) arity (λ child from to.
        let is_child = child_of arity below depth index child at from to in
        none_under below (depth + 1) child is_child.at (ap (is_above_inside described set) is_child.parent ∙ inside)
        (inside-by (set_at described (depth + 1) child) set
        (λ n found. inside-at (set_at described depth index) set n inside (from_child arity below depth index child n at is_child found)))))

    first_whole : (below : List ℕ) (depth index : ℕ) → whole (object_at depth index) ≡ true
        → list_any whole (tree_objects below depth index) ≡ true
    first_whole [] depth index is = or_left (whole (object_at depth index)) false is
    first_whole (arity ∷ below) depth index is =
        or_left (whole (object_at depth index))
        (list_any whole (flat_map (λ child. tree_objects below (depth + 1) child) (range_with_len (index * arity) arity))) is

    inside_counted : (below : List ℕ) (depth index : ℕ) → At below depth index → above depth index ≡ false
        → is_inside (set_at described depth index) set ≡ true
        → count_by owns (filter top (tree_objects below depth index)) ≡ one_if (list_any whole (tree_objects below depth index))
    inside_counted below depth index at over inside =
        let any : list_any whole (tree_objects below depth index) ≡ owns (object_at depth index) =
        same_tests (list_any whole (tree_objects below depth index)) (owns (object_at depth index))
        (λ found. root_has_whole below depth index at found)
        (λ has_it. first_whole below depth index (ap (λ b. b && owns (object_at depth index)) inside ∙ has_it)) in
        let none : 0 + one_if (owns (object_at depth index)) ≡ one_if (owns (object_at depth index)) = omega arith in
        ap (count_by owns) (only_root below depth index at over inside) ∙ none ∙ ap one_if (sym any)

    -- each number is in one largest object where a whole object has it, and else in none
    tree_counted : (below : List ℕ) (depth index : ℕ) → At below depth index → above depth index ≡ false
        → count_by owns (filter top (tree_objects below depth index)) ≡ one_if (list_any whole (tree_objects below depth index))
    tree_counted [] depth index at over =
        elim (cases_Bool (is_inside (set_at described depth index) set)) [
          | inl inside ↦ inside_counted [] depth index at over inside
          | inr outside ↦
              let o = object_at depth index in
              ap (λ b. count_by owns (cond (b && not (above depth index)) (o ∷ []) [])) outside
              ∙ sym (ap (λ b. one_if ((b && owns o) || false)) outside)
        ]
    tree_counted (arity ∷ below) depth index at over =
        let o = object_at depth index in
        let children = λ (child : ℕ). tree_objects below (depth + 1) child in
        let rest = flat_map children (range_with_len (index * arity) arity) in
        elim (cases_Bool (is_inside (set_at described depth index) set)) [
          | inl inside ↦ inside_counted (arity ∷ below) depth index at over inside
          | inr outside ↦
              ap (λ b. count_by owns (cond (b && not (above depth index)) (o ∷ filter top rest) (filter top rest))) outside
              ∙ counted_flat children top owns whole (index * arity) arity
              (λ child from to.
              let is_child = child_of arity below depth index child at from to in
              tree_counted below (depth + 1) child is_child.at (ap (is_above_inside described set) is_child.parent ∙ outside))
              (λ n m from before to one other.
              let first = child_of arity below depth index n at from (omega arith) in
              let second = child_of arity below depth index m at (omega arith) to in
              let both = meets-by (set_at described (depth + 1) n) (set_at described (depth + 1) m) number
              (root_has_whole below (depth + 1) n first.at one) (root_has_whole below (depth + 1) m second.at other) in
              let differ : n ≡ m → ⊥ = λ same. absurd (omega arith) in
              false≢true (sym (set_at-apart described built (depth + 1) n m differ) ∙ both))
              ∙ sym (ap (λ b. one_if ((b && owns o) || list_any whole rest)) outside)
        ]

    pub largest_counted : count_by owns (largest described set) ≡ one_if (list_any whole (tree_order described))
    unfolding largest tree_order
    largest_counted =
        let some = some_count described built 0 in
        tree_counted shape 0 0 (record { below_is = refl; within = omega (arith, some) }) refl
