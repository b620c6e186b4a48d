-- Laws of the sets of objects, by the positions of the PUs that they cover.
use Rattle.std.proofs.Common.{
  ◌≡◌,
  ◌≢◌,
  ℕ,
  zero,
  suc,
  ◌+◌,
  ◌-◌,
  ◌*◌,
  ◌/◌,
  ◌<◌,
  ◌≤◌,
  Bool,
  true,
  false,
  ◌&&◌,
  nat_le,
  length,
  refl,
  sym,
  ap,
  ◌∙◌,
  inl,
  inr,
  arith,
}
use Rattle.std.proofs.Math.Nat.{mul_comm, mul_assoc, div-eq_of_eq-mul_left, eq_of_mul-eq-mul_left, mul-le-mul_right}
use Rattle.std.specs.List.{range_with_len, list_any}
use Rattle.std.proofs.lemmas.Bool.{cases_order, or_cases, false≢true}
use Rattle.std.proofs.lemmas.Nat.{div_below, le-div, div-add-mod', mod_below}
use Rattle.std.proofs.lemmas.List.Folds.{list_any_at}
use Rattle.std.proofs.lemmas.List.FromFn.{length-range_with_len, get_or-range_with_len}
use Rattle.cpu_set.specs.Sets.{has}
use Rattle.cpu_set.specs.Tests.{meets, is_inside}
use Rattle.cpu_set.proofs.TestLaws.{same_tests}
use Rattle.synth_text.specs.declared.description.Description.{Description}
use Rattle.synth_text.specs.Rules.{arities, pu_count}
use Rattle.topo_tree.specs.Objects.{count_at, arity_at}
use Rattle.topo_tree.specs.Building.{pu_numbers, IsBuilt}
use Rattle.topo_tree.specs.Coverage.{first_covered, set_covered, set_at}
use Rattle.topo_tree.proofs.Covered.{AreGood, set_between}
use Rattle.topo_tree.specs.Beginnings.{width_at}
use Rattle.topo_tree.proofs.CountLaws.{have_arities, count_some, width_some, product_split, count_more}
use Rattle.topo_tree.proofs.Lookups.{length-pu_numbers, pus_good, pus_numbered}
use Rattle.topo_tree.proofs.CoverLaws.{between-has, has-between, between-inside, between-apart, between-behind, length-set_between}

-- a position lies within the width that its quotient counts
div_place : (k width : ℕ) → 1 ≤ width → (k / width * width ≤ k) × (k < (k / width + 1) * width)
div_place k width some =
    let whole = div-add-mod' k width in
    let rest = mod_below k width (omega arith) in
    (omega (arith, whole), omega (arith, whole, rest))

-- what passes in a range stands at a place of it
pub any_in_range : (test : ℕ → Bool) (start count : ℕ) → list_any test (range_with_len start count) ≡ true → (n : ℕ) × (start ≤ n)
    × (n < start + count) × (test n ≡ true)
any_in_range test start zero found = absurd (false≢true found)
any_in_range test start (suc count) found =
    elim (or_cases (test start) (list_any test (range_with_len (start + 1) count)) found) [
      | inl here ↦ (start, omega arith, omega arith, here)
      | inr later ↦ let at = any_in_range test (start + 1) count later in (at.0, omega (arith, at.1), omega (arith, at.2), at.3)
    ]

module _ (described : Description) (built : IsBuilt described) where
  pub numbers_good : AreGood (pu_numbers described)
  numbers_good = pus_good described (pus_numbered described built)

  -- the objects of a depth, each with its width, have all PUs
  pub widths : (depth : ℕ) → count_at described depth * width_at described depth ≡ pu_count described
  widths depth = product_split depth (arities described.levels)

  pub some_count : (depth : ℕ) → 1 ≤ count_at described depth
  some_count depth = count_some depth described.levels (have_arities described built.sound)

  pub some_width : (depth : ℕ) → 1 ≤ width_at described depth
  some_width depth = width_some depth described.levels (have_arities described built.sound)

  pub first-at : (depth index : ℕ) → first_covered (pu_count described) (count_at described depth) index ≡ index * width_at described depth
  first-at depth index =
      div-eq_of_eq-mul_left (some_count depth)
      (ap (λ n. index * n) (sym (widths depth) ∙ mul_comm (count_at described depth) (width_at described depth))
      ∙ sym (mul_assoc index (width_at described depth) (count_at described depth)))

  -- the set of an object is that of the PUs from its first on
  pub set_at-between : (depth index : ℕ)
      → set_at described depth index ≡ set_between (pu_numbers described) (index * width_at described depth)
      ((index + 1) * width_at described depth)
  unfolding set_covered set_between
  set_at-between depth index =
      let long = length-pu_numbers described in
      let first = λ (i : ℕ). ap (λ n. first_covered n (count_at described depth) i) long ∙ first-at depth i in
      ap (λ from. set_between (pu_numbers described) from
      (first_covered (length (pu_numbers described)) (count_at described depth) (index + 1))) (first index)
      ∙ ap (λ to. set_between (pu_numbers described) (index * width_at described depth) to) (first (index + 1))

  pub last_within : (depth index : ℕ) → index < count_at described depth → (index + 1) * width_at described depth ≤ pu_count described
  last_within depth index below =
      omega (
        arith,
        widths depth,
        mul-le-mul_right (width_at described depth)
            (let next : index + 1 ≤ count_at described depth = omega arith in next),
      )

  next_first : (index width : ℕ) → (index + 1) * width ≡ index * width + width
  next_first index width = omega arith

  pub length-set_at : (depth index : ℕ) → index < count_at described depth
      → length (set_at described depth index) ≡ width_at described depth
  length-set_at depth index below =
      let width = width_at described depth in
      ap length (set_at-between depth index)
      ∙ ap (λ to. length (set_between (pu_numbers described) (index * width) to)) (next_first index width)
      ∙ length-set_between (pu_numbers described) (index * width) width numbers_good
      (omega (arith, next_first index width, last_within depth index below, length-pu_numbers described))

  -- one object's set is inside another's exactly where its positions are
  pub set_at-inside : (depth index other above : ℕ) → index < count_at described depth
      → is_inside (set_at described depth index)
      (set_at described other above) ≡ (nat_le (above * width_at described other) (index * width_at described depth) && nat_le
      ((index + 1) * width_at described depth) ((above + 1) * width_at described other))
  set_at-inside depth index other above below =
      ap (λ set. is_inside set (set_at described other above)) (set_at-between depth index)
      ∙ ap (λ set. is_inside (set_between (pu_numbers described) (index * width_at described depth)
      ((index + 1) * width_at described depth)) set) (set_at-between other above)
      ∙ between-inside (pu_numbers described) (index * width_at described depth) ((index + 1) * width_at described depth)
      (above * width_at described other) ((above + 1) * width_at described other) numbers_good
      (omega (arith, some_width depth, next_first index (width_at described depth)))
      (omega (arith, last_within depth index below, length-pu_numbers described))

  apart_before : (depth index other : ℕ) → index < other → meets (set_at described depth index) (set_at described depth other) ≡ false
  apart_before depth index other before =
      ap (λ set. meets set (set_at described depth other)) (set_at-between depth index)
      ∙ ap (λ set. meets (set_between (pu_numbers described) (index * width_at described depth) ((index + 1) * width_at described depth))
      set) (set_at-between depth other)
      ∙ between-apart (pu_numbers described) (index * width_at described depth) ((index + 1) * width_at described depth)
      (other * width_at described depth) ((other + 1) * width_at described depth) numbers_good
      (mul-le-mul_right (width_at described depth) (let next : index + 1 ≤ other = omega arith in next))

  apart_behind : (depth index other : ℕ) → other < index → meets (set_at described depth index) (set_at described depth other) ≡ false
  apart_behind depth index other behind =
      ap (λ set. meets set (set_at described depth other)) (set_at-between depth index)
      ∙ ap (λ set. meets (set_between (pu_numbers described) (index * width_at described depth) ((index + 1) * width_at described depth))
      set) (set_at-between depth other)
      ∙ between-behind (pu_numbers described) (index * width_at described depth) ((index + 1) * width_at described depth)
      (other * width_at described depth) ((other + 1) * width_at described depth) numbers_good
      (mul-le-mul_right (width_at described depth) (let next : other + 1 ≤ index = omega arith in next))

  -- the sets of a depth are disjoint
  pub set_at-apart : (depth index other : ℕ) → index ≢ other → meets (set_at described depth index) (set_at described depth other) ≡ false
  set_at-apart depth index other differ =
      elim (cases_order index other) [
        | inl same ↦ absurd (differ same)
        | inr order ↦ elim order [ inl before ↦ apart_before depth index other before | inr behind ↦ apart_behind depth index other behind ]
      ]

  -- ---- the children of an object

  abbrev children_has : ℕ → ℕ → ℕ → Bool
  children_has depth index n =
      list_any (λ child. has (set_at described (depth + 1) child) n)
      (range_with_len (index * arity_at described depth) (arity_at described depth))

  pub width_more : (depth : ℕ) → depth < length described.levels
      → width_at described depth ≡ arity_at described depth * width_at described (depth + 1)
  width_more depth within =
      let here = widths depth in
      let next = widths (depth + 1) in
      let count = count_more depth described.levels within in
      eq_of_mul-eq-mul_left (count_at described depth) (some_count depth) (width_at described depth)
      (arity_at described depth * width_at described (depth + 1))
      (here ∙ sym next ∙ ap (λ n. n * width_at described (depth + 1)) count
      ∙ mul_assoc (count_at described depth) (arity_at described depth) (width_at described (depth + 1)))

  child_within : (depth index child : ℕ) → depth < length described.levels → index * arity_at described depth ≤ child
      → child < index * arity_at described depth + arity_at described depth
      → (index * width_at described depth ≤ child * width_at described (depth + 1))
      × ((child + 1) * width_at described (depth + 1) ≤ (index + 1) * width_at described depth)
  child_within depth index child within from to =
      let width = width_at described (depth + 1) in
      let arity = arity_at described depth in
      let more = width_more depth within in
      let low = mul-le-mul_right width from in
      let high = mul-le-mul_right width (let next : child + 1 ≤ index * arity + arity = omega arith in next) in
      let start = mul_assoc index arity width in
      (omega (arith, low, start, ap (λ w. index * w) more), omega (arith, high, start, ap (λ w. index * w) more, more))

  has_in_child : (depth index n : ℕ) → depth < length described.levels → has (set_at described depth index) n ≡ true
      → children_has depth index n ≡ true
  has_in_child depth index n within found =
      let width = width_at described (depth + 1) in
      let arity = arity_at described depth in
      let at = between-has (pu_numbers described) (index * width_at described depth) ((index + 1) * width_at described depth) n
      (sym (ap (λ set. has set n) (set_at-between depth index)) ∙ found) in
      let child = at.0 / width in
      let some = some_width (depth + 1) in
      let more = width_more depth within in
      let start = mul_assoc index arity width in
      let below : child < index * arity + arity =
      div_below at.0 width (index * arity + arity) (omega arith) (omega (arith, at.2, start, ap (λ w. index * w) more, more)) in
      let above : index * arity ≤ child =
      le-div (index * arity) at.0 width (omega arith) (omega (arith, at.1, start, ap (λ w. index * w) more)) in
      let inside = div_place at.0 width some in
      let place : (index * arity) + (child - index * arity) ≡ child = omega arith in
      list_any_at (λ c. has (set_at described (depth + 1) c) n) (range_with_len (index * arity) arity) (child - index * arity) 0
      (omega (arith, length-range_with_len (index * arity) arity))
      (ap (λ c. has (set_at described (depth + 1) c) n)
      (get_or-range_with_len (index * arity) arity (child - index * arity) 0 (omega arith) ∙ place)
      ∙ ap (λ set. has set n) (set_at-between (depth + 1) child)
      ∙ ap (has (set_between (pu_numbers described) (child * width) ((child + 1) * width))) (sym at.4)
      ∙ has-between (pu_numbers described) (child * width) ((child + 1) * width) at.0 numbers_good at.3 inside.0 inside.1)

  has_from_child : (depth index n : ℕ) → depth < length described.levels → children_has depth index n ≡ true
      → has (set_at described depth index) n ≡ true
  has_from_child depth index n within found =
      let first = index * arity_at described depth in
      let arity = arity_at described depth in
      let at = any_in_range (λ c. has (set_at described (depth + 1) c) n) first arity found in
      let child = at.0 in
      let inside = child_within depth index child within at.1 at.2 in
      let place = between-has (pu_numbers described) (child * width_at described (depth + 1))
      ((child + 1) * width_at described (depth + 1)) n (sym (ap (λ set. has set n) (set_at-between (depth + 1) child)) ∙ at.3) in
      ap (λ set. has set n) (set_at-between depth index)
      ∙ ap (has (set_between (pu_numbers described) (index * width_at described depth) ((index + 1) * width_at described depth)))
      (sym place.4)
      ∙ has-between (pu_numbers described) (index * width_at described depth)
      ((index + 1) * width_at described depth) place.0 numbers_good place.3
      (omega (arith, place.1, inside.0)) (omega (arith, place.2, inside.1))

  -- the children's sets make up their parent's
  pub set_at-children : (depth index n : ℕ) → depth < length described.levels
      → has (set_at described depth index) n ≡ children_has depth index n
  set_at-children depth index n within =
      same_tests (has (set_at described depth index) n) (children_has depth index n) (has_in_child depth index n within)
      (has_from_child depth index n within)

  -- ---- all objects of a depth

  one_machine : (1 ≡ count_at described 0) × (width_at described 0 ≡ pu_count described)
  one_machine = (refl, refl)

  abbrev any_has : ℕ → ℕ → Bool
  any_has depth n = list_any (λ index. has (set_at described depth index) n) (range_with_len 0 (count_at described depth))

  machine_has : (depth n : ℕ) → any_has depth n ≡ true → has (set_at described 0 0) n ≡ true
  machine_has depth n found =
      let at = any_in_range (λ index. has (set_at described depth index) n) 0 (count_at described depth) found in
      let width = width_at described depth in
      let place = between-has (pu_numbers described) (at.0 * width) ((at.0 + 1) * width) n
      (sym (ap (λ set. has set n) (set_at-between depth at.0)) ∙ at.3) in
      ap (λ set. has set n) (set_at-between 0 0)
      ∙ ap (has (set_between (pu_numbers described) (0 * width_at described 0) ((0 + 1) * width_at described 0))) (sym place.4)
      ∙ has-between (pu_numbers described) (0 * width_at described 0) ((0 + 1) * width_at described 0) place.0 numbers_good place.3
      (omega arith) (omega (arith, place.3, length-pu_numbers described, one_machine.1))

  has_some : (depth n : ℕ) → has (set_at described 0 0) n ≡ true → any_has depth n ≡ true
  has_some depth n found =
      let width = width_at described depth in
      let count = count_at described depth in
      let at = between-has (pu_numbers described) (0 * width_at described 0) ((0 + 1) * width_at described 0) n
      (sym (ap (λ set. has set n) (set_at-between 0 0)) ∙ found) in
      let index = at.0 / width in
      let some = some_width depth in
      let inside = div_place at.0 width some in
      let below : index < count = div_below at.0 width count (omega arith)
      (omega (arith, at.3, length-pu_numbers described, widths depth)) in
      list_any_at (λ i. has (set_at described depth i) n) (range_with_len 0 count) index 0 (omega (arith, length-range_with_len 0 count))
      (ap (λ i. has (set_at described depth i) n) (get_or-range_with_len 0 count index 0 below ∙ zero_plus index)
      ∙ ap (λ set. has set n) (set_at-between depth index)
      ∙ ap (has (set_between (pu_numbers described) (index * width) ((index + 1) * width))) (sym at.4)
      ∙ has-between (pu_numbers described) (index * width) ((index + 1) * width) at.0 numbers_good at.3 inside.0 inside.1)
    where
      zero_plus : (i : ℕ) → 0 + i ≡ i
      zero_plus i = omega arith

  -- the objects of a depth make up Machine
  pub set_at-machine : (depth n : ℕ) → has (set_at described 0 0) n ≡ any_has depth n
  set_at-machine depth n = same_tests (has (set_at described 0 0) n) (any_has depth n) (has_some depth n) (machine_has depth n)
