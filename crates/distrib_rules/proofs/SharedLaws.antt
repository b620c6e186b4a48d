-- The shares of objects that stand side by side.
use Rattle.std.proofs.Common.{◌≡◌, ℕ, zero, suc, ◌+◌, ◌-◌, ◌*◌, ◌<◌, ◌≤◌, Bool, true, false, if◌then◌else◌, List, [], ◌∷◌, length, take}
use Rattle.std.proofs.Common.{reverse, get_or, refl, sym, ap, ◌∙◌, arith}
use Rattle.std.proofs.Math.Nat.{mul_assoc, mul_comm}
use Rattle.std.specs.List.{range_with_len, sum_by, AllByRecursion}
use Rattle.std.proofs.lemmas.List.{length-reverse, get_or-reverse}
use Rattle.std.proofs.lemmas.List.Elements.{All-from_get_or, recursion_from_All}
use Rattle.std.proofs.lemmas.List.Sums.{sum_by-cons}
use Rattle.std.proofs.lemmas.List.FromFn.{length-range_with_len, get_or-range_with_len}
use Rattle.synth_text.specs.declared.description.Description.{Description}
use Rattle.topo_tree.specs.Objects.{count_at}
use Rattle.topo_tree.specs.Building.{IsBuilt}
use Rattle.topo_tree.specs.Beginnings.{width_at}
use Rattle.topo_tree.proofs.PlaceLaws.{length-set_at, some_width}
use Rattle.distrib_rules.specs.Shares.{rounded_up, share_of, Pair, weight_of, shared_behind, shared, in_order}
use Rattle.distrib_rules.proofs.Rounding.{rounded_scaled}

-- each is the index of an object of a depth
abbrev pub AreObjects : Description → ℕ → List ℕ → Type 0
AreObjects described depth indexes = AllByRecursion (λ index. index < count_at described depth) indexes

-- ---- indexes side by side

pub length-in_order : (backwards : Bool) (first count : ℕ) → length (in_order backwards (range_with_len first count)) ≡ count
length-in_order true first count = length-reverse (range_with_len first count) ∙ length-range_with_len first count
length-in_order false first count = length-range_with_len first count

pub in_order-at : (backwards : Bool) (first count place : ℕ) → place < count
    → get_or (in_order backwards (range_with_len first count)) place 0 ≡ (if backwards then first + (count - 1 - place) else first + place)
in_order-at true first count place within =
    let long = length-range_with_len first count in
    get_or-reverse (range_with_len first count) place 0 (omega (arith, long))
    ∙ ap (λ n. get_or (range_with_len first count) (n - 1 - place) 0) long
    ∙ get_or-range_with_len first count (count - 1 - place) 0 (omega arith)
in_order-at false first count place within = get_or-range_with_len first count place 0 within

in_order-low : (backwards : Bool) (first count place : ℕ) → place < count
    → get_or (in_order backwards (range_with_len first count)) place 0 < first + count
in_order-low true first count place within = omega (arith, in_order-at true first count place within)
in_order-low false first count place within = omega (arith, in_order-at false first count place within)

pub are_objects : (described : Description) (depth first count : ℕ) (backwards : Bool) → first + count ≤ count_at described depth
    → AreObjects described depth (in_order backwards (range_with_len first count))
are_objects described depth first count backwards within =
    recursion_from_All (λ index. index < count_at described depth) (in_order backwards (range_with_len first count))
    (All-from_get_or (λ index. index < count_at described depth) (in_order backwards (range_with_len first count)) 0 (λ place below.
    omega (arith, in_order-low backwards first count place (omega (arith, length-in_order backwards first count)))))

-- ---- weights

module _ (described : Description) (built : IsBuilt described) (depth : ℕ) where
  pub total_weight : (indexes : List ℕ) → AreObjects described depth indexes
      → sum_by (weight_of described depth) indexes ≡ length indexes * width_at described depth
  total_weight [] objects = omega arith
  total_weight (index ∷ indexes) objects =
      let long : length (index ∷ indexes) ≡ length indexes + 1 = omega arith in
      let sum = sum_by-cons (weight_of described depth) index indexes in
      let product = ap (λ n. n * width_at described depth) long in
      omega (arith, length-set_at described built depth index objects.0, total_weight indexes objects.1, sum, product)

  -- the pair at a place
  abbrev pair_at : ℕ → ℕ → ℕ → ℕ → Pair
  pair_at n total before index = record { depth = depth; index = index; share = share_of n total before (width_at described depth) }

  pub behind-at : (n total start : ℕ) (indexes : List ℕ) (place : ℕ) (d : Pair) → AreObjects described depth indexes
      → place < length indexes
      → get_or (shared_behind described n total depth (start * width_at described depth) indexes) place d
      ≡ pair_at n total ((start + place) * width_at described depth) (get_or indexes place 0)
  behind-at n total start [] place d objects within = absurd (omega arith)
  behind-at n total start (index ∷ indexes) zero d objects within =
      let same : start ≡ start + zero = omega arith in
      ap (λ weight. record { depth = depth; index = index; share = share_of n total (start * width_at described depth) weight })
      (length-set_at described built depth index objects.0)
      ∙ ap (λ s. pair_at n total (s * width_at described depth) index) same
  behind-at n total start (index ∷ indexes) (suc place) d objects within =
      let next : start * width_at described depth + weight_of described depth index ≡ (start + 1) * width_at described depth =
      omega (arith, length-set_at described built depth index objects.0) in
      let further : (start + 1) + place ≡ start + suc place = omega arith in
      ap (λ before. get_or (shared_behind described n total depth before indexes) place d) next
      ∙ behind-at n total (start + 1) indexes place d objects.1 (omega arith)
      ∙ ap (λ s. pair_at n total (s * width_at described depth) (get_or indexes place 0)) further

  pub length-behind : (n total before : ℕ) (indexes : List ℕ)
      → length (shared_behind described n total depth before indexes) ≡ length indexes
  length-behind n total before [] = refl
  length-behind n total before (index ∷ indexes) = omega (arith, length-behind n total (before + weight_of described depth index) indexes)

  pub length-shared : (n : ℕ) (indexes : List ℕ) → length (shared described n depth indexes) ≡ length indexes
  unfolding shared
  length-shared n indexes = length-behind n (sum_by (weight_of described depth) indexes) 0 indexes

  share_by_one : (n count place : ℕ) → 1 ≤ count
      → share_of n (count * width_at described depth) (place * width_at described depth) (width_at described depth)
      ≡ rounded_up ((place + 1) * n) count - rounded_up (place * n) count
  share_by_one n count place some =
      let width = width_at described depth in
      let next : (place * width + width) * n ≡ ((place + 1) * n) * width = omega (arith, turned place width n) in
      let here : (place * width) * n ≡ (place * n) * width = omega (arith, turned place width n) in
      ap (λ part. rounded_up part (count * width) - rounded_up ((place * width) * n) (count * width)) next
      ∙ ap (λ part. rounded_up (((place + 1) * n) * width) (count * width) - rounded_up part (count * width)) here
      ∙ ap (λ q. q - rounded_up ((place * n) * width) (count * width))
      (rounded_scaled ((place + 1) * n) count width some (some_width described built depth))
      ∙ ap (λ q. rounded_up ((place + 1) * n) count - q) (rounded_scaled (place * n) count width some (some_width described built depth))
    where
      turned : (a b c : ℕ) → (a * b) * c ≡ (a * c) * b
      turned a b c = mul_assoc a b c ∙ ap (λ m. a * m) (mul_comm b c) ∙ sym (mul_assoc a c b)

  -- the share of the object at a place is by its place alone
  pub shared-at : (n : ℕ) (indexes : List ℕ) (place : ℕ) (d : Pair) → AreObjects described depth indexes → place < length indexes
      → get_or (shared described n depth indexes) place d
      ≡ record {
        depth = depth;
        index = get_or indexes place 0;
        share =
            rounded_up ((place + 1) * n) (length indexes) - rounded_up (place * n) (length indexes);
      }
  unfolding shared
  shared-at n indexes place d objects within =
      let total = sum_by (weight_of described depth) indexes in
      let none : 0 ≡ 0 * width_at described depth = omega arith in
      let here : 0 + place ≡ place = omega arith in
      ap (λ before. get_or (shared_behind described n total depth before indexes) place d) none
      ∙ behind-at n total 0 indexes place d objects within
      ∙ ap (λ s. pair_at n total (s * width_at described depth) (get_or indexes place 0)) here
      ∙ ap (λ t. pair_at n t (place * width_at described depth) (get_or indexes place 0)) (total_weight indexes objects)
      ∙ ap (λ share. record { depth = depth; index = get_or indexes place 0; share = share })
      (share_by_one n (length indexes) place (omega arith))
